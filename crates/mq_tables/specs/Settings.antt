-- The row of settings, which says what a ledger was made with and how many requests it has applied, and that of the rule.
use Rattle.std.specs.Prelude.{◌≡◌, ◌⊎◌, ℕ, ℤ, pos, List, [], ◌∷◌, Option, Some, None, Result, Ok, Err}
use Rattle.sqlite.specs.declared.types.Value.{Value}
use Rattle.sqlite.specs.declared.types.Value.TheVariants.{Null, Int, Blob}
use Rattle.sqlite.specs.declared.error.Error.{Error}
use Rattle.sqlite.specs.declared.error.Error.TheVariants.{QueryReturnedNoRows}
use Rattle.sqlite.specs.Order.{Row, column}
use Rattle.sqlite.specs.Effect.{Database}
use Rattle.sqlite.specs.State.{store_error}
use Rattle.sqlite_trees.specs.declared.error.StoreError.{StoreError}
use Rattle.mq_tables.specs.declared.setting.Setting.{Setting}
use Rattle.mq_tables.specs.declared.setting.NewSetting.{NewSetting}
use Rattle.mq_ledger.specs.Day.{minutes_in}
use Rattle.mq_rows.specs.declared.setting.TheConstants.{VERSION}
use Rattle.mq_tables.specs.Places.{IsSettingIn}

-- the row of settings, whatever whole numbers it holds
pub record SettingRow : Type 0 where
  pub version : ℤ
  pub minutes : ℤ
  pub cap : ℤ
  pub arrivals : ℤ

-- its key is 1, which the column of the key keeps as NULL
abbrev pub setting_fields : SettingRow → Row
setting_fields s = Int (pos 1) ∷ Null ∷ Int s.version ∷ Int s.minutes ∷ Int s.cap ∷ Int s.arrivals ∷ []

-- that of a ledger that has applied so many requests
abbrev pub setting_after : ℤ → NewSetting → SettingRow
setting_after arrivals made =
    record { version = pos VERSION; minutes = minutes_in made.zone; cap = pos made.cap; arrivals = arrivals }

-- our table of settings is there, at some place, and has this one row
pub record HasSetting (db : Database) (s : SettingRow) : Type 0 where
  pub tree : ℕ
  pub table : IsSettingIn db.schema tree
  pub row : db.trees tree ≡ setting_fields s ∷ []

-- three values, where they are whole numbers
abbrev pub setting_of_values : Value → Value → Value → Option Setting
setting_of_values (Int version) (Int minutes) (Int cap) =
    Some (record { version = version; minutes = minutes; cap = cap })
setting_of_values _ _ _ = None

-- what is read of a row, where its first three columns are whole numbers
abbrev pub setting_of : Row → Option Setting
setting_of row = setting_of_values (column row 0) (column row 1) (column row 2)

-- what is read where the store answers so
abbrev pub reading : Result Row Error → Result (Option Setting) Error
reading (Ok row) = Ok (setting_of row)
reading (Err e) = Err e

-- what is read of the row of settings: all but the count of answers
abbrev pub shown_of : SettingRow → Setting
shown_of s = record { version = s.version; minutes = s.minutes; cap = s.cap }

-- memory or the disk stopped a reading
abbrev pub IsStop : Error → Type 0
IsStop e = (cause : StoreError) × (e ≡ store_error cause)

-- so it was
abbrev pub IsStopped : Result (Option Setting) Error → Type 0
IsStopped (Ok found) = ⊥
IsStopped (Err e) = IsStop e

-- the row was read, or memory or the disk stopped the reading
abbrev pub IsOf : SettingRow → Result (Option Setting) Error → Type 0
IsOf s r = (r ≡ Ok (Some (shown_of s))) ⊎ IsStopped r

-- the row of a rule with this text; its key is 1, which the column of the key keeps as NULL
abbrev pub rule_fields : List ℕ → Row
rule_fields text = Int (pos 1) ∷ Null ∷ Blob text ∷ []

-- the rows of the table of rules: that of the rule, where there is one
abbrev pub rule_rows : Option (List ℕ) → List Row
rule_rows None = []
rule_rows (Some text) = rule_fields text ∷ []

-- the bytes of a value
abbrev pub text_of_value : Value → Option (List ℕ)
text_of_value (Blob text) = Some text
text_of_value _ = None

-- the text of the rule that was read
abbrev pub rule_text_of : Row → Option (List ℕ)
rule_text_of row = text_of_value (column row 0)

-- the row of the rule was read, or found to be absent, or the reading was stopped
abbrev pub IsRuleOf : Option (List ℕ) → Result Row Error → Type 0
IsRuleOf (Some text) (Ok row) = row ≡ Blob text ∷ []
IsRuleOf (Some text) (Err e) = IsStop e
IsRuleOf None (Ok row) = ⊥
IsRuleOf None (Err e) = (e ≡ QueryReturnedNoRows) ⊎ IsStop e
