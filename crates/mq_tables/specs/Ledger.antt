-- A store that has a ledger's tables, and what they hold.
use Rattle.std.specs.Prelude.{◌≡◌, ℕ, pos, nat_le, Bool, true, false, List, [], ◌∷◌, Option, None}
use Rattle.sqlite.specs.Effect.{Database, IsDatabase}
use Rattle.sqlite.specs.Order.{Row}
use Rattle.sqlite.specs.Schema.{Schema}
use Rattle.sqlite.specs.Table.{Table}
use Rattle.sqlite.specs.Tree.{Trees}
use Rattle.mq_rows.specs.declared.record.SettingRecord.{SettingRecord}
use Rattle.mq_rows.specs.declared.setting.TheConstants.{VERSION}
use Rattle.mq_rows.specs.Tables.{Tables}
use Rattle.mq_rows.specs.declared.record.RetiredRecord.{RetiredRecord}
use Rattle.mq_tables.specs.Places.{IsTableIn, IsSettingIn, IsAnswerIn, IsTransIn, IsUsageIn, IsCeilingIn, IsRetiredIn}
use Rattle.mq_tables.specs.Places.{IsUnreferred, IsUnnamed}
use Rattle.mq_tables.specs.Records.{HoldsAnswers, HoldsTransactions, HoldsUsage, HoldsLimits, HoldsRetired}
use Rattle.mq_tables.specs.Settings.{SettingRow, setting_fields, rule_rows}
use Rattle.mq_tables.specs.Tables.{rule_table, retired_table}

-- the trees of the five tables
pub record Places : Type 0 where
  pub setting : ℕ
  pub answer : ℕ
  pub trans : ℕ
  pub usage : ℕ
  pub ceiling : ℕ

-- The schema has the five tables at these places, and no foreign key refers to one whose rows change.
pub record IsLedgerIn (schema : Schema) (at : Places) : Type 0 where
  pub setting : IsSettingIn schema at.setting
  pub answer : IsAnswerIn schema at.answer
  pub trans : IsTransIn schema at.trans
  pub usage : IsUsageIn schema at.usage
  pub ceiling : IsCeilingIn schema at.ceiling
  pub setting_alone : IsUnreferred schema at.setting
  pub answer_alone : IsUnreferred schema at.answer
  pub trans_alone : IsUnreferred schema at.trans
  pub usage_alone : IsUnreferred schema at.usage
  pub ceiling_alone : IsUnreferred schema at.ceiling

-- the row of settings that a record stands for, without the rule
abbrev pub setting_in : SettingRecord → SettingRow
setting_in s = record { version = pos s.version; minutes = s.minutes; cap = pos s.cap; arrivals = pos s.arrivals }

-- the trees hold these rows
pub record HoldsRows (trees : Trees) (at : Places) (t : Tables) : Type 0 where
  pub setting : trees at.setting ≡ setting_fields (setting_in t.setting) ∷ []
  pub answers : HoldsAnswers (trees at.answer) t.answers
  pub transactions : HoldsTransactions (trees at.trans) t.transactions
  pub usage : HoldsUsage (trees at.usage) t.usage
  pub limits : HoldsLimits (trees at.ceiling) t.limits

-- the table is there, at some place, and has these rows
pub record IsThere (db : Database) (made : Table) (rows : List Row) : Type 0 where
  pub tree : ℕ
  pub table : IsTableIn db.schema made tree
  pub holds : db.trees tree ≡ rows

-- our table of the rule is there, at some place, with the row of this one, or with none
abbrev pub HasRule : Database → Option (List ℕ) → Type 0
HasRule db rule = IsThere db rule_table (rule_rows rule)

-- the one from this version of the tables on, and the other before it
abbrev pub Since : Bool → Type 0 → Type 0 → Type 0
Since true Now Before = Now
Since false Now Before = Before

-- the table of floors is there, at some place, with these rows, and no foreign key refers to it
pub record HasFloors (db : Database) (rows : List RetiredRecord) : Type 0 where
  pub tree : ℕ
  pub table : IsRetiredIn db.schema tree
  pub alone : IsUnreferred db.schema tree
  pub holds : HoldsRetired (db.trees tree) rows

-- there are no floors, and no foreign key names a table as theirs
pub record HasNoFloors (db : Database) (rows : List RetiredRecord) : Type 0 where
  pub none : rows ≡ []
  pub unnamed : IsUnnamed db.schema retired_table.name

-- What tables of later versions hold: from version 2 on there is one for the rule, and before it no rule; from version 3
-- on there is one for the floors, and before it no floor.
pub record HasLater (db : Database) (t : Tables) : Type 0 where
  pub rule : Since (nat_le 2 t.setting.version) (HasRule db t.setting.rule) (t.setting.rule ≡ None)
  pub retired : Since (nat_le 3 t.setting.version) (HasFloors db t.retired) (HasNoFloors db t.retired)

-- they are those of the version that a ledger has once it is opened
abbrev pub IsCurrent : Tables → Type 0
IsCurrent t = t.setting.version ≡ VERSION

-- The store has the five tables at some places, and those of its version; they hold these rows. Its trees list its
-- schema, as those of an open store do.
pub record HasLedger (db : Database) (t : Tables) : Type 0 where
  pub sound : IsDatabase db
  pub at : Places
  pub tables : IsLedgerIn db.schema at
  pub holds : HoldsRows db.trees at t
  pub later : HasLater db t
