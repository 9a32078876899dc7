-- What a statement leaves, over any schema that has its table at some place.
use Rattle.std.specs.Prelude.{◌≡◌, ◌≢◌, ℕ, ◌+◌, Bool, true, false, List, [], ◌∷◌, ◌++◌, length}
use Rattle.std.specs.List.{AllByRecursion}
use Rattle.std.specs.List.Sorted.{IsPermutation}
use Rattle.sqlite.specs.Order.{Row}
use Rattle.sqlite.specs.Schema.{Schema}
use Rattle.sqlite.specs.Tree.{Trees}
use Rattle.sqlite.specs.Effect.{Database, IsDatabase}
use Rattle.sqlite.specs.State.{State}
use Rattle.mq_rows.specs.declared.plan.Write.{Write}
use Rattle.mq_rows.specs.declared.plan.Write.TheVariants.{Keep, Insert, Update}
use Rattle.mq_rows.specs.declared.record.AnswerRecord.{AnswerRecord}
use Rattle.mq_rows.specs.declared.record.TransactionRecord.{TransactionRecord}
use Rattle.mq_rows.specs.declared.record.UsageRecord.{UsageRecord}
use Rattle.mq_rows.specs.declared.record.LimitRecord.{LimitRecord}
use Rattle.mq_rows.specs.declared.record.RetiredRecord.{RetiredRecord}
use Rattle.mq_rows.specs.Tables.{Tables}
use Rattle.mq_rows.specs.Plan.{same_key, set_transaction, same_day, set_usage, same_from, set_limit, same_host, set_run}
use Rattle.mq_tables.specs.Ledger.{HasLedger, IsCurrent}
use Rattle.mq_tables.specs.Settings.{SettingRow, setting_fields}

-- each table but that of this tree has its rows
abbrev pub KeepsOthers : Schema → ℕ → Trees → Trees → Type 0
KeepsOthers schema tree old new = AllByRecursion (λ t. t.tree ≢ tree → new t.tree ≡ old t.tree) schema.tables

-- The one record of this key that the table held is changed so, and each other table is as it was.
pub record HasSet {R : Type 0} (Held : List Row → List R → Type 0) (same : R → R → Bool) (set : R → R → R) (r : R)
    (tree : ℕ) (old new : Database) : Type 0 where
  pub sound : IsDatabase new
  pub schema : new.schema ≡ old.schema
  pub rows : (was : R) (rest : List R) → Held (old.trees tree) (was ∷ rest) → same r was ≡ true
      → AllByRecursion (λ other. same r other ≡ false) rest → Held (new.trees tree) (set r was ∷ rest)
  pub others : KeepsOthers old.schema tree old.trees new.trees

-- The row of settings is changed so, and each other table is as it was.
pub record HasSetRow (set : SettingRow → SettingRow) (tree : ℕ) (old new : Database) : Type 0 where
  pub sound : IsDatabase new
  pub schema : new.schema ≡ old.schema
  pub row : (s : SettingRow) → old.trees tree ≡ setting_fields s ∷ [] → new.trees tree ≡ setting_fields (set s) ∷ []
  pub others : KeepsOthers old.schema tree old.trees new.trees

-- P holds of the rows of a table after the write. Of an update that is said where one row alone has its
-- key. `same` compares keys, and `set` gives a row the new one's other fields.
abbrev pub LeadsWhereKeyed : {R : Type 0} → (R → R → Bool) → (R → R → R) → Write R → List R → (List R → Type 0) → Type 0
LeadsWhereKeyed same set Keep rows P = P rows
LeadsWhereKeyed same set (Insert new) rows P = P (new ∷ rows)
LeadsWhereKeyed {R} same set (Update new) rows P =
    (was : R) (rest : List R) → IsPermutation (was ∷ rest) rows → same new was ≡ true
    → AllByRecursion (λ other. same new other ≡ false) rest → P (set new was ∷ rest)

-- What functions on a table leave in the ledger's tables: where they held some rows, they hold these.

-- the settings count so many answers
abbrev pub CountsArrivals : ℕ → State → State → Type 0
CountsArrivals arrivals old new =
    (t : Tables) → HasLedger old.now t
    → HasLedger new.now (record t { setting = record t.setting { arrivals = arrivals } })

-- the answer has the next place
abbrev pub Appends : AnswerRecord → State → State → Type 0
Appends a old new =
    (t : Tables) → HasLedger old.now t → a.n ≡ 1 + length t.answers
    → HasLedger new.now (record t { answers = t.answers ++ a ∷ [] })

-- the row of a login and day is as planned
abbrev pub WritesUsage : Write UsageRecord → State → State → Type 0
WritesUsage write old new =
    (t : Tables) → HasLedger old.now t
    → LeadsWhereKeyed same_day set_usage write t.usage (λ after. HasLedger new.now (record t { usage = after }))

-- the row of a transaction is as planned
abbrev pub WritesTransaction : Write TransactionRecord → State → State → Type 0
WritesTransaction write old new =
    (t : Tables) → HasLedger old.now t
    → LeadsWhereKeyed same_key set_transaction write t.transactions
    (λ after. HasLedger new.now (record t { transactions = after }))

-- the row of a limit is as planned
abbrev pub WritesLimit : Write LimitRecord → State → State → Type 0
WritesLimit write old new =
    (t : Tables) → HasLedger old.now t
    → LeadsWhereKeyed same_from set_limit write t.limits (λ after. HasLedger new.now (record t { limits = after }))

-- the row of a floor is as planned, where the tables have floors
abbrev pub WritesFloor : Write RetiredRecord → State → State → Type 0
WritesFloor write old new =
    (t : Tables) → HasLedger old.now t → IsCurrent t
    → LeadsWhereKeyed same_host set_run write t.retired (λ after. HasLedger new.now (record t { retired = after }))
