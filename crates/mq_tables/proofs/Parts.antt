-- The four tables whose rows are records in any order: how each stands in a ledger, and what becomes of it as its records change.
use Rattle.std.proofs.Common.{◌≡◌, ℕ, None, Bool, List, Result, OnOk, IsTrue, nat_le, refl, ap}
use Rattle.mq_tables.proofs.Words.{Database, Error, ExecutesInside, IsDatabase, LimitRecord, RetiredRecord, Row, State, Table, Tables, TransactionRecord, UsageRecord}
use Rattle.mq_rows.specs.declared.plan.Write.{Write}
use Rattle.mq_tables.specs.Ledger.{HasFloors, HasLedger, IsCurrent}
use Rattle.mq_tables.specs.Places.{IsTableIn, IsUnreferred}
use Rattle.mq_tables.specs.Records.{Holds, transaction_fields, usage_fields, limit_fields, retired_fields}
use Rattle.mq_tables.specs.Tables.{trans_table, usage_table, ceiling_table, retired_table}
use Rattle.mq_tables.specs.Updates.{KeepsOthers, LeadsWhereKeyed}
use Rattle.mq_tables.proofs.Changes.{is_since, transactions_changed, usage_changed, limits_changed, floors_changed}

-- one of them
pub record Part (R : Type 0) (table : Table) : Type 1 where
  pub keyless : table.key ≡ None
  pub fields : R → Row
  -- its records, and the tables with others in their place
  pub records : Tables → List R
  pub put : Tables → List R → Tables
  -- the ledgers that have it
  pub IsIn : Database → Tables → Type 0
  pub tree : (db : Database) (t : Tables) → IsIn db t → ℕ
  pub place : (db : Database) (t : Tables) (l : IsIn db t) → IsTableIn db.schema table (tree db t l)
  pub alone : (db : Database) (t : Tables) (l : IsIn db t) → IsUnreferred db.schema (tree db t l)
  pub holds : (db : Database) (t : Tables) (l : IsIn db t) → Holds 1 fields (db.trees (tree db t l)) (records t)
  pub changed : (old new : Database) (t : Tables) (l : IsIn old t) → new.schema ≡ old.schema → IsDatabase new → KeepsOthers old.schema (tree old t l) old.trees new.trees
      → (after : List R) → Holds 1 fields (new.trees (tree old t l)) after → HasLedger new (put t after)

abbrev pub transactions_part : Part TransactionRecord trans_table
transactions_part = record {
  keyless = refl;
  fields = transaction_fields;
  records = λ t. t.transactions;
  put = λ t after. record t { transactions = after };
  IsIn = HasLedger;
  tree = λ db t l. l.at.trans;
  place = λ db t l. l.tables.trans;
  alone = λ db t l. l.tables.trans_alone;
  holds = λ db t l. l.holds.transactions;
  changed = transactions_changed;
}

abbrev pub usage_part : Part UsageRecord usage_table
usage_part = record {
  keyless = refl;
  fields = usage_fields;
  records = λ t. t.usage;
  put = λ t after. record t { usage = after };
  IsIn = HasLedger;
  tree = λ db t l. l.at.usage;
  place = λ db t l. l.tables.usage;
  alone = λ db t l. l.tables.usage_alone;
  holds = λ db t l. l.holds.usage;
  changed = usage_changed;
}

abbrev pub limits_part : Part LimitRecord ceiling_table
limits_part = record {
  keyless = refl;
  fields = limit_fields;
  records = λ t. t.limits;
  put = λ t after. record t { limits = after };
  IsIn = HasLedger;
  tree = λ db t l. l.at.ceiling;
  place = λ db t l. l.tables.ceiling;
  alone = λ db t l. l.tables.ceiling_alone;
  holds = λ db t l. l.holds.limits;
  changed = limits_changed;
}

-- tables of the current version have one for the floors
pub floors_there : (db : Database) (t : Tables) → HasLedger db t × IsCurrent t → HasFloors db t.retired
floors_there db t l = is_since _ _ (nat_le 3 t.setting.version) (ap (nat_le 3) l.1) l.0.later.retired

abbrev pub floors_part : Part RetiredRecord retired_table
floors_part = record {
  keyless = refl;
  fields = retired_fields;
  records = λ t. t.retired;
  put = λ t after. record t { retired = after };
  IsIn = λ db t. HasLedger db t × IsCurrent t;
  tree = λ db t l. (floors_there db t l).tree;
  place = λ db t l. (floors_there db t l).table;
  alone = λ db t l. (floors_there db t l).alone;
  holds = λ db t l. (floors_there db t l).holds;
  changed = λ old new t l schema sound. floors_changed old new t l.0 schema sound (floors_there old t l) (ap (nat_le 3) l.1);
}

-- what a write of one of its records leaves
abbrev pub Rewrites : {R : Type 0} {table : Table} → Part R table → (R → R → Bool) → (R → R → R) → Write R → State → State → Type 0
Rewrites part same set write old new = (t : Tables) → part.IsIn old.now t → LeadsWhereKeyed same set write (part.records t) (λ after. HasLedger new.now (part.put t after))

-- a statement was executed inside a transaction, which goes on, and did so
abbrev pub Executed : Result ℕ Error → State → Type 0 → Type 0
Executed outcome new Done = OnOk outcome (IsTrue new.in_transaction) × OnOk outcome Done

-- so it is of the text with the parameters of each record
abbrev pub Executing : {R : Type 0} → List ℕ → (R → Row) → (R → State → State → Type 0) → Type 1
Executing {R} text params Done = (r : R) (outcome : Result ℕ Error) (old new : State) → ExecutesInside 0 text (params r) old new outcome → Executed outcome new (Done r old new)
