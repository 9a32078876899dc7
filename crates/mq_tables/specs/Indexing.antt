-- The index by which the rows of a day are found, in the order of their logins. No answer rests on it, so what is said of
-- a ledger is said with it and without it.
use Rattle.std.specs.Prelude.{◌≡◌, ℕ, Bool, true, false, not, ◌||◌, List, [], ◌∷◌, codes, IsTrue}
use Rattle.std.specs.List.{list_any}
use Rattle.sqlite.specs.Schema.{Schema}
use Rattle.sqlite.specs.Change.{next_tree}
use Rattle.sqlite_schema.specs.declared.schema.Index.{Index}
use Rattle.sqlite_schema.specs.Names.{same_name}
use Rattle.sqlite_catalog.specs.Change.{with_index, KeepsRows}
use Rattle.sqlite_value.specs.Keys.{plain}
use Rattle.sqlite.specs.Effect.{Database, IsDatabase}
use Rattle.sqlite.specs.State.{State}
use Rattle.sqlite.specs.Tree.{Trees}
use Rattle.mq_tables.specs.Places.{IsUsageIn}
use Rattle.mq_tables.specs.Ledger.{HasLedger}
use Rattle.mq_rows.specs.Tables.{Tables}

-- by day and login, of the table whose rows are in this tree
abbrev pub day_index : ℕ → Index
day_index table = record {
  name = codes "usage_by_day";
  tree = 0;
  table = table;
  columns = 2 ∷ 1 ∷ [];
  order = plain;
  is_unique = false;
}

-- a table, an index or a view has this name
abbrev pub is_taken : List ℕ → Schema → Bool
is_taken name s =
    list_any (λ t. same_name t.name name) s.tables
    || (list_any (λ i. same_name i.name name) s.indexes || list_any (λ v. same_name v.name name) s.views)

-- nothing has the index's name
abbrev pub lacks_index : Schema → Bool
lacks_index s = not (is_taken (day_index 0).name s)

-- the schema with the index, of the table whose rows are in this tree
abbrev pub with_day_index : ℕ → Schema → Schema
with_day_index table s = with_index s (record (day_index table) { tree = next_tree s })

-- it is there or not, as it was wanted
abbrev pub indexed_if : Bool → ℕ → Schema → Schema
indexed_if true table s = with_day_index table s
indexed_if false table s = s

-- the index is new, and each table has its rows
pub record HasIndexed (table : ℕ) (old new : Database) : Type 0 where
  pub sound : IsDatabase new
  pub free : lacks_index old.schema ≡ true
  pub schema : new.schema ≡ with_day_index table old.schema
  pub rows : KeepsRows old.schema.tables old.trees new.trees

-- What CREATE INDEX leaves where our table is at some place, and that the transaction goes on.
abbrev pub Indexes : State → State → Type 0
Indexes old new =
    IsTrue new.in_transaction
    × ((table : ℕ) → IsUsageIn old.now.schema table → HasIndexed table old.now new.now)

-- the index is made where it is wanted; else nothing is
abbrev pub IndexesIf : Bool → State → State → Type 0
IndexesIf true old new = Indexes old new
IndexesIf false old new = IsTrue new.in_transaction × (new.now ≡ old.now)

-- The ledger has the index, and the same rows, and each other table has its own.
pub record IsIndexed (old new : Database) : Type 0 where
  pub made : (t : Tables) (l : HasLedger old t) → HasIndexed l.at.usage old new × HasLedger new t

-- these trees are what the whole call leaves
pub record AreIndexed (old : Database) (trees : Trees) : Type 0 where
  pub new : Database
  pub made : IsIndexed old new
  pub trees_are : new.trees ≡ trees
