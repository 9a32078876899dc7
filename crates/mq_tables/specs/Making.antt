-- The tables as they are made, over whatever the store holds already.
use Rattle.std.specs.Prelude.{◌≡◌, ◌≢◌, slice_get, ℕ, pos, nat_lt, List, [], ◌∷◌, IsTrue, Bool, true, false, ◌&&◌, ◌||◌, Option, Some}
use Rattle.std.specs.Prelude.{None, ⊤}
use Rattle.std.specs.List.{AllByRecursion, list_any}
use Rattle.sqlite.specs.declared.types.Value.TheVariants.{Int, Blob}
use Rattle.sqlite.specs.Order.{Row}
use Rattle.sqlite.specs.Table.{Table}
use Rattle.sqlite.specs.Schema.{Schema}
use Rattle.sqlite_schema.specs.declared.schema.View.{View as Stored}
use Rattle.sqlite_schema.specs.Names.{same_name, table_named}
use Rattle.sqlite.specs.Change.{created, next_tree}
use Rattle.sqlite.specs.Does.{lacks_sequence}
use Rattle.sqlite_catalog.specs.Change.{is_used}
use Rattle.sqlite.specs.Effect.{Database, IsDatabase}
use Rattle.sqlite.specs.State.{State}
use Rattle.sqlite.specs.Tree.{Trees}
use Rattle.mq_ledger.specs.Day.{minutes_in, rule_in}
use Rattle.mq_rows.specs.declared.setting.TheConstants.{VERSION}
use Rattle.mq_tables.specs.Tables.{setting_table, answer_table, trans_table, usage_table, ceiling_table, rule_table}
use Rattle.mq_tables.specs.Tables.{retired_table}
use Rattle.mq_tables.specs.declared.setting.NewSetting.{NewSetting}
use Rattle.mq_tables.specs.Settings.{HasSetting, setting_fields, setting_after, rule_fields, rule_rows}
use Rattle.mq_rows.specs.Tables.{Tables}
use Rattle.mq_tables.specs.Ledger.{HasLedger}
use Rattle.mq_tables.specs.Written.{Created}
use Rattle.mq_tables.specs.Indexing.{lacks_index, indexed_if}
use Rattle.mq_tables.specs.Places.{IsUsageIn}

-- the schema after each CREATE, in turn
abbrev pub chain : Schema → List Table → Schema
chain s [] = s
chain s (t ∷ more) = chain (created s t) more

-- where their rows go
abbrev pub trees_for : Schema → List Table → List ℕ
trees_for s [] = []
trees_for s (t ∷ more) = next_tree s ∷ trees_for (created s t) more

-- each name was free as its table was made
abbrev pub AllFree : Schema → List Table → Type 0
AllFree s [] = ⊤
AllFree s (t ∷ more) = (is_used s t.name ≡ false) × AllFree (created s t) more

-- these tables are new and empty, and each that was there has its rows
pub record HasAdded (tables : List Table) (old new : State) : Type 0 where
  pub schema : new.now.schema ≡ chain old.now.schema tables
  pub free : AllFree old.now.schema tables
  pub empty : AllByRecursion (λ n. new.now.trees n ≡ []) (trees_for old.now.schema tables)
  pub others : AllByRecursion (λ t. new.now.trees t.tree ≡ old.now.trees t.tree) old.now.schema.tables
  pub counters : lacks_sequence new.now.schema ≡ false
  pub sound : IsDatabase new.now

-- A table with AUTOINCREMENT has the table that counts for it.
abbrev pub HasCounters : State → Type 0
HasCounters s = lacks_sequence s.now.schema ≡ false

-- the row of settings of a new ledger
abbrev pub setting_row : NewSetting → Row
setting_row made_with = setting_fields (setting_after (pos 0) made_with)

-- the rows of a new ledger
abbrev pub new_rows : NewSetting → Tables
new_rows made_with = record {
  setting = record {
    version = VERSION;
    minutes = minutes_in made_with.zone;
    cap = made_with.cap;
    arrivals = 0;
    rule = rule_in made_with.zone;
  };
  answers = [];
  transactions = [];
  usage = [];
  limits = [];
  retired = [];
}

-- the parameters of the INSERT of the settings: version, offset and default limit
abbrev pub setting_params : NewSetting → Row
setting_params made_with =
    Int (pos VERSION) ∷ Int (minutes_in made_with.zone) ∷ Int (pos made_with.cap) ∷ []

-- the parameter of the INSERT of the rule
abbrev pub rule_params : List ℕ → Row
rule_params text = Blob text ∷ []

-- those of each version that hold nothing at first
abbrev pub four_tables : List Table
four_tables = answer_table ∷ trans_table ∷ usage_table ∷ ceiling_table ∷ []

-- those of later versions, where that of the rule is there or isn't
abbrev pub later_tables : Bool → List Table
later_tables true = retired_table ∷ []
later_tables false = rule_table ∷ retired_table ∷ []

-- the others that hold nothing
abbrev pub other_tables : List Table
other_tables = answer_table ∷ trans_table ∷ usage_table ∷ ceiling_table ∷ rule_table ∷ retired_table ∷ []

-- the tables before that of the rule
abbrev pub five_tables : List Table
five_tables = setting_table ∷ answer_table ∷ trans_table ∷ usage_table ∷ ceiling_table ∷ []

-- What one CREATE leaves, and that the transaction goes on.
abbrev pub Makes : Table → State → State → Type 0
Makes table old new =
    IsTrue new.in_transaction × (HasCounters old → Created old.now.schema table old new × HasCounters new)

-- the table whose rows are in this tree has this row
pub record HasPut (tree : ℕ) (row : Row) (old new : State) : Type 0 where
  pub sound : IsDatabase new.now
  pub schema : new.now.schema ≡ old.now.schema
  pub row_is : new.now.trees tree ≡ row ∷ []
  pub others : AllByRecursion (λ t. t.tree ≢ tree → new.now.trees t.tree ≡ old.now.trees t.tree) old.now.schema.tables

-- What the INSERT of this row leaves, where the table is at some place and empty.
abbrev pub Puts : Table → Row → State → State → Type 0
Puts table row old new =
    IsTrue new.in_transaction
    × ((at tree : ℕ) → table_named old.now.schema table.name ≡ Some at
    → slice_get old.now.schema.tables at ≡ Some (record table { tree = tree })
    → old.now.trees tree ≡ [] → HasPut tree row old new)

-- the table is new, and has this row
pub record HasStarted (table : Table) (row : Row) (old new : State) : Type 0 where
  pub free : is_used old.now.schema table.name ≡ false
  pub schema : new.now.schema ≡ created old.now.schema table
  pub row_is : new.now.trees (next_tree old.now.schema) ≡ row ∷ []
  pub others : AllByRecursion (λ t. new.now.trees t.tree ≡ old.now.trees t.tree) old.now.schema.tables
  pub counters : lacks_sequence new.now.schema ≡ false

-- The same of what was begun where each table with AUTOINCREMENT had the table that counts for it.

abbrev pub StartsTable : Table → Row → State → State → Type 0
StartsTable table row old new = HasCounters old → HasStarted table row old new

abbrev pub AddsTables : List Table → State → State → Type 0
AddsTables tables old new = HasCounters old → HasAdded tables old new

-- the rule is put into its table, where there is one
abbrev pub PutsAny : Option (List ℕ) → State → State → Type 0
PutsAny None old new = IsTrue new.in_transaction × (new.now ≡ old.now)
PutsAny (Some text) old new = Puts rule_table (rule_fields text) old new

-- the schema with the seven
abbrev pub ledger_over : Schema → Schema
ledger_over s = chain s (setting_table ∷ other_tables)

-- the name is that of one of the seven
abbrev pub is_ours : List ℕ → Bool
is_ours name =
    same_name setting_table.name name || (same_name answer_table.name name
    || (same_name trans_table.name name
    || (same_name usage_table.name name || (same_name ceiling_table.name name
    || (same_name rule_table.name name || same_name retired_table.name name)))))

-- no foreign key of a table that is there names one of the seven
abbrev pub AreUnnamed : Schema → Type 0
AreUnnamed s = AllByRecursion (λ t. AllByRecursion (λ ref. is_ours ref.parent ≡ false) t.references) s.tables

-- the tables before that of what each login has used
abbrev pub three_tables : List Table
three_tables = setting_table ∷ answer_table ∷ trans_table ∷ []

-- the schema with the seven, and with the index where it is wanted
abbrev pub whole_over : Bool → Schema → Schema
whole_over indexed s = indexed_if indexed (next_tree (chain s three_tables)) (ledger_over s)

-- The seven stand after those that were there, and hold the rows of a new ledger. Each table that was there has its
-- rows.
pub record IsMadeBy (indexed : Bool) (made_with : NewSetting) (old new : Database) : Type 0 where
  pub sound : IsDatabase new
  pub schema : new.schema ≡ whole_over indexed old.schema
  pub row : new.trees (next_tree old.schema) ≡ setting_row made_with ∷ []
  pub rule : new.trees (next_tree (chain old.schema five_tables)) ≡ rule_rows (rule_in made_with.zone)
  pub empty :
      AllByRecursion (λ n. n ≢ next_tree (chain old.schema five_tables) → new.trees n ≡ [])
      (trees_for (created old.schema setting_table) other_tables)
  pub setting : HasSetting new (setting_after (pos 0) made_with)
  pub ledger : AreUnnamed old.schema → HasLedger new (new_rows made_with)
  pub others : AllByRecursion (λ t. new.trees t.tree ≡ old.trees t.tree) old.schema.tables

-- they have the index where nothing had its name
abbrev pub IsMade : NewSetting → Database → Database → Type 0
IsMade made_with old new = IsMadeBy (lacks_index old.schema) made_with old new

-- a table of this name is there, and may be one that SQL here doesn't understand
abbrev pub is_owner : List ℕ → Option (List ℕ) → Bool
is_owner name None = false
is_owner name (Some owner) = same_name owner name

-- what SQL here doesn't understand has this name, and is a table
abbrev pub is_aside : List ℕ → Stored → Bool
is_aside name view = same_name view.name name && is_owner name view.foreign

-- a table of this name is there, one that SQL here understands or another
abbrev pub has_table : Schema → List ℕ → Bool
has_table s name = list_any (λ t. same_name t.name name) s.tables || list_any (is_aside name) s.views

-- a table with one of the seven names is there
abbrev pub has_ledger_table : Schema → Bool
has_ledger_table s =
    has_table s setting_table.name || (has_table s answer_table.name
    || (has_table s trans_table.name || (has_table s usage_table.name
    || (has_table s ceiling_table.name || (has_table s rule_table.name || has_table s retired_table.name)))))

-- the same, where each table with AUTOINCREMENT had the table that counts for it
pub record IsMadeOverBy (indexed : Bool) (made_with : NewSetting) (old new : Database) : Type 0 where
  pub made : lacks_sequence old.schema ≡ false → IsMadeBy indexed made_with old new

-- they are made without the index, and that of what each login has used is at its place
pub record AreMadeFor (made_with : NewSetting) (old new : Database) : Type 0 where
  pub made : IsMadeOverBy false made_with old new
  pub usage : lacks_sequence old.schema ≡ false → IsUsageIn new.schema (next_tree (chain old.schema three_tables))

-- the same, with the index where nothing had its name
abbrev pub IsMadeOver : NewSetting → Database → Database → Type 0
IsMadeOver made_with old new = IsMadeOverBy (lacks_index old.schema) made_with old new

-- these trees are what the whole call leaves
pub record AreMadeOver (made_with : NewSetting) (old : Database) (trees : Trees) : Type 0 where
  pub new : Database
  pub made : IsMadeOver made_with old new
  pub trees_are : new.trees ≡ trees

-- a table has a name that only versions after this one have
abbrev pub has_later_table : ℕ → Schema → Bool
has_later_table version s =
    (nat_lt version 2 && has_table s rule_table.name) || (nat_lt version 3 && has_table s retired_table.name)
