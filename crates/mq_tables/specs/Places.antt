-- A table of ours at some place of a schema, whatever stands before it and after it.
use Rattle.std.specs.Prelude.{◌≡◌, ◌^◌, ℕ, List, Bool, false, nat_le, Some, None, Option, slice_get, find, ◌==◌}
use Rattle.std.specs.List.{AllByRecursion}
use Rattle.sqlite.specs.Schema.{Schema}
use Rattle.sqlite.specs.Table.{Table}
use Rattle.sqlite_schema.specs.declared.schema.Reference.{Reference}
use Rattle.sqlite_schema.specs.Names.{table_named, same_name}
use Rattle.mq_tables.specs.Tables.{setting_table, answer_table, trans_table, usage_table, ceiling_table, rule_table}
use Rattle.mq_tables.specs.Tables.{retired_table}

-- the table goes by its name, and its rows are in this tree
pub record IsTableIn (schema : Schema) (made : Table) (tree : ℕ) : Type 0 where
  pub at : ℕ
  pub named : table_named schema made.name ≡ Some at
  pub there : slice_get schema.tables at ≡ Some (record made { tree = tree })
  pub stored : nat_le (2 ^ 31) tree ≡ false
  pub found : find (λ (t : Table). t.tree == tree) schema.tables ≡ Some (record made { tree = tree })

-- so it is of each of the ledger's seven tables
abbrev pub IsSettingIn : Schema → ℕ → Type 0
IsSettingIn schema tree = IsTableIn schema setting_table tree

abbrev pub IsAnswerIn : Schema → ℕ → Type 0
IsAnswerIn schema tree = IsTableIn schema answer_table tree

abbrev pub IsTransIn : Schema → ℕ → Type 0
IsTransIn schema tree = IsTableIn schema trans_table tree

abbrev pub IsUsageIn : Schema → ℕ → Type 0
IsUsageIn schema tree = IsTableIn schema usage_table tree

abbrev pub IsCeilingIn : Schema → ℕ → Type 0
IsCeilingIn schema tree = IsTableIn schema ceiling_table tree

abbrev pub IsRuleIn : Schema → ℕ → Type 0
IsRuleIn schema tree = IsTableIn schema rule_table tree

abbrev pub IsRetiredIn : Schema → ℕ → Type 0
IsRetiredIn schema tree = IsTableIn schema retired_table tree

-- there is a table, and its rows are in this tree
abbrev pub is_tree : ℕ → Option Table → Bool
is_tree tree None = false
is_tree tree (Some t) = t.tree == tree

-- the reference is to the table that has this tree
abbrev pub refers : Schema → ℕ → Reference → Bool
refers schema tree ref = is_tree tree (find (λ t. same_name t.name ref.parent) schema.tables)

-- no foreign key refers to the table
abbrev pub IsUnreferred : Schema → ℕ → Type 0
IsUnreferred schema tree =
    AllByRecursion (λ t. AllByRecursion (λ ref. refers schema tree ref ≡ false) t.references) schema.tables

-- no foreign key names a table so
abbrev pub IsUnnamed : Schema → List ℕ → Type 0
IsUnnamed schema name =
    AllByRecursion (λ t. AllByRecursion (λ ref. same_name name ref.parent ≡ false) t.references) schema.tables
