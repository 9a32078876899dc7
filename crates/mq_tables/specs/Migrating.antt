-- What becomes of the tables of a ledger of an older version.
use Rattle.std.specs.Prelude.{◌≡◌, ℕ, pos, [], ◌∷◌, Bool, true, false, nat_le, IsTrue}
use Rattle.sqlite.specs.Does.{lacks_sequence}
use Rattle.sqlite.specs.Effect.{Database}
use Rattle.sqlite.specs.Order.{Row}
use Rattle.sqlite.specs.State.{State}
use Rattle.sqlite.specs.Tree.{Trees}
use Rattle.sqlite.specs.declared.types.Value.TheVariants.{Int}
use Rattle.mq_rows.specs.declared.setting.TheConstants.{VERSION}
use Rattle.mq_rows.specs.Tables.{Tables}
use Rattle.mq_tables.specs.Ledger.{HasRule, HasFloors, HasLedger}
use Rattle.mq_tables.specs.Indexing.{lacks_index, indexed_if}
use Rattle.mq_tables.specs.Making.{chain, later_tables, Makes}
use Rattle.mq_tables.specs.Tables.{rule_table}
use Rattle.mq_tables.specs.Updates.{KeepsOthers}

-- the same rows, of the current version
abbrev pub migrated : Tables → Tables
migrated t = record t { setting = record t.setting { version = VERSION } }

-- the parameter of the UPDATE of the version
abbrev pub version_params : Row
version_params = Int (pos VERSION) ∷ []

-- the table of the rule is there already, or it is made
abbrev pub AddsRule : Bool → State → State → Type 0
AddsRule true old new = IsTrue new.in_transaction × (new.now ≡ old.now)
AddsRule false old new = Makes rule_table old new

-- where the tables of later versions are there, the ledger is of the current version, and each other table as it was
abbrev pub SetsVersion : Database → Database → Type 0
SetsVersion old new =
    (t : Tables) (l : HasLedger old t) → HasRule old t.setting.rule → HasFloors old t.retired
    → HasLedger new (migrated t) × (new.schema ≡ old.schema) × KeepsOthers old.schema l.at.setting old.trees new.trees

-- The ledger is of the current version, with the same rows. The tables of later versions are new, and so is the index
-- where it is wanted. Each table but that of the settings has its rows.
pub record HasMigrated (indexed has_rule_table : Bool) (t : Tables) (setting : ℕ) (old new : Database) : Type 0 where
  pub ledger : HasLedger new (migrated t)
  pub schema : new.schema ≡ indexed_if indexed ledger.at.usage (chain old.schema (later_tables has_rule_table))
  pub others : KeepsOthers old.schema setting old.trees new.trees

-- so it is where the ledger was of an older version, with a table for the rule or without, and where each table with
-- AUTOINCREMENT had the table that counts for it
pub record IsMigratedBy (indexed has_rule_table : Bool) (old new : Database) : Type 0 where
  pub made : lacks_sequence old.schema ≡ false → (t : Tables) (l : HasLedger old t)
      → nat_le 2 t.setting.version ≡ has_rule_table → nat_le 3 t.setting.version ≡ false
      → HasMigrated indexed has_rule_table t l.at.setting old new

-- the same, with the index where nothing had its name
abbrev pub IsMigrated : Bool → Database → Database → Type 0
IsMigrated has_rule_table old new = IsMigratedBy (lacks_index old.schema) has_rule_table old new

-- these trees are what the whole call leaves
pub record AreMigrated (has_rule_table : Bool) (old : Database) (trees : Trees) : Type 0 where
  pub new : Database
  pub made : IsMigrated has_rule_table old new
  pub trees_are : new.trees ≡ trees
