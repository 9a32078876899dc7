use Rattle.std.proofs.Common.{◌≡◌, subst}
use Rattle.sqlite_trees.specs.Tree.{Trees}
use Rattle.sqlite_trees.specs.Objects.{catalog_tree}
use Rattle.sqlite_catalog.specs.Listing.{Lists}
use Rattle.sqlite_catalog.proofs.ReadLemmas.{lists_once}
use Rattle.sqlite.specs.Effect.{Database}
use Rattle.mq_tables.proofs.laws.trees_have_one_schema.Goals as goal

-- equal in both fields
both : (a b : Database) → a.schema ≡ b.schema → a.trees ≡ b.trees → a ≡ b
both a b schema trees = λ i. record { schema = schema i; trees = trees i }

pub returns : goal.returns
returns c = λ a b sound_a sound_b same.
    let lists : Lists (b.trees catalog_tree) a.schema = subst (λ (db : Trees). Lists (db catalog_tree) a.schema) same sound_a.lists in
    both a b (lists_once (b.trees catalog_tree) a.schema b.schema lists sound_b.lists) same
