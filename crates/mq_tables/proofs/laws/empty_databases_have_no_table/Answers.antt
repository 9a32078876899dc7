use Rattle.std.proofs.Common.{ap, sym, subst}
use Rattle.sqlite_trees.specs.Objects.{catalog_tree}
use Rattle.sqlite_catalog.proofs.ReadLemmas.{lists_once}
use Rattle.sqlite.specs.Does.{lacks_sequence}
use Rattle.sqlite.proofs.ListingLemmas.{empty_is_sound}
use Rattle.mq_tables.specs.Making.{AreUnnamed}
use Rattle.mq_tables.proofs.laws.empty_databases_have_no_table.Goals as goal

pub returns : goal.returns
returns c = λ db sound none.
    let same = lists_once (db.trees catalog_tree) db.schema _ sound.lists (empty_is_sound db.trees none).lists in
    (ap lacks_sequence same, subst AreUnnamed (sym same) tt)
