use Rattle.std.proofs.Common.{ap, codes, sym, ◌∙◌}
use Rattle.std.specs.Prelude.{option_map}
use Rattle.toml.specs.View.{view}
use Rattle.toml.proofs.Views.{table_get}
use Rattle.mq_servers.proofs.Names.{one_entry}
use Rattle.mq_servers.proofs.read.value_of.Goals as goal

pub returns-in-Some : goal.returns-in-Some
returns-in-Some c =
    let es = c.args.table.now.entries in
    one_entry es (codes "servers") (view c.in-Some.value.now) (c.has_one.ensures.0 c.if-has_one.true)
    (sym (table_get c.get.result (codes "servers") es c.get.ensures.value) ∙ ap (option_map (λ v. view v.now)) c.in-Some.is)
