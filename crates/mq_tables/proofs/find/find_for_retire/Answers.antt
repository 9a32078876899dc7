use Rattle.mq_rows.specs.Rows.{is_host}
use Rattle.mq_tables.proofs.Keyed.{the_one}
use Rattle.mq_tables.proofs.find.find_for_retire.Goals as goal

pub returns-clause-found : goal.returns-clause-found
returns-clause-found g c clean = λ t l keyed. the_one (is_host c.args.id.now.host) t.retired _ (keyed.retired c.args.id.now.host) (c.in_ok-floor.ensures.found clean t l)
