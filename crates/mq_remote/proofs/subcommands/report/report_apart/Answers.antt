use Rattle.std.proofs.Common.{rules}
use Rattle.mq_remote.proofs.AskedSteps.{servers_asked}
use Rattle.mq_remote.proofs.subcommands.report.report_apart.Goals as goal

pub returns : goal.returns
returns g c = servers_asked _ _ (λ address said after k. let called = k.2 in search rules) c.ask_each.ensures.1
