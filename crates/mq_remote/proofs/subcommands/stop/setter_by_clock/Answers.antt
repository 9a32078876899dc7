use Rattle.std.proofs.Common.{None, rules}
use Rattle.mq_remote.proofs.AskedSteps.{run_by, run_set}
use Rattle.mq_remote.proofs.TotalSteps.{if_ok}
use Rattle.mq_remote.proofs.subcommands.stop.setter_by_clock.Goals as goal

pub returns-clause-run : goal.returns-clause-run
returns-clause-run g c =
    if_ok c.setter_of.result (λ setter is. run_set _ None setter.run c.in_ok-run.run' is (run_by _ None c.in_ok-run.run' _ c.in_ok-run.was (search rules) c.in_ok-run.ensures.run c.in_ok-run.ensures.clock)) c.setter_of.ensures.run
