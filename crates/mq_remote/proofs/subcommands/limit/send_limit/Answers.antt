use Rattle.std.proofs.Common.{None, inr}
use Rattle.mq_remote.proofs.AskedSteps.{limit_sent}
use Rattle.mq_remote.proofs.subcommands.limit.send_limit.Goals as goal

pub returns-then-task : goal.returns-then-task
returns-then-task g c =
    limit_sent _ _ _ _ _ _ _ _ c.if-task.true c.in-Ok.ensures.request
    (inr (record { link = _; after = _; output = None; output' = None; is_led = c.link_to-link.ensures; asked = c.run_limit.ensures.limits }))

pub returns-else-task : goal.returns-else-task
returns-else-task g c =
    limit_sent _ _ _ _ _ _ _ _ c.if-task.false c.in-Ok.ensures.request
    (inr (record { link = _; after = _; output = None; output' = None; is_led = c.link_to-link.ensures; asked = c.run_fresh.ensures.limits }))
