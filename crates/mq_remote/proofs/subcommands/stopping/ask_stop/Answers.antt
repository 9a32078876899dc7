use Rattle.std.proofs.Common.{None}
use Rattle.mq_remote.proofs.subcommands.stopping.ask_stop.Goals as goal

pub returns : goal.returns
returns g c = record { link = _; after = _; output = None; output' = None; is_led = c.link_to-link.ensures; asked = c.run_stop.ensures.stops }
