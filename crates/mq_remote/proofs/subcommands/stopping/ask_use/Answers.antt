use Rattle.std.proofs.Common.{None}
use Rattle.mq_remote.proofs.subcommands.stopping.ask_use.Goals as goal

pub returns : goal.returns
returns g c = record { link = _; after = _; output = None; output' = None; is_led = c.link-link.ensures.leads; asked = c.has_sent.ensures }
