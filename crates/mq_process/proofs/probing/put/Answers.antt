use Rattle.std.proofs.Common.{None, subst, sym}
use Rattle.mq_process.specs.Questions.{Puts}
use Rattle.mq_process.proofs.probing.put.Goals as goal

pub returns-in-Host : goal.returns-in-Host
returns-in-Host g c =
    (None, None, subst (λ q. Puts c.args.server.now q c.run_host_probe.result (g.K.Link.told c.args.link.now) (g.K.Link.told c.run_host_probe.new.link) None None) (sym c.in-Host.is) c.run_host_probe.ensures.probes)

pub returns-in-Check : goal.returns-in-Check
returns-in-Check g c =
    (None, None, subst (λ q. Puts c.args.server.now q c.run_check.result (g.K.Link.told c.args.link.now) (g.K.Link.told c.run_check.new.link) None None) (sym c.in-Check.is) c.run_check.ensures.checks)
