use Rattle.mq_command.specs.Probing.{AsksOnce}
use Rattle.mq_command.proofs.Words.{Err, inr, refl, subst}
use Rattle.mq_command.proofs.probe.ask_host.Goals as goal

-- what was asked is the question about the host
pub returns : goal.returns
returns g c =
    let missed = subst
    (λ asked. AsksOnce asked (g.L.Link.told c.args.link.now) (g.L.Link.told c.ask_once.new.link) (Err c.in-Err-ask_once.fault))
    c.in-Ok.ensures.question c.in-Err-ask_once.ensures in
    inr (_, missed, refl)
