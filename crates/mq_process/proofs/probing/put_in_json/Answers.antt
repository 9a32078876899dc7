use Rattle.std.proofs.Common.{subst, sym}
use Rattle.mq_process.specs.Questions.{PutsInJson}
use Rattle.mq_process.proofs.probing.put_in_json.Goals as goal

pub returns-in-Host : goal.returns-in-Host
returns-in-Host g c =
    let put = c.put_host.ensures in
    (put.0, put.1, subst (λ q. PutsInJson c.args.server.now q c.put_host.result (g.K.Link.told c.args.link.now) (g.K.Link.told c.put_host.new.link) put.0 put.1) (sym c.in-Host.is) put.2)

pub returns-in-Check : goal.returns-in-Check
returns-in-Check g c =
    let put = c.put_host-in-Check.ensures in
    (put.0, put.1, subst (λ q. PutsInJson c.args.server.now q c.put_host-in-Check.result (g.K.Link.told c.args.link.now) (g.K.Link.told c.put_host-in-Check.new.link) put.0 put.1) (sym c.in-Check.is) put.2)
