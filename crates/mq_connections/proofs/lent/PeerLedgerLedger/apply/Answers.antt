use Rattle.std.proofs.Common.{◌∙◌, ap, sym}
use Rattle.mq_permits.specs.Permits.{may_ask}
use Rattle.mq_connections.proofs.Gaining.{gains_answered, gains_more, ok_so}
use Rattle.mq_connections.proofs.lent.PeerLedgerLedger.apply.Goals as goal

pub returns-clause-sound : goal.returns-clause-sound
returns-clause-sound g c = λ kept sound.
    let e = c.apply.ensures in
    let was = c.args.self.now.lent in
    let now = c.apply.new.self in
    let r = c.args.request.now in
    let b = g.L.Ledger.book was.ledger.now in (
      e.sound kept sound.0,
      (λ q. ap (λ x. may_ask x now.peer q) e.permits ∙ ap (λ x. may_ask was.permits x q) e.peer ∙ sound.1 q),
      gains_more _ _ _ sound.2 (gains_answered b (g.L.Ledger.book now.ledger.now).history r c.apply.result (g.met.L.Ledger.sound_is_legal was.ledger.now sound.0)
          (e.history kept sound.0) (e.fault kept sound.0) (ok_so c.apply.result (λ may. sym (sound.1 r) ∙ may) e.allowed)),
    )
