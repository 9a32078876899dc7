use Rattle.std.proofs.Common.{List, ap, refl, sym, ◌∙◌}
use Rattle.mq_server.proofs.Words.{Entry, day_of, reply}
use Rattle.mq_server.proofs.Deliveries.{taken, lost, history_none}
use Rattle.mq_server.proofs.answer.apply.Goals as goal

pub returns-in-Ok-clause-answers : goal.returns-in-Ok-clause-answers
returns-in-Ok-clause-answers g c = λ kept sound _ spelled.
    let b = g.L.Ledger.book c.args.ledger.now in
    let request = c.args.request.now in
    let legal = g.met.L.Ledger.sound_is_legal c.args.ledger.now sound in
    let told = c.in-Ok.ensures in
    (taken request, spelled, told.reply kept sound ∙ ap (λ (H : List Entry). reply (day_of b.zone) b.default H request) (sym (history_none b legal)), told.history kept sound, told.told)

pub returns-in-Err-Memory-clause-answers : goal.returns-in-Err-Memory-clause-answers
returns-in-Err-Memory-clause-answers g c = λ kept sound _ spelled.
    let told = rw c.in-Err-Memory.field-0-is at c.in-Err-Memory.ensures.told in
    let legal = g.met.L.Ledger.sound_is_legal c.args.ledger.now sound in
    (lost c.args.request.now, spelled, refl, c.in-Err-Memory.ensures.fault kept sound ∙ sym (history_none (g.L.Ledger.book c.args.ledger.now) legal), told)
