use Rattle.std.proofs.Common.{◌≡◌, ap, inl, inr, ◌∙◌}
use Rattle.mq_lemmas.proofs.Booleans.{either}
use Rattle.mq_permits.specs.Permits.{may_ask}
use Rattle.mq_watch.specs.Unanswered.{answer_of}
use Rattle.mq_watch.proofs.watched.WatchedLedger.take.Goals as goal

pub returns-clause-ahead : goal.returns-clause-ahead
returns-clause-ahead g c = λ is.
    let view = c.self.view_is in
    let e = c.take-answer.ensures in
    elim (either (may_ask c.args.permits c.args.peer c.args.request.now)) [
      | inl t ↦ let h = e.ahead t (rw view is) in (c.answered.ensures ∙ ap answer_of h.0, c.count_answer.ensures ∙ h.1 ∙ view)
      | inr f ↦ let h = e.forbidden f in (c.answered.ensures ∙ ap answer_of h.0, c.count_answer.ensures ∙ h.1 ∙ view)
    ]

pub returns-clause-put : goal.returns-clause-put
returns-clause-put g c = λ not.
    let view = c.self.view_is in
    let e = c.take-answer.ensures in
    let told : g.L.Ledger.told c.args.self.now ≡ g.L.Ledger.told c.self.inside.watch.ledger = cc in
    elim (either (may_ask c.args.permits c.args.peer c.args.request.now)) [
      | inl t ↦ inl (rw (told, c.answered.ensures, c.count_answer.ensures) (e.put t (rw view not)).0)
      | inr f ↦ let h = e.forbidden f in inr (c.answered.ensures ∙ ap answer_of h.0, c.count_answer.ensures ∙ h.1 ∙ view)
    ]
