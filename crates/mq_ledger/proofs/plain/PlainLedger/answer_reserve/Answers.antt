use Rattle.mq_ledger.proofs.Words.{Entry, Id, IsOpenTo, List, ap, arith, granted_or_full, if_open, inl, inr, option_cases, sym, transaction, ℕ, ◌∙◌, ◌≡◌}
use Rattle.mq_ledger.proofs.Books.{book_used, open_answer}
use Rattle.mq_ledger.proofs.plain.PlainLedger.answer_reserve.Goals as goal

pub used-used-requires-clause-fits : goal.used-used-requires-clause-fits
used-used-requires-clause-fits c = rw c.deref-2.ensures.value (omega (arith, book_used _ c.self.invariant c.args.login.now c.day_at-day.result))

pub granted_or_full-requires : goal.granted_or_full-requires
granted_or_full-requires c =
    let fits = book_used _ c.self.invariant c.args.login.now c.day_at-day.result in
    let used = rw c.deref-2.ensures.value at c.used-used.ensures in
    omega (arith, fits, used, c.requires)

-- of an open transaction the answer is that by what is used and the limit
answered : (H : List Entry) (id : Id) (txn moment : ℕ) (login : List ℕ) (count n limit n' limit' : ℕ) → IsOpenTo moment login H (transaction id txn) → n ≡ n' → limit ≡ limit' → granted_or_full id n limit count ≡ if_open H id txn moment login (granted_or_full id n' limit' count)
answered H id txn moment login count n limit n' limit' open_so used_is cap_is =
    ap (λ m. granted_or_full id m limit count) used_is ∙ ap (λ m. granted_or_full id n' m count) cap_is ∙ sym (open_answer H id txn moment login (granted_or_full id n' limit' count) open_so)

pub returns : goal.returns
returns c = elim (option_cases c.refusal.result) [
  | inr p ↦ absurd (c.in_default.not-Some p.0 p.1)
  | inl none ↦ c.granted_or_full.ensures c.args.id.now ∙ (rw (← c.self.view_is)
      (answered _ c.args.id.now c.args.txn c.args.moment c.args.login.now c.args.count c.used-used.result c.cap-cap.result _ _
      (rw (none, c.deref.ensures.value) at c.refusal.ensures)
      (rw (c.deref-2.ensures.value, c.day_at-day.ensures.value) at c.used-used.ensures)
      (rw (c.deref-3.ensures.value, c.day_at-day.ensures.value) at c.cap-cap.ensures)))
]
