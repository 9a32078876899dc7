use Rattle.mq_ledger.proofs.Words.{Entry, Id, List, Option, Over, Some, ap, arith, day_of, set_or_over, sym, used, ℕ, ◌∙◌, ◌≡◌}
use Rattle.mq_ledger.proofs.Books.{book_used}
use Rattle.mq_ledger.proofs.plain.PlainLedger.answer_limit.Goals as goal

pub over-requires-clause-fits : goal.over-requires-clause-fits
over-requires-clause-fits c = rw c.deref.ensures.value (λ d. omega (arith, book_used _ c.self.invariant c.args.login.now d))

pub used-requires-clause-fits : goal.used-requires-clause-fits
used-requires-clause-fits c = rw c.deref-in-Some.ensures.value (omega (arith, book_used _ c.self.invariant c.args.login.now c.in-Some.day))

answered : (day : ℕ → ℕ) (H : List Entry) (login : List ℕ) (d n : ℕ) (o : Option ℕ) → n ≡ used day H login d → Some d ≡ o → (id : Id) → Over id d n ≡ set_or_over day H id login o
answered day H login d n o used_is over_is id = ap (Over id d) used_is ∙ ap (set_or_over day H id login) over_is

pub returns-in-Some : goal.returns-in-Some
returns-in-Some c =
    rw (← c.self.view_is) (answered (day_of c.self.inside.zone) c.self.inside.entries.items c.args.login.now c.in-Some.day c.used.result _
    (rw c.deref-in-Some.ensures.value at c.used.ensures)
    (sym c.in-Some.is ∙ rw c.deref.ensures.value at c.over.ensures))
