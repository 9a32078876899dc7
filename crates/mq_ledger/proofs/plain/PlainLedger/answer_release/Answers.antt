use Rattle.mq_ledger.proofs.Words.{arith, inl, inr, option_cases}
use Rattle.mq_ledger.proofs.Books.{book_held}
use Rattle.mq_ledger.proofs.plain.PlainLedger.answer_release.Goals as goal

pub granted_in-requires : goal.granted_in-requires
granted_in-requires c = elim (option_cases c.refusal.result) [
  | inr p ↦ absurd (c.in_default.not-Some p.0 p.1)
  | inl none ↦ rw c.deref-2.ensures.value (omega (arith, book_held _ c.self.invariant c.args.id.now c.args.txn c.args.moment c.args.login.now (rw (none, c.deref.ensures.value) at c.refusal.ensures)))
]
