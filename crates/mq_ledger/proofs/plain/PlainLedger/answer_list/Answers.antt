use Rattle.std.proofs.Common.{arith}
use Rattle.mq_ledger.proofs.Books.{book_used}
use Rattle.mq_ledger.proofs.plain.PlainLedger.answer_list.Goals as goal

pub page-requires-clause-fits : goal.page-requires-clause-fits
page-requires-clause-fits c = rw c.deref.ensures.value (λ l. omega (arith, book_used _ c.self.invariant l c.args.day))
