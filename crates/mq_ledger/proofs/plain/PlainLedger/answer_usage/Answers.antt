use Rattle.mq_ledger.proofs.Words.{UsageRow, ap, arith}
use Rattle.mq_request.specs.declared.message.Reply.TheVariants.{Usage}
use Rattle.mq_ledger.proofs.Books.{book_used}
use Rattle.mq_ledger.proofs.plain.PlainLedger.answer_usage.Goals as goal

pub row-requires-clause-fits : goal.row-requires-clause-fits
row-requires-clause-fits c = rw c.deref.ensures.value (omega (arith, book_used _ c.self.invariant c.args.login.now c.args.day))

pub returns : goal.returns
returns c =
    let told = rw c.deref.ensures.value at c.in_ok-login.ensures in
    rw (← c.self.view_is) (ap (λ (r : UsageRow). Usage r.login c.args.day r.settled r.reserved r.cap) told)
