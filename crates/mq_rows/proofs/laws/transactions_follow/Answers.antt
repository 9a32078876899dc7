use Rattle.mq_rows.proofs.Trans.{Ledger, transactions_lead}
use Rattle.mq_rows.proofs.laws.transactions_follow.Goals as goal

pub returns : goal.returns
returns c = λ day default H t r f plain above are found.
    let laws : Ledger day default = record {
      named_more = c.one_more_of_a_transaction.ensures.named;
      closed_more = c.one_more_of_a_transaction.ensures.closed;
      held_more = c.one_more_of_a_transaction.ensures.held;
      settled_more = c.one_more_of_a_transaction.ensures.settled day default;
      unheard = c.open_transactions.ensures.unheard;
      unsettled = c.open_transactions.ensures.open;
    } in
    transactions_lead day default laws H t r f plain above (c.replies_suit.ensures.answer day default H r) are found
