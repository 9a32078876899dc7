use Rattle.std.proofs.Common.{refl}
use Rattle.mq_rows.proofs.Words.{answer, transaction}
use Rattle.mq_rows.proofs.Trans.{Ledger, heard}
use Rattle.mq_rows.proofs.Days.{Uses, usage_leads}
use Rattle.mq_rows.proofs.laws.usage_follows.Goals as goal

pub returns : goal.returns
returns c = λ day default H t r f plain above legal are_transactions are found.
    let laws : Ledger day default = record {
      named_more = c.one_more_of_a_transaction.ensures.named;
      closed_more = c.one_more_of_a_transaction.ensures.closed;
      held_more = c.one_more_of_a_transaction.ensures.held;
      settled_more = c.one_more_of_a_transaction.ensures.settled day default;
      unheard = c.open_transactions.ensures.unheard;
      unsettled = c.open_transactions.ensures.open;
    } in
    let us : Uses day default H = record {
      reserves_more = λ e l d. c.one_more_on_a_day.ensures.reserved day default H e l d legal;
      settled_more = c.one_more_on_a_day.ensures.settled day default H;
      reserve_more = c.one_more_on_a_day.ensures.has_reserve day H;
      held_is_reserved = λ id txn moment login. c.used_where_reserved.ensures.held day default H (transaction id txn) moment login legal;
      none = λ l d. c.used_where_reserved.ensures.none day default H l d legal;
    } in
    usage_leads day default H us t r (answer day default H r) f plain (heard day default laws H r above) refl are_transactions are found
