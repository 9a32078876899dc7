use Rattle.mq_rows.proofs.Words.{transaction}
use Rattle.mq_rows.proofs.Trans.{Ledger, heard}
use Rattle.mq_rows.proofs.Days.{Uses}
use Rattle.mq_rows.proofs.Replies.{Governs, decided_is_answer}
use Rattle.mq_rows.proofs.laws.reply_follows.Goals as goal

pub returns : goal.returns
returns c = λ day default H t r f above legal are_transactions are_usage are_limits.
    let laws : Ledger day default = record {
      named_more = c.one_more_of_a_transaction.ensures.named;
      closed_more = c.one_more_of_a_transaction.ensures.closed;
      held_more = c.one_more_of_a_transaction.ensures.held;
      settled_more = c.one_more_of_a_transaction.ensures.settled day default;
      unheard = c.open_transactions.ensures.unheard;
      unsettled = c.open_transactions.ensures.open;
    } in
    let us : Uses day default H = record {
      reserves_more = λ e l d. c.one_more_on_a_day.ensures.reserved day default H e l d legal;
      settled_more = c.one_more_on_a_day.ensures.settled day default H;
      reserve_more = c.one_more_on_a_day.ensures.has_reserve day H;
      held_is_reserved = λ id txn moment login. c.used_where_reserved.ensures.held day default H (transaction id txn) moment login legal;
      none = λ l d. c.used_where_reserved.ensures.none day default H l d legal;
    } in
    let gs : Governs default H = record { none = c.latest_limit_governs.ensures.none default H; latest = c.latest_limit_governs.ensures.latest default H } in
    decided_is_answer day default H us gs t are_transactions are_usage are_limits (c.over_is_least.ensures.only day H) r f (heard day default laws H r above)
