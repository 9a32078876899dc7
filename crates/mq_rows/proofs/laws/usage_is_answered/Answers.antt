use Rattle.std.proofs.Common.{sym, List, ℕ, Some}
use Rattle.mq_rows.proofs.Words.{Entry, IsLegal, UsageReply, transaction}
use Rattle.mq_rows.proofs.Days.{Uses, numbers, tells, usage_at}
use Rattle.mq_rows.proofs.Replies.{Governs, governs}
use Rattle.mq_rows.proofs.laws.usage_is_answered.Goals as goal

pub returns : goal.returns
returns c =
    let us : (day : ℕ → ℕ) (default : ℕ) (H : List Entry) → IsLegal day default H → Uses day default H = λ day default H legal. record {
      reserves_more = λ e l d. c.one_more_on_a_day.ensures.reserved day default H e l d legal;
      settled_more = c.one_more_on_a_day.ensures.settled day default H;
      reserve_more = c.one_more_on_a_day.ensures.has_reserve day H;
      held_is_reserved = λ id txn moment login. c.used_where_reserved.ensures.held day default H (transaction id txn) moment login legal;
      none = λ l d. c.used_where_reserved.ensures.none day default H l d legal;
    } in
    let gs : (default : ℕ) (H : List Entry) → Governs default H = λ default H. record { none = c.latest_limit_governs.ensures.none default H; latest = c.latest_limit_governs.ensures.latest default H } in
    record {
      reply = λ day default H t l d u g legal are_usage are_limits found governing.
          let w = tells day default H (us day default H legal) l d u (usage_at day H t.usage are_usage l d u found) in
          let k = governs default H (gs default H) t.limits are_limits l d g governing in
          λ i. UsageReply l d (w.settled_so i) (w.reserves i) (k i);
      row = λ day default H t l d u g legal are_usage are_limits found governing.
          let x = sym (numbers day H l d u (sym (usage_at day H t.usage are_usage l d (Some u) found))).1 in
          let k = governs default H (gs default H) t.limits are_limits l d g governing in
          λ i. record { login = (x i).login; settled = (x i).settled; reserved = (x i).reserved; cap = k i };
    }
