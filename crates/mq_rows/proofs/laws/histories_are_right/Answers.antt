use Rattle.mq_rows.proofs.Words.{day_of}
use Rattle.mq_rows.proofs.Rightness.{reordered_right}
use Rattle.mq_rows.proofs.laws.histories_are_right.Goals as goal

pub returns : goal.returns
returns c = λ b t f legal are.
    let day = day_of b.zone in
    reordered_right day b.default b.history (record {
      sums = record {
        all_held = λ l d ts. c.sums_over_transactions.ensures.all_held day b.default b.history l d ts legal.legal;
        all_settled = λ l d ts. c.sums_over_transactions.ensures.all_settled day b.default b.history l d ts legal.legal;
        held_is_reserved = λ u moment login. c.used_where_reserved.ensures.held day b.default b.history u moment login legal.legal;
        none = λ l d. c.used_where_reserved.ensures.none day b.default b.history l d legal.legal;
      };
      within = c.within_limits.ensures day b.default b.history legal.legal;
      range = legal.legal.range;
      governs = record { none = c.latest_limit_governs.ensures.none b.default b.history; latest = c.latest_limit_governs.ensures.latest b.default b.history };
    }) t are.transactions are.usage are.limits f
