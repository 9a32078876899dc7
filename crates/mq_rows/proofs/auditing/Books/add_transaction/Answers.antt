use Rattle.std.proofs.Common.{◌≡◌, ◌∙◌, ◌++◌, ap, sym, map, rules, ◌+◌, [], ◌∷◌, length-append}
use Rattle.mq_rows.proofs.Words.{Day, TransactionFigures, UsageFigures, Zone, day_of, day_or, get, list_any, map-append, pair_cmp, pairs, same_pair, with_row, with_transaction}
use Rattle.mq_rows.proofs.Booking.{one_more_sum, part_put, part_kept, pairs_put, any_end}
use Rattle.mq_rows.proofs.auditing.Books.add_transaction.Goals as goal

pub returns-clause-ok : goal.returns-clause-ok
returns-clause-ok c = λ zone default f books.
    let x = c.args.row in
    let days = c.args.self.now.days in
    let before : Day = c.day-before.result in
    let more : c.in_ok-sums.sums ≡ with_row (day_of c.args.self.now.zone) x before.sums = search rules in
    let sums : c.in_ok-sums.sums ≡ with_row (day_of zone) x (day_or (get pair_cmp days x.pair)).sums =
    more ∙ ap (λ (z : Zone). with_row (day_of z) x before.sums) books.zone_is ∙ ap (λ (d : Day). with_row (day_of zone) x d.sums) c.day-before.ensures in
    let after : Day = record { usage = before.usage; sums = c.in_ok-sums.sums } in
    let rows : c.in_ok-rows.rows ≡ c.args.self.now.transaction_rows + 1 = search rules in
    let updates = c.in_ok-insert.ensures.updates.0 in
    record {
      zone_is = books.zone_is;
      default_is = books.default_is;
      usage = λ p. part_kept x.pair after (get pair_cmp days) (get pair_cmp c.insert.new.self) updates (λ d. d.usage) (ap (λ (d : Day). d.usage) c.day-before.ensures) p ∙ books.usage p;
      sums = one_more_sum (day_of zone) f.transactions x (λ p. (day_or (get pair_cmp days p)).sums) (λ p. (day_or (get pair_cmp c.insert.new.self p)).sums) books.sums
          (part_put x.pair after (get pair_cmp days) (get pair_cmp c.insert.new.self) updates (λ d. d.sums) _ sums);
      known = pairs_put x.pair after (get pair_cmp days) (get pair_cmp c.insert.new.self) updates (pairs f) (pairs (with_transaction f x))
          (λ p. ap (λ ps. list_any (same_pair p) (map (λ (u : UsageFigures). u.pair) f.usage ++ ps)) (map-append (λ (t : TransactionFigures). t.pair) f.transactions (x ∷ []))
          ∙ any_end (same_pair p) (map (λ (u : UsageFigures). u.pair) f.usage) (map (λ (t : TransactionFigures). t.pair) f.transactions) x.pair) books.known;
      caps = books.caps;
      usage_rows = books.usage_rows;
      transaction_rows = rows ∙ ap (λ n. n + 1) books.transaction_rows ∙ sym (length-append f.transactions (x ∷ []));
    }
