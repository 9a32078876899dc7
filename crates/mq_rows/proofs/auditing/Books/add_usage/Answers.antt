use Rattle.std.proofs.Common.{◌≡◌, ◌∙◌, ◌++◌, ap, sym, map, arith, rules, ℤ, to_z, of_z, w64, ◌+◌, [], ◌∷◌, Some, unwrap_or, length-append}
use Rattle.mq_rows.proofs.Words.{Amounts, Day, TransactionFigures, UsageFigures, amounts_of, day_or, get, ints, list_any, map-append, pair_cmp, pairs, same_pair, with_usage}
use Rattle.mq_rows.proofs.Booking.{one_more_first, part_put, part_kept, pairs_put, any_middle}
use Rattle.mq_rows.proofs.auditing.Books.add_usage.Goals as goal

abbrev amounts : ℤ → ℤ → Amounts
amounts settled reserved = record { settled = settled; reserved = reserved }

pub returns-clause-ok : goal.returns-clause-ok
returns-clause-ok c = λ zone default f books.
    let x = c.args.row in
    let days = c.args.self.now.days in
    let before : Day = c.day-before.result in
    let settled : to_z w64 (of_z w64 x.settled) ≡ x.settled = omega (arith, ints) in
    let reserved : to_z w64 (of_z w64 x.reserved) ≡ x.reserved = omega (arith, ints) in
    let exact : amounts (to_z w64 (of_z w64 x.settled)) (to_z w64 (of_z w64 x.reserved)) ≡ amounts_of x = λ i. amounts (settled i) (reserved i) in
    let first : c.unwrap_or.result ≡ unwrap_or (day_or (get pair_cmp days x.pair)).usage (amounts_of x) =
    c.unwrap_or.ensures ∙ ap (unwrap_or before.usage) exact ∙ ap (λ (d : Day). unwrap_or d.usage (amounts_of x)) c.day-before.ensures in
    let after : Day = record { usage = Some c.unwrap_or.result; sums = before.sums } in
    let rows : c.in_ok-rows.rows ≡ c.args.self.now.usage_rows + 1 = search rules in
    let updates = c.in_ok-insert.ensures.updates.0 in
    record {
      zone_is = books.zone_is;
      default_is = books.default_is;
      usage = one_more_first (λ (r : UsageFigures). r.pair) amounts_of f.usage x (λ p. (day_or (get pair_cmp days p)).usage) (λ p. (day_or (get pair_cmp c.insert.new.self p)).usage) books.usage
          (part_put x.pair after (get pair_cmp days) (get pair_cmp c.insert.new.self) updates (λ d. d.usage) _ (ap Some first));
      sums = λ p. part_kept x.pair after (get pair_cmp days) (get pair_cmp c.insert.new.self) updates (λ d. d.sums) (ap (λ (d : Day). d.sums) c.day-before.ensures) p ∙ books.sums p;
      known = pairs_put x.pair after (get pair_cmp days) (get pair_cmp c.insert.new.self) updates (pairs f) (pairs (with_usage f x))
          (λ p. ap (λ ps. list_any (same_pair p) (ps ++ map (λ (t : TransactionFigures). t.pair) f.transactions)) (map-append (λ (u : UsageFigures). u.pair) f.usage (x ∷ []))
          ∙ any_middle (same_pair p) (map (λ (u : UsageFigures). u.pair) f.usage) (map (λ (t : TransactionFigures). t.pair) f.transactions) x.pair) books.known;
      caps = books.caps;
      usage_rows = rows ∙ ap (λ n. n + 1) books.usage_rows ∙ sym (length-append f.usage (x ∷ []));
      transaction_rows = books.transaction_rows;
    }
