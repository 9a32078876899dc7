use Rattle.std.proofs.Common.{◌≡◌, ◌∙◌, ap, arith, to_z, of_z, w64, cond, Some, unwrap_or, is_eq}
use Rattle.mq_rows.proofs.Words.{LimitFigures, get, ints, pair_cmp}
use Rattle.mq_rows.proofs.Booking.{one_more_first}
use Rattle.mq_rows.proofs.auditing.Books.add_limit.Goals as goal

pub returns-clause-ok : goal.returns-clause-ok
returns-clause-ok c = λ zone default f books.
    let x = c.args.row in
    let caps = c.args.self.now.caps in
    let exact : to_z w64 (of_z w64 x.cap) ≡ x.cap = omega (arith, ints) in
    let first : c.unwrap_or-first.result ≡ unwrap_or (get pair_cmp caps x.pair) x.cap = c.unwrap_or-first.ensures ∙ ap (unwrap_or c.copied.result) exact ∙ ap (λ o. unwrap_or o x.cap) (c.copied.ensures ∙ c.get.ensures.value) in
    let kept : to_z w64 (of_z w64 c.unwrap_or-first.result) ≡ c.unwrap_or-first.result = omega (arith, ints) in
    let value : to_z w64 (of_z w64 c.unwrap_or-first.result) ≡ unwrap_or (get pair_cmp caps x.pair) x.cap = kept ∙ first in
    record {
      zone_is = books.zone_is;
      default_is = books.default_is;
      usage = books.usage;
      sums = books.sums;
      known = books.known;
      caps = one_more_first (λ (r : LimitFigures). r.pair) (λ (r : LimitFigures). r.cap) f.limits x (get pair_cmp caps) (get pair_cmp c.insert.new.self) books.caps
          (λ p. c.in_ok-insert.ensures.updates.0 p ∙ (λ i. cond (is_eq (pair_cmp x.pair p)) (Some (value i)) (get pair_cmp caps p)));
      usage_rows = books.usage_rows;
      transaction_rows = books.transaction_rows;
    }
