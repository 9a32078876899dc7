-- How pairs of a login and a day are compared.
use Rattle.std.specs.Prelude.{Bool, ◌&&◌}
use Rattle.std.specs.Cmp.{IsTotalOrder, then_total, on_total, int_cmp_total}
use Rattle.std.specs.Cmp.Lexicographic.{slice_cmp, nat_list_cmp_total}
use Rattle.std.specs.declared.cmp.Ordering.{Ordering}
use Rattle.std.specs.Ordering.{nat_cmp, int_cmp, int_eq, is_lt, on, then_cmp}
use Rattle.mq_request.specs.Same.{same_text}
use Rattle.mq_rows.specs.declared.audited.Pair.{Pair}

-- by the bytes of the logins, then by the days
abbrev pub pair_cmp : Pair → Pair → Ordering
pair_cmp = then_cmp (on (λ p. p.login) (slice_cmp nat_cmp)) (on (λ p. p.day) int_cmp)

-- it is a total order
pub pair_cmp_total : IsTotalOrder pair_cmp
pair_cmp_total = then_total (on_total (λ p. p.login) nat_list_cmp_total) (on_total (λ p. p.day) int_cmp_total)

-- the one stands before the other
abbrev pub is_before : Pair → Pair → Bool
is_before p q = is_lt (pair_cmp p q)

-- the same login and the same day
abbrev pub same_pair : Pair → Pair → Bool
same_pair p q = same_text p.login q.login && int_eq q.day p.day
