-- When two rows of a list are the same: in login, counts and limit.
use Rattle.std.specs.Prelude.{List, Bool, nat_eq}
use Rattle.std.specs.Ordering.{on, eq_of_both}
use Rattle.std.specs.Cmp.{IsPartialEquivalence, on_per, and_per, partial_equiv_from_equiv, nat_eq_equiv}
use Rattle.std.specs.Cmp.Lexicographic.{pointwise, lists_per}
use Rattle.mq_request.specs.declared.usage.UsageRow.{UsageRow}

-- two rows have the same login, settled, reserved and cap
abbrev pub same_row : UsageRow → UsageRow → Bool
same_row =
    eq_of_both (on (λ r. r.login) (pointwise nat_eq))
    (eq_of_both (on (λ r. r.settled) nat_eq) (eq_of_both (on (λ r. r.reserved) nat_eq) (on (λ r. r.cap) nat_eq)))

-- it is symmetric and transitive
pub same_row_laws : IsPartialEquivalence same_row
same_row_laws =
    let p = partial_equiv_from_equiv nat_eq_equiv in
    and_per (on_per (λ r. r.login) (lists_per p))
    (and_per (on_per (λ r. r.settled) p) (and_per (on_per (λ r. r.reserved) p) (on_per (λ r. r.cap) p)))

-- two pages have the same rows in the same order
abbrev pub same_rows : List UsageRow → List UsageRow → Bool
same_rows = pointwise same_row

-- that is symmetric and transitive too
pub same_rows_laws : IsPartialEquivalence same_rows
same_rows_laws = lists_per same_row_laws
