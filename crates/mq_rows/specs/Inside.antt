-- Whether a pair's figures are right, where they are at hand.
use Rattle.std.specs.Prelude.{ℤ, ◌+ℤ◌, Bool, ◌&&◌, int_le}
use Rattle.std.specs.Ordering.{int_eq}
use Rattle.mq_rows.specs.declared.books.Amounts.{Amounts}
use Rattle.mq_rows.specs.declared.books.Sums.{Sums}

-- the row has what its transactions come to, within the cap, and each of those has a moment of its day
abbrev pub are_right : Amounts → Sums → ℤ → Bool
are_right u s cap =
    int_eq u.settled s.settled
    && (int_eq u.reserved s.held && (int_le (u.settled +ℤ u.reserved) cap && s.are_dated))
