-- When what the tables say of a login and day is right, whatever their rows hold.
use Rattle.std.specs.Prelude.{◌≡◌, ℕ, ℤ, pos, negsuc, ◌+ℤ◌, List, [], ◌∷◌, ◌++◌, map, length, filter, find, fold}
use Rattle.std.specs.Prelude.{Bool, true, false, ◌&&◌, if◌then◌else◌, nat_le}
use Rattle.std.specs.Prelude.{int_le, int_lt, Option, Some, None, Contains}
use Rattle.std.specs.List.{AllByRecursion, list_all}
use Rattle.std.specs.Ordering.{int_eq}
use Rattle.mq_request.specs.declared.bounds.TheConstants.{FIRST_MOMENT, LAST_MOMENT}
use Rattle.mq_request.specs.Same.{same_text}
use Rattle.mq_rows.specs.declared.audited.Audit.{Audit}
use Rattle.mq_rows.specs.declared.audited.Audit.TheVariants.{Sound, Wrong}
use Rattle.mq_rows.specs.declared.audited.LimitFigures.{LimitFigures}
use Rattle.mq_rows.specs.declared.audited.Pair.{Pair}
use Rattle.mq_rows.specs.declared.audited.TransactionFigures.{TransactionFigures}
use Rattle.mq_rows.specs.declared.audited.UsageFigures.{UsageFigures}
use Rattle.mq_rows.specs.Pair.{same_pair, is_before}

-- the rows of the tables that an audit reads
pub record Figures : Type 0 where
  pub usage : List UsageFigures
  pub transactions : List TransactionFigures
  pub limits : List LimitFigures

-- the pairs of the rows of usage and of trans
abbrev pub pairs : Figures → List Pair
pairs f = map (λ u. u.pair) f.usage ++ map (λ t. t.pair) f.transactions

-- the sum, an exact whole number
abbrev pub total : {R : Type 0} → (R → ℤ) → List R → ℤ
total amount [] = pos 0
total amount (r ∷ rows) = amount r +ℤ total amount rows

-- the transactions of the pair
abbrev pub transactions_of : Pair → List TransactionFigures → List TransactionFigures
transactions_of p rows = filter (λ t. same_pair p t.pair) rows

-- what the pair's row of usage has, and nothing where there is no row
abbrev pub settled_by : Option UsageFigures → ℤ
settled_by None = pos 0
settled_by (Some u) = u.settled

abbrev pub reserved_by : Option UsageFigures → ℤ
reserved_by None = pos 0
reserved_by (Some u) = u.reserved

-- the limit is the login's, and holds from that day or an earlier one on
abbrev pub is_due : Pair → LimitFigures → Bool
is_due p c = same_text p.login c.pair.login && int_le c.pair.day p.day

-- the limit holds from a later day on than the one before, where there is one
abbrev pub is_later : Option LimitFigures → LimitFigures → Bool
is_later None c = true
is_later (Some b) c = int_lt b.pair.day c.pair.day

-- the limit that governs the pair: of those that are due the latest
abbrev pub governing : Pair → List LimitFigures → Option LimitFigures
governing p limits = fold (λ latest c. if is_due p c && is_later latest c then Some c else latest) None limits

-- its cap, or the default
abbrev pub cap_or : ℕ → Option LimitFigures → ℤ
cap_or default None = pos default
cap_or default (Some c) = c.cap

-- a moment in range, of that day
abbrev pub is_moment_of : (ℕ → ℕ) → ℤ → ℤ → Bool
is_moment_of day d (pos moment) = nat_le FIRST_MOMENT moment && (nat_le moment LAST_MOMENT && int_eq (pos (day moment)) d)
is_moment_of day d (negsuc moment) = false

-- each of them has a moment of its day
abbrev pub are_dated : (ℕ → ℕ) → List TransactionFigures → Bool
are_dated day rows = list_all (λ t. is_moment_of day t.pair.day t.moment) rows

-- what is settled and reserved is what the transactions settled and hold; it is within the limit; and each of
-- them has a moment of the day
abbrev pub is_right_by : (ℕ → ℕ) → ℤ → Option UsageFigures → List TransactionFigures → Bool
is_right_by day cap u rows =
    int_eq (settled_by u) (total (λ t. t.settled) rows)
    && (int_eq (reserved_by u) (total (λ t. t.held) rows)
    && (int_le (settled_by u +ℤ reserved_by u) cap && are_dated day rows))

-- so it is for the pair's row of usage, its transactions and its limit
abbrev pub is_right : (ℕ → ℕ) → ℕ → Figures → Pair → Bool
is_right day default f p =
    is_right_by day (cap_or default (governing p f.limits)) (find (λ u. same_pair p u.pair) f.usage)
    (transactions_of p f.transactions)

-- Of the pairs that aren't right it is the least.
pub record IsLeastWrong (day : ℕ → ℕ) (default : ℕ) (f : Figures) (p : Pair) : Type 0 where
  pub among : Contains (pairs f) p
  pub wrong : is_right day default f p ≡ false
  pub least : AllByRecursion (λ q. is_right day default f q ≡ false → is_before q p ≡ false) (pairs f)

-- each pair is right, and so many rows there are; or this is the least that isn't
abbrev pub IsAudited : (ℕ → ℕ) → ℕ → Figures → Audit → Type 0
IsAudited day default f (Sound days transactions) =
    AllByRecursion (λ p. is_right day default f p ≡ true) (pairs f)
    × (days ≡ length f.usage) × (transactions ≡ length f.transactions)
IsAudited day default f (Wrong login d) = IsLeastWrong day default f (record { login = login; day = d })
