-- What an audit keeps by pair, and what it reports of the rows.
use Rattle.std.specs.Prelude.{◌≡◌, ℕ, ℤ, pos, ◌+ℤ◌, List, [], ◌∷◌, ◌++◌, length, Bool, true, ◌&&◌, Option, Some, None}
use Rattle.std.specs.Prelude.{option_map, is_some, find, fold, if◌then◌else◌}
use Rattle.std.specs.BTreeMap.{BTreeMap, get}
use Rattle.std.specs.List.{list_any}
use Rattle.mq_ledger.specs.Day.{day_of}
use Rattle.mq_ledger.specs.declared.zone.Zone.{Zone}
use Rattle.mq_rows.specs.Audit.{Figures, pairs, total, transactions_of, is_moment_of, are_dated}
use Rattle.mq_rows.specs.Pair.{pair_cmp, same_pair, is_before}
use Rattle.mq_rows.specs.declared.audited.LimitFigures.{LimitFigures}
use Rattle.mq_rows.specs.declared.audited.Pair.{Pair}
use Rattle.mq_rows.specs.declared.audited.TransactionFigures.{TransactionFigures}
use Rattle.mq_rows.specs.declared.audited.UsageFigures.{UsageFigures}
use Rattle.mq_rows.specs.declared.books.Sums.{Sums}
use Rattle.mq_rows.specs.declared.books.Amounts.{Amounts}
use Rattle.mq_rows.specs.declared.books.Day.{Day}
use Rattle.mq_rows.specs.declared.auditing.Books.{Books}

-- Rows that are given one by one.

-- figures before any row is given
abbrev pub no_rows : Figures
no_rows = record { usage = []; transactions = []; limits = [] }

-- with one row more, at the end of its table's
abbrev pub with_usage : Figures → UsageFigures → Figures
with_usage f u = record f { usage = f.usage ++ u ∷ [] }

abbrev pub with_transaction : Figures → TransactionFigures → Figures
with_transaction f t = record f { transactions = f.transactions ++ t ∷ [] }

abbrev pub with_limit : Figures → LimitFigures → Figures
with_limit f c = record f { limits = f.limits ++ c ∷ [] }

-- What is kept of them.

-- the sums of a pair without transactions
abbrev pub no_sums : Sums
no_sums = record { settled = pos 0; held = pos 0; are_dated = true }

-- what the transactions have together
abbrev pub sums_of : (ℕ → ℕ) → List TransactionFigures → Sums
sums_of day rows = record {
  settled = total (λ t. t.settled) rows;
  held = total (λ t. t.held) rows;
  are_dated = are_dated day rows;
}

-- with one more
abbrev pub with_row : (ℕ → ℕ) → TransactionFigures → Sums → Sums
with_row day t s = record {
  settled = s.settled +ℤ t.settled;
  held = s.held +ℤ t.held;
  are_dated = s.are_dated && is_moment_of day t.pair.day t.moment;
}

-- nothing where there is none
abbrev pub day_or : Option Day → Day
day_or None = record { usage = None; sums = no_sums }
day_or (Some d) = d

-- what is kept of a row of usage
abbrev pub amounts_of : UsageFigures → Amounts
amounts_of u = record { settled = u.settled; reserved = u.reserved }

-- under each pair what its row of usage has
abbrev pub HasUsage : List UsageFigures → BTreeMap Pair Day → Type 0
HasUsage rows m = (p : Pair) → (day_or (get pair_cmp m p)).usage ≡ option_map amounts_of (find (λ u. same_pair p u.pair) rows)

-- under each pair the sums of its transactions
abbrev pub HasSums : (ℕ → ℕ) → List TransactionFigures → BTreeMap Pair Day → Type 0
HasSums day rows m = (p : Pair) → (day_or (get pair_cmp m p)).sums ≡ sums_of day (transactions_of p rows)

-- the pairs of the rows are those under which something is kept
abbrev pub HasPairs : List Pair → BTreeMap Pair Day → Type 0
HasPairs ps m = (p : Pair) → is_some (get pair_cmp m p) ≡ list_any (same_pair p) ps

-- under each pair the cap of the limit from that day on
abbrev pub HasCaps : List LimitFigures → BTreeMap Pair ℤ → Type 0
HasCaps rows m = (p : Pair) → get pair_cmp m p ≡ option_map (λ c. c.cap) (find (λ c. same_pair p c.pair) rows)

-- those are what is kept of the figures, by this zone and this default
pub record AreBooksOf (zone : Zone) (default : ℕ) (f : Figures) (b : Books) : Type 0 where
  pub zone_is : b.zone ≡ zone
  pub default_is : b.default ≡ default
  pub usage : HasUsage f.usage b.days
  pub sums : HasSums (day_of zone) f.transactions b.days
  pub known : HasPairs (pairs f) b.days
  pub caps : HasCaps f.limits b.caps
  pub usage_rows : b.usage_rows ≡ length f.usage
  pub transaction_rows : b.transaction_rows ≡ length f.transactions

-- of the pairs that aren't right so far the least, with one pair more
abbrev pub less_wrong : (Pair → Bool) → Option Pair → Pair → Option Pair
less_wrong right None p = if right p then None else Some p
less_wrong right (Some q) p = if right p then Some q else (if is_before p q then Some p else Some q)

-- that of all of them, and of what was found before
abbrev pub least_wrong : (Pair → Bool) → Option Pair → List Pair → Option Pair
least_wrong right least ps = fold (less_wrong right) least ps
