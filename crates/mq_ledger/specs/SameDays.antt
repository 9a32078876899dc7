-- When days go by the same.
use Rattle.std.specs.Prelude.{◌≡◌, ℕ, ℤ, List, [], Bool, true, false, bytes_eq, unwrap_or}
use Rattle.std.specs.Bool.{Decides}
use Rattle.std.specs.Ordering.{int_eq}
use Rattle.std.specs.Cmp.{IsEquivalence, decided, signed_Decides}
use Rattle.std.proofs.Common.{sym, ap, true≢false}
use Rattle.std.proofs.lemmas.Slice.Eq.{bytes_eq-Decides}
use Rattle.mq_ledger.specs.Day.{Days, ByOffset, ByRule, minutes_in, rule_in}

-- the same offset, or rules of the same bytes
abbrev pub same_days : Days → Days → Bool
same_days (ByOffset minutes) (ByOffset other) = int_eq minutes other
same_days (ByRule text) (ByRule other) = bytes_eq text other
same_days (ByOffset minutes) (ByRule text) = false
same_days (ByRule text) (ByOffset minutes) = false

-- the days go by an offset
is_offset : Days → Bool
is_offset (ByOffset minutes) = true
is_offset (ByRule text) = false

-- no offset is the same days as a rule
apart : (minutes : ℤ) (text : List ℕ) → ByOffset minutes ≡ ByRule text → ⊥
unfolding is_offset
apart minutes text e = true≢false (ap is_offset e)

-- the test holds of the same days and of no others
pub same_days_Decides : (a b : Days) → Decides (same_days a b) (a ≡ b)
same_days_Decides (ByOffset minutes) (ByOffset other) =
    (λ hit. ap ByOffset ((signed_Decides minutes other).0 hit), λ e. (signed_Decides minutes other).1 (ap minutes_in e))
same_days_Decides (ByRule text) (ByRule other) =
    (λ hit. ap ByRule ((bytes_eq-Decides text other).0 hit), λ e. (bytes_eq-Decides text other).1 (ap (λ d. unwrap_or (rule_in d) []) e))
same_days_Decides (ByOffset minutes) (ByRule text) = (λ hit. absurd (true≢false (sym hit)), λ e. absurd (apart minutes text e))
same_days_Decides (ByRule text) (ByOffset minutes) = (λ hit. absurd (true≢false (sym hit)), λ e. absurd (apart minutes text (sym e)))

-- so it is an equivalence
pub same_days_equiv : IsEquivalence same_days
same_days_equiv = decided same_days same_days_Decides
