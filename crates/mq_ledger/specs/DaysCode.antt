-- How days are told apart.
use Rattle.std.specs.Prelude.{◌≡◌, ◌⊎◌, ℕ, ℤ, List, refl}
use Rattle.std.specs.Coded.{Coded, code_by, coded⊎, coded_ℕ, coded_ℤ, coded_list}
use mathlib.Core.Logic.{inl, inr}
use Rattle.mq_ledger.specs.Day.{Days, ByOffset, ByRule}

-- days by an offset are told by its minutes, and days by a rule by its text
abbrev pub split : Days → ℤ ⊎ List ℕ
split (ByOffset minutes) = inl minutes
split (ByRule text) = inr text

-- the days that such minutes or such a text tell
abbrev pub join : ℤ ⊎ List ℕ → Days
join (inl minutes) = ByOffset minutes
join (inr text) = ByRule text

-- nothing of the days is lost on the way
pub joined : (days : Days) → join (split days) ≡ days
joined (ByOffset minutes) = refl
joined (ByRule text) = refl

-- so days are told apart
abbrev pub days_code : Coded Days
days_code = code_by (ℤ ⊎ List ℕ) (coded⊎ coded_ℤ (coded_list coded_ℕ)) split join joined
