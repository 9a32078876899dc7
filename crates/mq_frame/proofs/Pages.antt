-- The rows of a page, read one after another.
use Rattle.std.proofs.Common.{◌≡◌, ℕ, suc, ◌-◌, ◌+◌, ◌<◌, List, [], ◌∷◌, ◌++◌, Option, Some, None, refl, sym, ap, append_assoc, arith}
use Rattle.std.specs.Prelude.{true, false, nat_le, if◌then◌else◌}
use Rattle.mq_frame.specs.Reading.{row, times_at, counted_at, ◌>>=◌}
use Rattle.mq_frame.specs.Parts.{rows_in}
use Rattle.mq_request.specs.declared.usage.UsageRow.{UsageRow}

-- rows that were taken, and then those that are read
abbrev pub behind : List UsageRow → Option (List UsageRow × List ℕ) → Option (List UsageRow × List ℕ)
behind taken None = None
behind taken (Some b) = Some (taken ++ b.0, b.1)

abbrev with_row : UsageRow → List UsageRow × List ℕ → Option (List UsageRow × List ℕ)
with_row r b = Some (r ∷ b.0, b.1)

shifted : (o : Option (List UsageRow × List ℕ)) (taken : List UsageRow) (r : UsageRow) → behind taken (o >>= with_row r) ≡ behind (taken ++ r ∷ []) o
shifted None taken r = refl
shifted (Some b) taken r = let P : List UsageRow → Option (List UsageRow × List ℕ) = λ l. Some (l, b.1) in ap P (sym (append_assoc taken (r ∷ []) b.0))

-- one more row
pub times_step : (n k : ℕ) (rest after : List ℕ) (r : UsageRow) (taken : List UsageRow) → k < n → row.read rest ≡ Some (r, after)
    → behind taken (times_at row (n - k) rest) ≡ behind (taken ++ r ∷ []) (times_at row (n - (k + 1)) after)
times_step n k rest after r taken lt e =
    let more : n - k ≡ suc (n - (k + 1)) = omega (arith, lt) in
    rw (more, e) (shifted (times_at row (n - (k + 1)) after) taken r)

pub rows_step : (n k : ℕ) (rest after : List ℕ) (r : UsageRow) (taken : List UsageRow) → k < n → row.read rest ≡ Some (r, after)
    → taken ++ rows_in (n - k) rest ≡ (taken ++ r ∷ []) ++ rows_in (n - (k + 1)) after
rows_step n k rest after r taken lt e =
    let more : n - k ≡ suc (n - (k + 1)) = omega (arith, lt) in
    rw (more, e) (sym (append_assoc taken (r ∷ []) (rows_in (n - (k + 1)) after)))

-- no further row
pub times_none : (n k : ℕ) (rest : List ℕ) (taken : List UsageRow) → k < n → row.read rest ≡ None → behind taken (times_at row (n - k) rest) ≡ None
times_none n k rest taken lt e =
    let more : n - k ≡ suc (n - (k + 1)) = omega (arith, lt) in
    rw (more, e) refl

pub page_none : (n : ℕ) (bytes rows : List ℕ) → bytes ≡ n ∷ rows → times_at row n rows ≡ None → counted_at 100 row bytes ≡ None
page_none n bytes rows e h = rw e (elim (nat_le n 100) as (λ b. (if b then times_at row n rows else None) ≡ None) [ true ↦ h | false ↦ refl ])
