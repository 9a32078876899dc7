-- The search for an LF goes on where it stopped.
use Rattle.std.proofs.Common.{◌≡◌, ℕ, ◌+◌, ◌-◌, ◌<◌, ◌≤◌, min, List, ◌∷◌, ◌++◌, length, get_or, take, drop, sym, ap, ◌∙◌, subst, arith, inl, inr}
use Rattle.std.specs.Prelude.{◌≢◌}
use Rattle.std.proofs.lemmas.Bool.{eq-eqb, eqb-true, cases_lt}
use Rattle.std.proofs.lemmas.List.{get_or-take, get_or-drop, get_or_default, length-take-le, length-drop, take_all, take-append-drop}
use Rattle.bstr.specs.Find.{NoneBefore, Nowhere, Passes, is_byte}
use Rattle.mq_line.specs.Pieces.{Lacks}
use Rattle.mq_line.specs.Text.{IsLine, IsTooLong}
use Rattle.mq_line.specs.Search.{IsSearched}
use Rattle.mq_line.proofs.PieceLaws.{split_around}

-- the bytes that weren't searched yet, up to an end
abbrev unsearched : List ℕ → ℕ → ℕ → List ℕ
unsearched held searched end = take (end - searched) (drop searched held)

length-unsearched : (held : List ℕ) (searched end : ℕ) → end ≤ length held → length (unsearched held searched end) ≡ end - searched
length-unsearched held searched end le = length-take-le (end - searched) (drop searched held) (omega (arith, length-drop searched held))

byte_of : (held : List ℕ) (searched end k : ℕ) → k < end - searched → get_or (unsearched held searched end) k 0 ≡ get_or held (searched + k) 0
byte_of held searched end k lt = get_or-take (end - searched) (drop searched held) k 0 lt ∙ get_or-drop searched held k 0

lacks_on : (held : List ℕ) (searched m : ℕ) → searched + m ≤ length held → Lacks 10 (take searched held) → ((k : ℕ) → k < m → get_or held (searched + k) 0 ≢ 10) → Lacks 10 (take (searched + m) held)
lacks_on held searched m le none here i d lt =
    let small : i < searched + m = omega (arith, length-take-le (searched + m) held le) in
    let same : get_or (take (searched + m) held) i d ≡ get_or held i d = get_or-take (searched + m) held i d small in
    elim (cases_lt i searched) [
      | inl before ↦ (λ e. none i d (omega (arith, length-take-le searched held (omega arith))) (get_or-take searched held i d before ∙ sym same ∙ e))
      | inr behind ↦ (λ e. here (i - searched) (omega arith) (ap (λ (n : ℕ). get_or held n 0) (omega arith) ∙ get_or_default held i 0 d (omega arith) ∙ sym same ∙ e))
    ]

nowhere_lacks : (held : List ℕ) (searched end m : ℕ) → end ≤ length held → m ≤ end - searched → searched ≤ end → Lacks 10 (take searched held) → Nowhere (Passes (is_byte 10) (unsearched held searched end)) 0 m → Lacks 10 (take (searched + m) held)
nowhere_lacks held searched end m le fits start none here =
    lacks_on held searched m (omega arith) none (λ k lt e. here k (omega arith) lt (eq-eqb _ _ (byte_of held searched end k (omega arith) ∙ e)))

-- an LF ends a line
pub line_found : (held : List ℕ) (searched end place : ℕ) → IsSearched held searched → end ≡ min (length held) 65537 → NoneBefore (Passes (is_byte 10) (unsearched held searched end)) 0 (length (unsearched held searched end)) place × Passes (is_byte 10) (unsearched held searched end) place
    → IsLine (take (searched + place) held) × (held ≡ take (searched + place) held ++ 10 ∷ drop (searched + place + 1) held) × (searched + place < length held)
line_found held searched end place s is found =
    let le : end ≤ length held = omega arith in
    let n : length (unsearched held searched end) ≡ end - searched = length-unsearched held searched end le in
    let inside : place < end - searched = omega (arith, found.0.high) in
    let lf : get_or held (searched + place) 0 ≡ 10 = sym (byte_of held searched end place inside) ∙ eqb-true _ _ found.1 in (
      record {
        one = nowhere_lacks held searched end place le (omega arith) (omega (arith, s.inside, s.enough)) s.none found.0.before;
        short = omega (arith, length-take-le (searched + place) held (omega arith));
      },
      split_around held (searched + place) (omega arith) ∙ ap (λ (b : ℕ). take (searched + place) held ++ b ∷ drop (searched + place + 1) held) lf,
      omega arith,
    )

searched_all : (held : List ℕ) (searched end : ℕ) → IsSearched held searched → end ≡ min (length held) 65537 → Nowhere (Passes (is_byte 10) (unsearched held searched end)) 0 (length (unsearched held searched end)) → Lacks 10 (take end held)
searched_all held searched end s is none =
    let le : end ≤ length held = omega arith in
    let start : searched ≤ end = omega (arith, s.inside, s.enough) in
    let n : length (unsearched held searched end) ≡ end - searched = length-unsearched held searched end le in
    let whole : searched + (end - searched) ≡ end = omega arith in
    subst (λ (m : ℕ). Lacks 10 (take m held)) whole (nowhere_lacks held searched end (end - searched) le (omega arith) start s.none (λ k low high. none k low (omega arith)))

-- without one the bytes are too long for a line
pub endless : (held : List ℕ) (searched end : ℕ) → IsSearched held searched → end ≡ min (length held) 65537 → Nowhere (Passes (is_byte 10) (unsearched held searched end)) 0 (length (unsearched held searched end)) → 65536 < end → IsTooLong held × IsSearched held 65537
endless held searched end s is none long =
    let full : end ≡ 65537 = omega arith in
    let lacks : Lacks 10 (take 65537 held) = subst (λ (m : ℕ). Lacks 10 (take m held)) full (searched_all held searched end s is none) in (
      record {
        front = take 65537 held;
        rest = drop 65537 held;
        whole = sym (take-append-drop 65537 held);
        one = lacks;
        long = omega (arith, length-take-le 65537 held (omega arith));
      },
      record { inside = omega arith; enough = omega arith; none = lacks },
    )

-- or may become one
pub open_front : (held : List ℕ) (searched end : ℕ) → IsSearched held searched → end ≡ min (length held) 65537 → Nowhere (Passes (is_byte 10) (unsearched held searched end)) 0 (length (unsearched held searched end)) → end ≤ 65536 → IsLine held
open_front held searched end s is none short =
    let whole : end ≡ length held = omega arith in
    record {
      one = subst (λ (l : List ℕ). Lacks 10 l) (take_all end held (omega arith)) (searched_all held searched end s is none);
      short = omega arith;
    }
