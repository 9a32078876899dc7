-- The seconds of a time, byte after byte.
use Rattle.std.proofs.Common.{◌≡◌, ℕ, ◌+◌, ◌-◌, ◌*◌, ◌^◌, ◌<◌, ◌≤◌, Bool, true, false, cond, eqb, List, [], ◌∷◌, ◌++◌, length, get_or, take, drop, refl, sym, ap, ◌∙◌, arith, inl, inr, length-append}
use Rattle.std.specs.Prelude.{◌⊎◌, Some, None}
use Rattle.std.specs.List.{All, list_all, join_with_byte}
use Rattle.std.specs.Char.{is_ascii_digit, digit_value}
use Rattle.std.specs.Str.Parse.{AllDigits, digits_value}
use Rattle.std.proofs.lemmas.Bool.{false_from_ne_true, eqb-true, leb-true, lt-ltb, le-leb, false≢true, and_left, and_right, and_parts, and_from}
use Rattle.std.proofs.lemmas.List.{length-take-le, take_all, take_rest}
use Rattle.std.proofs.lemmas.List.Folds.{list_all_at, list_all_more, list_all-append}
use Rattle.std.proofs.lemmas.List.Splits.{slice_split_at, slice_split_none, join_with_byte-slice_split}
use Rattle.std.proofs.lemmas.Int.Digits.{digits_value-lt, digits_value_more}
use Rattle.std.proofs.lemmas.Str.{digit_value_digit}
use Rattle.std.proofs.Math.Nat.{pow-le-pow_right}
use Rattle.mq_line.specs.Pieces.{pieces}
use Rattle.mq_line.specs.Grammar.{is_number, seconds_around, seconds_of}
use Rattle.mq_line.proofs.PieceLaws.{some_piece, pieces-front, split_around}

-- a point is no digit
digits_lack_points : (w : List ℕ) → list_all is_ascii_digit w ≡ true → All (λ b. eqb b 46 ≡ false) w
digits_lack_points w h i d lt = false_from_ne_true _ (λ e.
    let is : is_ascii_digit (get_or w i d) ≡ false = ap is_ascii_digit (eqb-true _ _ e) in
    false≢true (sym (list_all_at is_ascii_digit w i d lt is) ∙ h))

pub is_number_is : (most : ℕ) (w : List ℕ) → 0 < length w → length w ≤ most → list_all is_ascii_digit w ≡ true → is_number most w ≡ true
is_number_is most w some few h = and_from _ _ (lt-ltb 0 (length w) some) (and_from _ _ (le-leb (length w) most few) h)

number_digits : (most : ℕ) (w : List ℕ) → is_number most w ≡ true → list_all is_ascii_digit w ≡ true
number_digits most w h = (and_parts _ _ (and_parts _ _ h).1).1

not_number_around : (w : List ℕ) (more : List (List ℕ)) → is_number 18 w ≡ false → seconds_around (w ∷ more) ≡ None
not_number_around w [] h = refl
not_number_around w (f ∷ []) h = ap (λ (t : Bool). cond t (Some (digits_value 10 w)) None) (and_left _ (is_number 9 f) h)
not_number_around w (f ∷ g ∷ more) h = refl

-- digits alone are no time
pub at_end : (w : List ℕ) → list_all is_ascii_digit w ≡ true → seconds_of w ≡ None
at_end w h = ap seconds_around (slice_split_none (λ b. eqb b 46) w (digits_lack_points w h))

one_fraction : (w bs f : List ℕ) (more : List (List ℕ)) → pieces 46 bs ≡ f ∷ more → is_number 9 bs ≡ false → seconds_around (w ∷ f ∷ more) ≡ None
one_fraction w bs f [] e h =
    let same : f ≡ bs = ap (join_with_byte 46) (sym e) ∙ join_with_byte-slice_split 46 bs in
    ap (λ (l : List ℕ). seconds_around (w ∷ l ∷ [])) same ∙ ap (λ (t : Bool). cond t (Some (digits_value 10 w)) None) (and_right (is_number 18 w) (is_number 9 bs) h)
one_fraction w bs f (g ∷ more) e h = refl

cut_at_point : (w bs : List ℕ) → list_all is_ascii_digit w ≡ true → pieces 46 (w ++ 46 ∷ bs) ≡ w ∷ pieces 46 bs
cut_at_point w bs h = slice_split_at (λ b. eqb b 46) w 46 bs (digits_lack_points w h) refl

-- digits and a point are a time where a fraction follows
pub at_fraction : (w bs : List ℕ) → list_all is_ascii_digit w ≡ true → 0 < length w → length w ≤ 18 → is_number 9 bs ≡ true → seconds_of (w ++ 46 ∷ bs) ≡ Some (digits_value 10 w)
at_fraction w bs h some few k =
    ap seconds_around (cut_at_point w bs h ∙ ap (λ (l : List (List ℕ)). w ∷ l) (slice_split_none (λ b. eqb b 46) bs (digits_lack_points bs (number_digits 9 bs k))))
    ∙ ap (λ (t : Bool). cond t (Some (digits_value 10 w)) None) (and_from _ _ (is_number_is 18 w some few h) k)

pub at_no_fraction : (w bs : List ℕ) → list_all is_ascii_digit w ≡ true → is_number 9 bs ≡ false → seconds_of (w ++ 46 ∷ bs) ≡ None
at_no_fraction w bs h k =
    let p = some_piece 46 bs in
    ap seconds_around (cut_at_point w bs h ∙ ap (λ (l : List (List ℕ)). w ∷ l) p.2) ∙ one_fraction w bs p.0 p.1 p.2 k

-- a point in front is none
pub at_no_digit : (bs : List ℕ) → seconds_of (46 ∷ bs) ≡ None
at_no_digit bs = not_number_around [] (pieces 46 bs) refl

longer : (w f : List ℕ) (b : ℕ) → (is_ascii_digit b ≡ false) ⊎ (18 ≤ length w) → is_number 18 (w ++ b ∷ f) ≡ false
longer w f b (inl no_digit) = false_from_ne_true _ (λ e.
    let all = sym (list_all-append is_ascii_digit w (b ∷ f)) ∙ number_digits 18 (w ++ b ∷ f) e in
    false≢true (sym no_digit ∙ (and_parts _ _ (and_parts _ _ all).1).0))
longer w f b (inr long) = false_from_ne_true _ (λ e.
    let few : length (w ++ b ∷ f) ≤ 18 = leb-true _ _ (and_parts _ _ (and_parts _ _ e).1).0 in
    absurd (omega (arith, length-append w (b ∷ f), few)))

-- nor is what begins with another byte or with too many digits
pub at_other : (w : List ℕ) (b : ℕ) (bs : List ℕ) → list_all is_ascii_digit w ≡ true → eqb b 46 ≡ false → (is_ascii_digit b ≡ false) ⊎ (18 ≤ length w) → seconds_of (w ++ b ∷ bs) ≡ None
at_other w b bs h e k =
    let p = some_piece 46 bs in
    ap seconds_around (pieces-front 46 w (b ∷ bs) (b ∷ p.0) p.1 (digits_lack_points w h) (rw (e, p.2) refl)) ∙ not_number_around (w ++ b ∷ p.0) p.1 (longer w p.0 b k)

digit_range : (b : ℕ) → is_ascii_digit b ≡ true → (48 ≤ b) × (b ≤ 57)
digit_range b h = let p = and_parts _ _ h in (leb-true _ _ p.0, leb-true _ _ p.1)

digit_below : (b : ℕ) → is_ascii_digit b ≡ true → digit_value b < 10
digit_below b h = let p : (48 ≤ b) × (b ≤ 57) = digit_range b h in omega (arith, digit_value_digit b p)

all_digits : (w : List ℕ) → list_all is_ascii_digit w ≡ true → AllDigits 10 w
all_digits [] h = tt
all_digits (b ∷ w) h = let p = and_parts _ _ h in (digit_below b p.0, all_digits w p.1)

-- digits before the last of eighteen leave room for one more
digits_fit : (w : List ℕ) → list_all is_ascii_digit w ≡ true → length w < 18 → digits_value 10 w < 10 ^ 17
digits_fit w h few =
    omega (arith, digits_value-lt 10 w (all_digits w h), pow-le-pow_right {n = 10} (omega arith) {i = length w} {j = 17} (omega arith))

at_point : (time : List ℕ) (k : ℕ) → k < length time → get_or time k 0 ≡ 46 → time ≡ take k time ++ 46 ∷ take (length time - (k + 1)) (drop (k + 1) time)
at_point time k lt point =
    split_around time k lt ∙ ap (λ (b : ℕ). take k time ++ b ∷ drop (k + 1) time) point
    ∙ ap (λ (l : List ℕ). take k time ++ 46 ∷ l) (sym (take_rest time (k + 1)))

-- the digits before place k, a point there and a fraction after it
pub fraction_behind : (time : List ℕ) (k : ℕ) → k < length time → get_or time k 0 ≡ 46 → list_all is_ascii_digit (take k time) ≡ true → 0 < k → k ≤ 18 → is_number 9 (take (length time - (k + 1)) (drop (k + 1) time)) ≡ true → seconds_of time ≡ Some (digits_value 10 (take k time))
fraction_behind time k lt point digits some few fraction =
    let n : length (take k time) ≡ k = length-take-le k time (omega arith) in
    ap seconds_of (at_point time k lt point) ∙ at_fraction (take k time) _ digits (omega arith) (omega arith) fraction

pub no_fraction_behind : (time : List ℕ) (k : ℕ) → k < length time → get_or time k 0 ≡ 46 → list_all is_ascii_digit (take k time) ≡ true → is_number 9 (take (length time - (k + 1)) (drop (k + 1) time)) ≡ false → seconds_of time ≡ None
no_fraction_behind time k lt point digits fraction = ap seconds_of (at_point time k lt point) ∙ at_no_fraction (take k time) _ digits fraction

pub no_digit_before : (time : List ℕ) (k : ℕ) → k < length time → get_or time k 0 ≡ 46 → k ≡ 0 → seconds_of time ≡ None
no_digit_before time k lt point first =
    ap seconds_of (at_point time k lt point) ∙ ap (λ (n : ℕ). seconds_of (take n time ++ 46 ∷ take (length time - (k + 1)) (drop (k + 1) time))) first
    ∙ at_no_digit (take (length time - (k + 1)) (drop (k + 1) time))

-- another byte at place k, or one digit too many
pub other_at : (time : List ℕ) (k : ℕ) → k < length time → eqb (get_or time k 0) 46 ≡ false → list_all is_ascii_digit (take k time) ≡ true → (is_ascii_digit (get_or time k 0) ≡ false) ⊎ (18 ≤ k) → seconds_of time ≡ None
other_at time k lt no_point digits (inl other) = ap seconds_of (split_around time k lt) ∙ at_other (take k time) (get_or time k 0) (drop (k + 1) time) digits no_point (inl other)
other_at time k lt no_point digits (inr many) =
    let n : length (take k time) ≡ k = length-take-le k time (omega arith) in
    ap seconds_of (split_around time k lt) ∙ at_other (take k time) (get_or time k 0) (drop (k + 1) time) digits no_point (inr (omega arith))

pub digits_only : (time : List ℕ) (k : ℕ) → length time ≤ k → list_all is_ascii_digit (take k time) ≡ true → seconds_of time ≡ None
digits_only time k le digits = at_end time (rw (take_all k time le) at digits)

-- one digit more
pub value_more : (time : List ℕ) (k : ℕ) → k < length time → is_ascii_digit (get_or time k 0) ≡ true → 10 * digits_value 10 (take k time) + (get_or time k 0 - 48) ≡ digits_value 10 (take (k + 1) time)
value_more time k lt digit =
    let p : (48 ≤ get_or time k 0) × (get_or time k 0 ≤ 57) = digit_range _ digit in
    omega (arith, digits_value_more 10 time k lt, digit_value_digit (get_or time k 0) p)

-- the number so far leaves room for one more digit
pub seconds_fit : (time : List ℕ) (k seconds : ℕ) → k < length time → k ≤ 18 → (k ≡ 18 → ⊥) → list_all is_ascii_digit (take k time) ≡ true → seconds ≡ digits_value 10 (take k time) → seconds < 100000000000000000
seconds_fit time k seconds lt few more digits is =
    let n : length (take k time) < 18 = omega (arith, length-take-le k time (omega arith)) in
    omega (arith, digits_fit (take k time) digits n)

pub digits_push : (time : List ℕ) (k : ℕ) → k < length time → is_ascii_digit (get_or time k 0) ≡ true → list_all is_ascii_digit (take k time) ≡ true → list_all is_ascii_digit (take (k + 1) time) ≡ true
digits_push time k lt digit digits = list_all_more is_ascii_digit time k 0 lt ∙ and_from _ _ digits digit
