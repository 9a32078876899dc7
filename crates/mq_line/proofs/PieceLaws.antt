-- A text cut at its bytes c.
use Rattle.std.proofs.Common.{◌≡◌, ℕ, ◌+◌, ◌<◌, ◌≤◌, true, false, eqb, List, [], ◌∷◌, ◌++◌, length, get_or, take, drop, refl, sym, ap, ◌∙◌, arith, inl, inr}
use Rattle.std.specs.Prelude.{◌≢◌}
use Rattle.std.specs.List.{All, AllByRecursion, slice_split, onto_first}
use Rattle.std.proofs.lemmas.Bool.{false_from_ne_true, cases_Bool, eqb-false, ne_eqb}
use Rattle.std.proofs.lemmas.List.{get_or-take, get_or-drop, length-drop, get_or_default, length-take-le, take-append-drop, drop_more}
use Rattle.std.proofs.lemmas.List.Elements.{All-head, All-tail, All-nil, All-cons}
use Rattle.std.proofs.lemmas.List.Splits.{slice_split_at, slice_split_none, length-slice_split}
use Rattle.bstr.specs.Find.{NoneBefore, NoneAfter, Nowhere, Passes, is_byte}
use Rattle.mq_line.specs.Pieces.{pieces, Lacks}

-- what stands before place k, where the byte doesn't
none_before : (c : ℕ) (bytes : List ℕ) (k : ℕ) → k ≤ length bytes → Nowhere (Passes (is_byte c) bytes) 0 k → All (λ b. eqb b c ≡ false) (take k bytes)
none_before c bytes k le none i d lt =
    let small : i < k = omega (arith, length-take-le k bytes le) in
    let same : get_or (take k bytes) i d ≡ get_or bytes i 0 = get_or-take k bytes i d small ∙ get_or_default bytes i d 0 (omega arith) in
    rw same (false_from_ne_true _ (none i (omega arith) small))

-- what stands after place k, where no byte after it is c
none_after : (c : ℕ) (bytes : List ℕ) (k : ℕ) → k < length bytes → Nowhere (Passes (is_byte c) bytes) (k + 1) (length bytes) → All (λ b. eqb b c ≡ false) (drop (k + 1) bytes)
none_after c bytes k lt none i d small =
    let inside : k + 1 + i < length bytes = omega (arith, length-drop (k + 1) bytes) in
    let same : get_or (drop (k + 1) bytes) i d ≡ get_or bytes (k + 1 + i) 0 = get_or-drop (k + 1) bytes i d ∙ get_or_default bytes (k + 1 + i) d 0 inside in
    rw same (false_from_ne_true _ (none (k + 1 + i) (omega arith) inside))

-- a text around its byte at place k
pub split_around : (bytes : List ℕ) (k : ℕ) → k < length bytes → bytes ≡ take k bytes ++ get_or bytes k 0 ∷ drop (k + 1) bytes
split_around bytes k lt = sym (take-append-drop k bytes) ∙ ap (λ (l : List ℕ). take k bytes ++ l) (drop_more bytes k 0 lt)

-- the first byte c ends the first piece
pub first_piece : (c : ℕ) (bytes : List ℕ) (k : ℕ) → NoneBefore (Passes (is_byte c) bytes) 0 (length bytes) k × Passes (is_byte c) bytes k → pieces c bytes ≡ take k bytes ∷ pieces c (drop (k + 1) bytes)
first_piece c bytes k h =
    ap (λ (l : List ℕ). slice_split (λ b. eqb b c) l) (split_around bytes k h.0.high)
    ∙ slice_split_at (λ b. eqb b c) (take k bytes) (get_or bytes k 0) (drop (k + 1) bytes) (none_before c bytes k (omega (arith, h.0.high)) h.0.before) h.1

-- without the byte c there is one piece
pub one_piece : (c : ℕ) (bytes : List ℕ) → Nowhere (Passes (is_byte c) bytes) 0 (length bytes) → pieces c bytes ≡ bytes ∷ []
one_piece c bytes none = slice_split_none (λ b. eqb b c) bytes (λ i d lt. rw (get_or_default bytes i d 0 lt) (false_from_ne_true _ (none i (omega arith) lt)))

onto_first-append : (x : ℕ) (ps qs : List (List ℕ)) → 0 < length ps → onto_first x (ps ++ qs) ≡ onto_first x ps ++ qs
onto_first-append x [] qs some = absurd (omega arith)
onto_first-append x (p ∷ ps) qs some = refl

-- the pieces of two texts with a byte c between them
pub pieces-append : (c : ℕ) (front : List ℕ) (y : ℕ) (back : List ℕ) → eqb y c ≡ true → pieces c (front ++ y ∷ back) ≡ pieces c front ++ pieces c back
pieces-append c [] y back e = rw e refl
pieces-append c (x ∷ front) y back e = elim (cases_Bool (eqb x c)) [
  | inl t ↦ rw (t, pieces-append c front y back e) refl
  | inr f ↦ rw (f, pieces-append c front y back e) (onto_first-append x (pieces c front) (pieces c back) (omega (arith, length-slice_split (λ b. eqb b c) front)))
]

-- what stands after the last byte c is the last piece
pub last_piece : (c : ℕ) (bytes : List ℕ) (k : ℕ) → NoneAfter (Passes (is_byte c) bytes) 0 (length bytes) k × Passes (is_byte c) bytes k → pieces c bytes ≡ pieces c (take k bytes) ++ drop (k + 1) bytes ∷ []
last_piece c bytes k h =
    let last : pieces c (drop (k + 1) bytes) ≡ drop (k + 1) bytes ∷ [] = slice_split_none (λ b. eqb b c) (drop (k + 1) bytes) (none_after c bytes k (omega (arith, h.0.high)) h.0.after) in
    ap (λ (l : List ℕ). slice_split (λ b. eqb b c) l) (split_around bytes k h.0.high)
    ∙ pieces-append c (take k bytes) (get_or bytes k 0) (drop (k + 1) bytes) h.1
    ∙ ap (λ (l : List (List ℕ)). pieces c (take k bytes) ++ l) last

-- there is a piece
pub some_piece : (c : ℕ) (bytes : List ℕ) → (first : List ℕ) × (more : List (List ℕ)) × (pieces c bytes ≡ first ∷ more)
some_piece c [] = ([], [], refl)
some_piece c (x ∷ bytes) = elim (cases_Bool (eqb x c)) [
  | inl t ↦ ([], pieces c bytes, rw t refl)
  | inr f ↦ (let p = some_piece c bytes in (x ∷ p.0, p.1, rw (f, p.2) refl))
]

-- bytes other than c stay in front of the first piece
pub pieces-front : (c : ℕ) (w bs first : List ℕ) (more : List (List ℕ)) → All (λ x. eqb x c ≡ false) w → pieces c bs ≡ first ∷ more → pieces c (w ++ bs) ≡ (w ++ first) ∷ more
pieces-front c [] bs first more none p = p
pieces-front c (x ∷ w) bs first more none p =
    rw (All-head (λ b. eqb b c ≡ false) x w none, pieces-front c w bs first more (All-tail (λ b. eqb b c ≡ false) x w none) p) refl

pub lacks-tests : (c : ℕ) (bytes : List ℕ) → Lacks c bytes → All (λ b. eqb b c ≡ false) bytes
lacks-tests c bytes none i d lt = ne_eqb _ _ (none i d lt)

onto_first-lacks : (c x : ℕ) (ps : List (List ℕ)) → x ≢ c → AllByRecursion (Lacks c) ps → AllByRecursion (Lacks c) (onto_first x ps)
onto_first-lacks c x [] ne h = (All-cons (λ b. b ≢ c) x [] ne (All-nil (λ b. b ≢ c)), tt)
onto_first-lacks c x (p ∷ ps) ne h = (All-cons (λ b. b ≢ c) x p ne h.0, h.1)

-- no piece has the byte c
pub pieces-lack : (c : ℕ) (bytes : List ℕ) → AllByRecursion (Lacks c) (pieces c bytes)
pieces-lack c [] = (All-nil (λ b. b ≢ c), tt)
pieces-lack c (x ∷ bytes) = elim (cases_Bool (eqb x c)) [
  | inl t ↦ rw t (All-nil (λ b. b ≢ c), pieces-lack c bytes)
  | inr f ↦ rw f (onto_first-lacks c x (pieces c bytes) (eqb-false _ _ f) (pieces-lack c bytes))
]
