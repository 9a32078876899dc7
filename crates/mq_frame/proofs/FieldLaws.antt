-- What is read of a field is spelled so, and what is spelled so is read again.
use Rattle.std.proofs.Common.{◌≡◌, ℕ, zero, suc, ◌+◌, ◌^◌, ◌<◌, ◌≤◌, Bool, true, false, List, [], ◌∷◌, ◌++◌, length, get_or, take, drop, Option, Some, None, refl, sym, ap, subst, ◌∙◌, append_assoc, append-nil, arith, inl, inr}
use Rattle.std.specs.Prelude.{◌&&◌, ◌==◌, nat_le, nat_lt, if◌then◌else◌}
use Rattle.std.specs.Int.{Width, w32, w64, byte_len, from_be_bytes, to_be_bytes}
use Rattle.std.specs.List.{All, flat_map}
use Rattle.std.proofs.lemmas.Bool.{cases_lt, ltb-false, le-ltb}
use Rattle.std.proofs.lemmas.Bool.Decides.{nat_tests, Decides-eqb}
use Rattle.std.proofs.lemmas.List.{take_at, drop_at, take-append-drop, length-append, length-take, get_or-drop, get_or-take, get_or_past, nil_from_length}
use Rattle.std.proofs.lemmas.List.Elements.{All-nil, All-cons, All-head, All-tail}
use Rattle.std.proofs.lemmas.Nat.{be_bytes_4, be_bytes_8, from_be_bytes-to_be_bytes_4, from_be_bytes-to_be_bytes_8}
use Rattle.mq_lemmas.proofs.Booleans.{first_so, second_so, both_so}
use Rattle.mq_lemmas.proofs.Options.{some_is}
use Rattle.mq_request.specs.Range.{IsWithin, between}
use Rattle.mq_frame.specs.Spelling.{with_length}
use Rattle.mq_frame.specs.Reading.{◌>>=◌, Field, if_passes, number_at, number, text_at, text, where_so, pair, made, times_at, counted_at, counted, whole}

abbrev pub IsBytes : List ℕ → Type 0
IsBytes bytes = (i : ℕ) → get_or bytes i 0 < 256

pub IsBytes-drop : (n : ℕ) (bytes : List ℕ) → IsBytes bytes → IsBytes (drop n bytes)
IsBytes-drop n bytes h i = rw get_or-drop (h (n + i))

IsBytes-take : (n : ℕ) (bytes : List ℕ) → IsBytes bytes → IsBytes (take n bytes)
IsBytes-take n bytes h i =
    elim (cases_lt i n) [
      | inl lt ↦ rw (get_or-take n bytes i 0 lt) (h i)
      | inr le ↦ rw (get_or_past (take n bytes) i 0 (omega (arith, length-take n bytes))) (omega arith)
    ]

pub IsBytes-tail : (b : ℕ) (bytes : List ℕ) → IsBytes (b ∷ bytes) → IsBytes bytes
IsBytes-tail b bytes h i = h (suc i)

-- ---- tests

pub within : (low high n : ℕ) → between low high n ≡ true → IsWithin low high n
within low high n h =
    let from : nat_le low n ≡ true = first_so (nat_le low n) (nat_le n high) h in
    let to : nat_le n high ≡ true = second_so (nat_le low n) (nat_le n high) h in
    record { from = grind (arith, nat_tests); to = grind (arith, nat_tests) }

pub tested : (low high n : ℕ) → IsWithin low high n → between low high n ≡ true
tested low high n h =
    let low_le : low ≤ n = h.from in
    let le_high : n ≤ high = h.to in
    both_so (nat_le low n) (nat_le n high) (grind (arith, nat_tests)) (grind (arith, nat_tests))

-- the value of a step that did not fail
pub bind_some : {A B : Type 0} (o : Option A) (f : A → Option B) (y : B) → (o >>= f) ≡ Some y → (x : A) × (o ≡ Some x) × (f x ≡ Some y)
bind_some (Some x) f y e = (x, refl, e)
bind_some None f y e = absurd cc

-- a test that did not fail
pub kept_some : {A : Type 0} (b : Bool) (x y : A) → (if b then Some x else None) ≡ Some y → (b ≡ true) × (x ≡ y)
kept_some true x y e = (refl, cc)
kept_some false x y e = absurd cc

pub kept_here : {A : Type 0} (b : Bool) (o : Option A) (y : A) → (if b then o else None) ≡ Some y → (b ≡ true) × (o ≡ Some y)
kept_here true o y e = (refl, e)
kept_here false o y e = absurd cc

left_some : {A : Type 0} (b : Bool) (o : Option A) (y : A) → (if b then None else o) ≡ Some y → (b ≡ false) × (o ≡ Some y)
left_some true o y e = absurd cc
left_some false o y e = (refl, e)

-- what a reader took from the front
pub record Takes (bytes text rest : List ℕ) : Type 0 where
  pub parts : bytes ≡ text ++ rest
  pub rest_fits : IsBytes rest

Takes-then : (a x b y c : List ℕ) → Takes a x b → Takes b y c → Takes a (x ++ y) c
Takes-then a x b y c p q = record { parts = p.parts ∙ ap (λ (t : List ℕ). x ++ t) q.parts ∙ sym (append_assoc x y c); rest_fits = q.rest_fits }

-- the field reads the values that fit, and no others, of their spellings
pub record IsField {X : Type 0} (f : Field X) (Fits : X → Type 0) : Type 0 where
  pub takes : (bytes : List ℕ) (x : X) (rest : List ℕ) → IsBytes bytes → f.read bytes ≡ Some (x, rest) → Takes bytes (f.spell x) rest × Fits x
  pub again : (x : X) (rest : List ℕ) → Fits x → f.read (f.spell x ++ rest) ≡ Some (x, rest)

-- ---- numbers

pub record IsWide (w : Width) (limit : ℕ) : Type 0 where
  pub len : (n : ℕ) → length (to_be_bytes w n) ≡ byte_len w
  pub back : (bytes : List ℕ) → length bytes ≡ byte_len w → IsBytes bytes → to_be_bytes w (from_be_bytes w bytes) ≡ bytes
  pub again : (n : ℕ) → n < limit → from_be_bytes w (to_be_bytes w n) ≡ n

pub wide32 : IsWide w32 (2 ^ 32)
wide32 = record {
  len = λ n. refl;
  back = λ bytes len fits. be_bytes_4 bytes _ len fits refl;
  again = λ n lt. from_be_bytes-to_be_bytes_4 n lt;
}

pub wide64 : IsWide w64 (2 ^ 64)
wide64 = record {
  len = λ n. refl;
  back = λ bytes len fits. be_bytes_8 bytes _ len fits refl;
  again = λ n lt. from_be_bytes-to_be_bytes_8 n lt;
}

number_takes : (w : Width) (limit : ℕ) (wide : IsWide w limit) (low high : ℕ) (bytes : List ℕ) (n : ℕ) (rest : List ℕ) → IsBytes bytes → number_at w low high bytes ≡ Some (n, rest) → Takes bytes (to_be_bytes w n) rest × IsWithin low high n
number_takes w limit wide low high bytes n rest fits e =
    let g = left_some (nat_lt (length bytes) (byte_len w)) (if_passes (between low high) (from_be_bytes w (take (byte_len w) bytes), drop (byte_len w) bytes)) (n, rest) e in
    let k = kept_some (between low high (from_be_bytes w (take (byte_len w) bytes))) (from_be_bytes w (take (byte_len w) bytes), drop (byte_len w) bytes) (n, rest) g.1 in
    let long : byte_len w ≤ length bytes = ltb-false _ _ g.0 in
    let n-is : from_be_bytes w (take (byte_len w) bytes) ≡ n = ap (λ (p : ℕ × List ℕ). p.0) k.1 in
    let rest-is : drop (byte_len w) bytes ≡ rest = ap (λ (p : ℕ × List ℕ). p.1) k.1 in
    let front : to_be_bytes w n ≡ take (byte_len w) bytes = rw (← n-is) (wide.back (take (byte_len w) bytes) (omega (arith, length-take (byte_len w) bytes)) (IsBytes-take (byte_len w) bytes fits)) in
    let passed : between low high n ≡ true = rw (← n-is) k.0 in
    (record { parts = rw (front, ← rest-is) (sym (take-append-drop (byte_len w) bytes)); rest_fits = rw (← rest-is) (IsBytes-drop (byte_len w) bytes fits) }, within low high n passed)

number_again : (w : Width) (limit : ℕ) (wide : IsWide w limit) (low high : ℕ) → high < limit → (n : ℕ) (rest : List ℕ) → IsWithin low high n → number_at w low high (to_be_bytes w n ++ rest) ≡ Some (n, rest)
number_again w limit wide low high small n rest h =
    let len = wide.len n in
    let long : nat_lt (length (to_be_bytes w n ++ rest)) (byte_len w) ≡ false = le-ltb _ _ (omega (arith, length-append (to_be_bytes w n) rest)) in
    let lt : n < limit = omega (arith, h.to) in
    rw (long, take_at (to_be_bytes w n) rest (byte_len w) len, drop_at (to_be_bytes w n) rest (byte_len w) len, wide.again n lt, tested low high n h) refl

pub number_field : (w : Width) (limit : ℕ) → IsWide w limit → (low high : ℕ) → high < limit → IsField (number w low high) (IsWithin low high)
number_field w limit wide low high small = record { takes = number_takes w limit wide low high; again = number_again w limit wide low high small }

-- ---- texts

text_takes : (low high : ℕ) (bytes t rest : List ℕ) → IsBytes bytes → text_at low high bytes ≡ Some (t, rest) → Takes bytes (with_length t) rest × IsWithin low high (length t)
text_takes low high [] t rest fits e = absurd cc
text_takes low high (n ∷ bytes) t rest fits e =
    let k = kept_some (between low high n && nat_le n (length bytes)) (take n bytes, drop n bytes) (t, rest) e in
    let t-is : take n bytes ≡ t = ap (λ (p : List ℕ × List ℕ). p.0) k.1 in
    let rest-is : drop n bytes ≡ rest = ap (λ (p : List ℕ × List ℕ). p.1) k.1 in
    let enough : nat_le n (length bytes) ≡ true = second_so (between low high n) (nat_le n (length bytes)) k.0 in
    let long : n ≤ length bytes = grind (arith, nat_tests) in
    let len : length (take n bytes) ≡ n = omega (arith, length-take n bytes) in
    rw (← t-is, ← rest-is) (record { parts = ap (λ (l : List ℕ). n ∷ l) (sym (take-append-drop n bytes)) ∙ ap (λ m. m ∷ (take n bytes ++ drop n bytes)) (sym len); rest_fits = IsBytes-drop n bytes (IsBytes-tail n bytes fits) }, rw len (within low high n (first_so (between low high n) (nat_le n (length bytes)) k.0)))

text_again : (low high : ℕ) (t rest : List ℕ) → IsWithin low high (length t) → text_at low high (with_length t ++ rest) ≡ Some (t, rest)
text_again low high t rest h =
    let enough : nat_le (length t) (length (t ++ rest)) ≡ true = grind (arith, nat_tests, length-append t rest) in
    rw (tested low high (length t) h, enough, take_at t rest (length t) refl, drop_at t rest (length t) refl) refl

pub text_field : (low high : ℕ) → IsField (text low high) (λ t. IsWithin low high (length t))
text_field low high = record { takes = text_takes low high; again = text_again low high }

-- ---- a test, another form, one field after another

pub where_field : {X : Type 0} (p : X → Bool) (f : Field X) (Fits : X → Type 0) → IsField f Fits → IsField (where_so p f) (λ x. Fits x × (p x ≡ true))
where_field {X} p f Fits field = record {
  takes = λ bytes x rest fits e.
      let b = bind_some (f.read bytes) (if_passes p) (x, rest) e in
      let k = kept_some (p b.0.0) b.0 (x, rest) b.2 in
      let same : f.read bytes ≡ Some (x, rest) = b.1 ∙ ap (λ (q : X × List ℕ). Some q) k.1 in
      let t = field.takes bytes x rest fits same in
      (t.0, (t.1, ap (λ (q : X × List ℕ). p q.0) (sym k.1) ∙ k.0));
  again = λ x rest h. rw (field.again x rest h.0, h.1) refl;
}

-- the same values, under another name for what fits
pub as_field : {X : Type 0} (f : Field X) (Fits Others : X → Type 0) → ((x : X) → Fits x → Others x) → ((x : X) → Others x → Fits x) → IsField f Fits → IsField f Others
as_field {X} f Fits Others to from field = record {
  takes = λ bytes x rest fits e. let t = field.takes bytes x rest fits e in (t.0, to x t.1);
  again = λ x rest h. field.again x rest (from x h);
}

glue : {X Y : Type 0} (f : Field X) (g : Field Y) (F : X → Type 0) (G : Y → Type 0) (bytes : List ℕ) (a : X) (mid : List ℕ) (b : Y) (end : List ℕ) (q : (X × Y) × List ℕ) → Takes bytes (f.spell a) mid × F a → Takes mid (g.spell b) end × G b → Some ((a, b), end) ≡ Some q → Takes bytes ((pair f g).spell q.0) q.1 × (F q.0.0 × G q.0.1)
glue {X} {Y} f g F G bytes a mid b end q t u e =
    let P : (X × Y) × List ℕ → Type 0 = λ r. Takes bytes ((pair f g).spell r.0) r.1 × (F r.0.0 × G r.0.1) in
    subst P (some_is ((a, b), end) q e) (Takes-then bytes (f.spell a) mid (g.spell b) end t.0 u.0, (t.1, u.1))

pub pair_field : {X Y : Type 0} (f : Field X) (g : Field Y) (F : X → Type 0) (G : Y → Type 0) → IsField f F → IsField g G → IsField (pair f g) (λ x. F x.0 × G x.1)
pair_field {X} {Y} f g F G first second = record {
  takes = λ bytes x rest fits e.
      let a = bind_some (f.read bytes) (λ a. g.read a.1 >>= λ b. Some ((a.0, b.0), b.1)) (x, rest) e in
      let b = bind_some (g.read a.0.1) (λ b. Some ((a.0.0, b.0), b.1)) (x, rest) a.2 in
      let t = first.takes bytes a.0.0 a.0.1 fits a.1 in
      let u = second.takes a.0.1 b.0.0 b.0.1 t.0.rest_fits b.1 in
      glue f g F G bytes a.0.0 a.0.1 b.0.0 b.0.1 (x, rest) t u b.2;
  again = λ x rest h. rw (append_assoc (f.spell x.0) (g.spell x.1) rest, first.again x.0 (g.spell x.1 ++ rest) h.0, second.again x.1 rest h.1) refl;
}

recast : {X Y : Type 0} (to : X → Y) (from : Y → X) (f : Field X) (F : X → Type 0) (bytes : List ℕ) (x : X) (end : List ℕ) (q : Y × List ℕ) → ((x : X) → from (to x) ≡ x) → Takes bytes (f.spell x) end × F x → Some (to x, end) ≡ Some q → Takes bytes (f.spell (from q.0)) q.1 × F (from q.0)
recast {X} {Y} to from f F bytes x end q back t e =
    let P : Y × List ℕ → Type 0 = λ r. Takes bytes (f.spell (from r.0)) r.1 × F (from r.0) in
    let Q : X → Type 0 = λ z. Takes bytes (f.spell z) end × F z in
    subst P (some_is (to x, end) q e) (subst Q (sym (back x)) t)

pub made_field : {X Y : Type 0} (to : X → Y) (from : Y → X) (f : Field X) (F : X → Type 0) → ((x : X) → from (to x) ≡ x) → ((y : Y) → to (from y) ≡ y) → IsField f F → IsField (made to from f) (λ y. F (from y))
made_field {X} {Y} to from f F back forth field = record {
  takes = λ bytes y rest fits e.
      let b = bind_some (f.read bytes) (λ x. Some (to x.0, x.1)) (y, rest) e in
      let t = field.takes bytes b.0.0 b.0.1 fits b.1 in
      recast to from f F bytes b.0.0 b.0.1 (y, rest) back t b.2;
  again = λ y rest h. let P : Y → Option (Y × List ℕ) = λ z. Some (z, rest) in rw (field.again (from y) rest h) (ap P (forth y));
}

-- ---- so many of a field

many_glued : {X : Type 0} (f : Field X) (F : X → Type 0) (n : ℕ) (bytes : List ℕ) (a : X) (mid : List ℕ) (bs : List X) (end : List ℕ) (q : List X × List ℕ) → Takes bytes (f.spell a) mid × F a
    → Takes mid (flat_map f.spell bs) end × All F bs × (length bs ≡ n) → Some (a ∷ bs, end) ≡ Some q → Takes bytes (flat_map f.spell q.0) q.1 × All F q.0 × (length q.0 ≡ suc n)
many_glued {X} f F n bytes a mid bs end q t u e =
    let P : List X × List ℕ → Type 0 = λ r. Takes bytes (flat_map f.spell r.0) r.1 × All F r.0 × (length r.0 ≡ suc n) in
    subst P (some_is (a ∷ bs, end) q e) (Takes-then bytes (f.spell a) mid (flat_map f.spell bs) end t.0 u.0, All-cons F a bs t.1 u.1, ap suc u.2)

times_takes : {X : Type 0} (f : Field X) (F : X → Type 0) → IsField f F → (n : ℕ) (bytes : List ℕ) (xs : List X) (rest : List ℕ) → IsBytes bytes → times_at f n bytes ≡ Some (xs, rest)
    → Takes bytes (flat_map f.spell xs) rest × All F xs × (length xs ≡ n)
times_takes {X} f F field zero bytes xs rest fits e =
    let P : List X × List ℕ → Type 0 = λ r. Takes bytes (flat_map f.spell r.0) r.1 × All F r.0 × (length r.0 ≡ 0) in
    subst P (some_is ([], bytes) (xs, rest) e) (record { parts = refl; rest_fits = fits }, All-nil F, refl)
times_takes {X} f F field (suc n) bytes xs rest fits e =
    let a = bind_some (f.read bytes) (λ a. times_at f n a.1 >>= λ b. Some (a.0 ∷ b.0, b.1)) (xs, rest) e in
    let b = bind_some (times_at f n a.0.1) (λ b. Some (a.0.0 ∷ b.0, b.1)) (xs, rest) a.2 in
    let t = field.takes bytes a.0.0 a.0.1 fits a.1 in
    let u = times_takes f F field n a.0.1 b.0.0 b.0.1 t.0.rest_fits b.1 in
    many_glued f F n bytes a.0.0 a.0.1 b.0.0 b.0.1 (xs, rest) t u b.2

times_again : {X : Type 0} (f : Field X) (F : X → Type 0) → IsField f F → (xs : List X) (rest : List ℕ) → All F xs → times_at f (length xs) (flat_map f.spell xs ++ rest) ≡ Some (xs, rest)
times_again {X} f F field [] rest h = refl
times_again {X} f F field (x ∷ xs) rest h =
    rw (append_assoc (f.spell x) (flat_map f.spell xs) rest, field.again x (flat_map f.spell xs ++ rest) (All-head F x xs h), times_again f F field xs rest (All-tail F x xs h)) refl

abbrev pub AreCounted : {X : Type 0} → ℕ → (X → Type 0) → List X → Type 0
AreCounted high F xs = IsWithin 0 high (length xs) × All F xs

counted_takes : {X : Type 0} (high : ℕ) (f : Field X) (F : X → Type 0) → IsField f F → (bytes : List ℕ) (xs : List X) (rest : List ℕ) → IsBytes bytes → counted_at high f bytes ≡ Some (xs, rest)
    → Takes bytes (length xs ∷ flat_map f.spell xs) rest × AreCounted high F xs
counted_takes {X} high f F field [] xs rest fits e = absurd cc
counted_takes {X} high f F field (n ∷ bytes) xs rest fits e =
    let k = kept_here (nat_le n high) (times_at f n bytes) (xs, rest) e in
    let t = times_takes f F field n bytes xs rest (IsBytes-tail n bytes fits) k.1 in
    let few : nat_le n high ≡ true = k.0 in
    let le : n ≤ high = grind (arith, nat_tests) in
    (record { parts = ap (λ (l : List ℕ). n ∷ l) t.0.parts ∙ ap (λ m. m ∷ (flat_map f.spell xs ++ rest)) (sym t.2); rest_fits = t.0.rest_fits }, (record { from = omega arith; to = omega (arith, le, t.2) }, t.1))

counted_again : {X : Type 0} (high : ℕ) (f : Field X) (F : X → Type 0) → IsField f F → (xs : List X) (rest : List ℕ) → AreCounted high F xs → counted_at high f ((length xs ∷ flat_map f.spell xs) ++ rest) ≡ Some (xs, rest)
counted_again {X} high f F field xs rest h =
    let le : length xs ≤ high = h.0.to in
    let few : nat_le (length xs) high ≡ true = grind (arith, nat_tests) in
    rw few (times_again f F field xs rest h.1)

pub counted_field : {X : Type 0} (high : ℕ) (f : Field X) (F : X → Type 0) → IsField f F → IsField (counted high f) (AreCounted high F)
counted_field {X} high f F field = record { takes = counted_takes high f F field; again = counted_again high f F field }

-- ---- all of the bytes

pub whole_takes : {X : Type 0} (f : Field X) (F : X → Type 0) → IsField f F → (bytes : List ℕ) (x : X) → IsBytes bytes → whole f bytes ≡ Some x → (bytes ≡ f.spell x) × F x
whole_takes {X} f F field bytes x fits e =
    let b = bind_some (f.read bytes) (λ y. (if length y.1 == 0 then Some y.0 else None)) x e in
    let k = kept_some (length b.0.1 == 0) b.0.0 x b.2 in
    let t = field.takes bytes b.0.0 b.0.1 fits b.1 in
    let none : b.0.1 ≡ [] = nil_from_length b.0.1 ((Decides-eqb (length b.0.1) 0).0 k.0) in
    let P : X → Type 0 = λ y. (bytes ≡ f.spell y) × F y in
    subst P k.1 (t.0.parts ∙ ap (λ (l : List ℕ). f.spell b.0.0 ++ l) none ∙ append-nil (f.spell b.0.0), t.1)

pub whole_again : {X : Type 0} (f : Field X) (F : X → Type 0) → IsField f F → (x : X) → F x → whole f (f.spell x) ≡ Some x
whole_again f F field x h =
    let read : f.read (f.spell x) ≡ Some (x, []) = ap f.read (sym (append-nil (f.spell x))) ∙ field.again x [] h in
    rw read refl
