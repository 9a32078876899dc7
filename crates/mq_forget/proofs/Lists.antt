-- What a filter leaves to a search, a test and a sum.
use Rattle.mq_forget.proofs.Words.{Bool, In, List, None, Some, [], ap, arith, either, false, filter, find, if◌then◌else◌, inl, inr, list_any, refl, sum_by, sym, true, ℕ, ◌∙◌, ◌∷◌, ◌≡◌}
use Rattle.std.specs.Prelude.{fold}
use Rattle.std.proofs.lemmas.List.Sums.{sum_by-cons}
pub use Rattle.mq_ledger.proofs.Basics.{filter_in}

-- Members.

pub filter_same : {X : Type 0} (p q : X → Bool) (xs : List X) → ((x : X) → In x xs → p x ≡ q x) → filter p xs ≡ filter q xs
filter_same p q [] h = refl
filter_same p q (x ∷ xs) h =
    let here : p x ≡ q x = h x (inl refl) in
    let rest : filter p xs ≡ filter q xs = filter_same p q xs (λ y i. h y (inr i)) in
    λ i. if here i then x ∷ rest i else rest i

-- What passes the one test passes the other.

pub find_kept : {X : Type 0} (p q : X → Bool) → ((x : X) → p x ≡ true → q x ≡ true) → (xs : List X) → find p (filter q xs) ≡ find p xs
find_kept p q h [] = refl
find_kept p q h (x ∷ xs) = elim (either (p x)) [
  | inl t ↦ (let k = h x t in rw (k, t) refl)
  | inr f ↦ elim (either (q x)) [ inl k ↦ rw (k, f) (find_kept p q h xs) | inr k ↦ rw (k, f) (find_kept p q h xs) ]
]

pub any_kept : {X : Type 0} (p q : X → Bool) (xs : List X) → ((x : X) → In x xs → p x ≡ true → q x ≡ true) → list_any p (filter q xs) ≡ list_any p xs
any_kept p q [] h = refl
any_kept p q (x ∷ xs) h =
    let rest : list_any p (filter q xs) ≡ list_any p xs = any_kept p q xs (λ y i. h y (inr i)) in
    elim (either (p x)) [
      | inl t ↦ (let k : q x ≡ true = h x (inl refl) t in rw (k, t) refl)
      | inr f ↦ elim (either (q x)) [ inl k ↦ rw (k, f) rest | inr k ↦ rw (k, f) rest ]
    ]

pub filter_kept : {X : Type 0} (p q : X → Bool) → ((x : X) → p x ≡ true → q x ≡ true) → (xs : List X) → filter p (filter q xs) ≡ filter p xs
filter_kept p q h [] = refl
filter_kept p q h (x ∷ xs) = elim (either (p x)) [
  | inl t ↦ (let k = h x t in rw (k, t) (ap (λ ys. x ∷ ys) (filter_kept p q h xs)))
  | inr f ↦ elim (either (q x)) [ inl k ↦ rw (k, f) (filter_kept p q h xs) | inr k ↦ rw (k, f) (filter_kept p q h xs) ]
]

-- what goes counts nothing
pub sum_kept : {X : Type 0} (f : X → ℕ) (q : X → Bool) (xs : List X) → ((x : X) → In x xs → q x ≡ false → f x ≡ 0) → sum_by f (filter q xs) ≡ sum_by f xs
sum_kept f q [] h = refl
sum_kept f q (x ∷ xs) h =
    let rest : sum_by f (filter q xs) ≡ sum_by f xs = sum_kept f q xs (λ y i. h y (inr i)) in
    elim (either (q x)) [
      | inl k ↦ rw k (omega (arith, sum_by-cons f x xs, sum_by-cons f x (filter q xs), rest))
      | inr k ↦ rw k (omega (arith, sum_by-cons f x xs, h x (inl refl) k, rest))
    ]

pub fold_kept : {X Y : Type 0} (f : Y → X → Y) (q : X → Bool) (y : Y) (xs : List X) → ((y : Y) (x : X) → q x ≡ false → f y x ≡ y) → fold f y (filter q xs) ≡ fold f y xs
fold_kept f q y [] h = refl
fold_kept f q y (x ∷ xs) h = elim (either (q x)) [
  | inl k ↦ rw k (fold_kept f q (f y x) xs h)
  | inr k ↦ (let gone : f y x ≡ y = h y x k in rw k (fold_kept f q y xs h ∙ ap (λ z. fold f z xs) (sym gone)))
]

-- What is not there, and what stays.

pub find_lost : {X : Type 0} (p q : X → Bool) → ((x : X) → p x ≡ true → q x ≡ false) → (xs : List X) → find p (filter q xs) ≡ None
find_lost p q h [] = refl
find_lost p q h (x ∷ xs) = elim (either (q x)) [
  | inr k ↦ rw k (find_lost p q h xs)
  | inl k ↦ elim (either (p x)) [
    | inl t ↦ absurd (let f = h x t in cc (f, k))
    | inr f ↦ rw (k, f) (find_lost p q h xs)
  ]
]

pub find_none : {X : Type 0} (p q : X → Bool) (xs : List X) → find p xs ≡ None → find p (filter q xs) ≡ None
find_none p q [] h = refl
find_none p q (x ∷ xs) h = elim (either (p x)) [
  | inl t ↦ absurd (let b : Some x ≡ None = rw t at h in cc b)
  | inr f ↦ (let rest : find p xs ≡ None = rw f at h in
      elim (either (q x)) [ inl k ↦ rw (k, f) (find_none p q xs rest) | inr k ↦ rw k (find_none p q xs rest) ])
]

pub find_some : {X : Type 0} (p q : X → Bool) (xs : List X) (y : X) → find p xs ≡ Some y → q y ≡ true → find p (filter q xs) ≡ Some y
find_some p q [] y h k = h
find_some p q (x ∷ xs) y h k = elim (either (p x)) [
  | inl t ↦ (let b : Some x ≡ Some y = rw t at h in
      let e : x ≡ y = cc b in
      let k' : q x ≡ true = ap q e ∙ k in
      rw (k', t) b)
  | inr f ↦ (let rest : find p xs ≡ Some y = rw f at h in
      elim (either (q x)) [ inl j ↦ rw (j, f) (find_some p q xs y rest k) | inr j ↦ rw j (find_some p q xs y rest k) ])
]
