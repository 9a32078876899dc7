-- Members of lists, and sums.
use Rattle.mq_ledger.proofs.Words.{AllByRecursion, Bool, In, List, None, Option, Some, [], ap, arith, clash, either, false, filter, find, if◌then◌else◌, inl, inr, is_some, list_any, none_some, not_some, option_cases, refl, sum_by, sum_by-cons, sym, true, zero_or_more, ℕ, ◌++◌, ◌+◌, ◌<◌, ◌∙◌, ◌∷◌}
use Rattle.mq_ledger.proofs.Words.{◌≡◌, ◌≤◌, ◌⊎◌}
use Rattle.std.specs.List.{filter_map}

-- Members of a list.

-- what a filter leaves was there and passes
pub filter_in : {X : Type 0} (p : X → Bool) (xs : List X) (x : X) → In x (filter p xs) → In x xs × (p x ≡ true)
filter_in p [] x i = absurd i
filter_in p (y ∷ xs) x i = elim (either (p y)) [
  | inl t ↦ (let j : (y ≡ x) ⊎ In x (filter p xs) = rw t at i in elim j [
    | inl e ↦ (inl e, ap p (sym e) ∙ t)
    | inr k ↦ (let r = filter_in p xs x k in (inr r.0, r.1))
  ])
  | inr f ↦ (let j : In x (filter p xs) = rw f at i in let r = filter_in p xs x j in (inr r.0, r.1))
]

-- what is found is there and passes
pub found : {X : Type 0} (p : X → Bool) (xs : List X) (x : X) → find p xs ≡ Some x → In x xs × (p x ≡ true)
found p [] x h = absurd (none_some x h)
found p (y ∷ xs) x h = elim (either (p y)) [
  | inl t ↦ (let b : Some y ≡ Some x = rw t at h in let e : y ≡ x = cc b in (inl e, ap p (sym e) ∙ t))
  | inr f ↦ (let rest : find p xs ≡ Some x = rw f at h in let r = found p xs x rest in (inr r.0, r.1))
]

pub not_found : {X : Type 0} (p : X → Bool) (xs : List X) (x : X) → find p xs ≡ None → In x xs → p x ≡ false
not_found p [] x h i = absurd i
not_found p (y ∷ xs) x h i = elim (either (p y)) [
  | inl t ↦ absurd (let b : Some y ≡ None = rw t at h in none_some y (sym b))
  | inr f ↦ elim i [ inl e ↦ ap p (sym e) ∙ f | inr j ↦ not_found p xs x (rw f at h) j ]
]

pub found_in : {X : Type 0} (p : X → Bool) (xs : List X) (x : X) → In x xs → p x ≡ true → (y : X) × (find p xs ≡ Some y)
found_in p xs x i h = elim (option_cases (find p xs)) [ inr y ↦ y | inl none ↦ absurd (clash (p x) h (not_found p xs x none i)) ]

-- one passes where one is found
pub any_found : {X : Type 0} (p : X → Bool) (xs : List X) → list_any p xs ≡ is_some (find p xs)
any_found p [] = refl
any_found p (x ∷ xs) = elim (either (p x)) [ inl t ↦ rw t refl | inr f ↦ rw f (any_found p xs) ]

pub any_in : {X : Type 0} (p : X → Bool) (xs : List X) (x : X) → In x xs → p x ≡ true → list_any p xs ≡ true
any_in p xs x i h = any_found p xs ∙ ap is_some (found_in p xs x i h).1

pub none_passes : {X : Type 0} (p : X → Bool) (xs : List X) (x : X) → list_any p xs ≡ false → In x xs → p x ≡ false
none_passes p xs x h i = not_found p xs x (not_some (find p xs) (sym (any_found p xs) ∙ h)) i

pub any_nothing : {X : Type 0} (p : X → Bool) (xs : List X) → ((x : X) → In x xs → p x ≡ false) → list_any p xs ≡ false
any_nothing p [] h = refl
any_nothing p (x ∷ xs) h = (let f : p x ≡ false = h x (inl refl) in rw f (any_nothing p xs (λ y i. h y (inr i))))

pub record MadeOf {X Y : Type 0} (f : X → Option Y) (xs : List X) (y : Y) : Type 0 where
  pub source : X
  pub among : In source xs
  pub gives : f source ≡ Some y

pub in_filter_map : {X Y : Type 0} (f : X → Option Y) (xs : List X) (x : X) (y : Y) → In x xs → f x ≡ Some y → In y (filter_map f xs)
in_filter_map f [] x y i h = i
in_filter_map f (z ∷ xs) x y (inl e) h = (let t : f z ≡ Some y = ap f e ∙ h in rw t (inl refl))
in_filter_map f (z ∷ xs) x y (inr i) h = elim (option_cases (f z)) [
  | inl n ↦ rw n (in_filter_map f xs x y i h)
  | inr s ↦ rw s.1 (inr (in_filter_map f xs x y i h))
]

pub filter_map_in : {X Y : Type 0} (f : X → Option Y) (xs : List X) (y : Y) → In y (filter_map f xs) → MadeOf f xs y
filter_map_in f [] y i = absurd i
filter_map_in f (z ∷ xs) y i = elim (option_cases (f z)) [
  | inl n ↦ (let r = filter_map_in f xs y (rw n at i) in record { source = r.source; among = inr r.among; gives = r.gives })
  | inr s ↦ (let j : (s.0 ≡ y) ⊎ In y (filter_map f xs) = rw s.1 at i in elim j [
    | inl e ↦ record { source = z; among = inl refl; gives = s.1 ∙ ap Some e }
    | inr k ↦ (let r = filter_map_in f xs y k in record { source = r.source; among = inr r.among; gives = r.gives })
  ])
]

-- Sums.

pub two_sums_le : {X : Type 0} (f g k : X → ℕ) (xs : List X) → ((x : X) → In x xs → f x + g x ≤ k x) → sum_by f xs + sum_by g xs ≤ sum_by k xs
two_sums_le f g k [] h = omega arith
two_sums_le f g k (x ∷ xs) h = omega (arith, sum_by-cons f x xs, sum_by-cons g x xs, sum_by-cons k x xs, h x (inl refl), two_sums_le f g k xs (λ y i. h y (inr i)))

pub two_sums_are : {X : Type 0} (f g k : X → ℕ) (xs : List X) → ((x : X) → In x xs → f x + g x ≡ k x) → sum_by f xs + sum_by g xs ≡ sum_by k xs
two_sums_are f g k [] h = refl
two_sums_are f g k (x ∷ xs) h = omega (arith, sum_by-cons f x xs, sum_by-cons g x xs, sum_by-cons k x xs, h x (inl refl), two_sums_are f g k xs (λ y i. h y (inr i)))

pub sum_same : {X : Type 0} (f g : X → ℕ) (xs : List X) → ((x : X) → In x xs → f x ≡ g x) → sum_by f xs ≡ sum_by g xs
sum_same f g [] h = refl
sum_same f g (x ∷ xs) h = omega (arith, sum_by-cons f x xs, sum_by-cons g x xs, h x (inl refl), sum_same f g xs (λ y i. h y (inr i)))

pub sum_nothing : {X : Type 0} (f : X → ℕ) (xs : List X) → ((x : X) → In x xs → f x ≡ 0) → sum_by f xs ≡ 0
sum_nothing f [] h = refl
sum_nothing f (x ∷ xs) h = omega (arith, sum_by-cons f x xs, h x (inl refl), sum_nothing f xs (λ y i. h y (inr i)))

-- a sum that isn't nothing has a part that isn't
pub record Part {X : Type 0} (f : X → ℕ) (xs : List X) : Type 0 where
  pub at : X
  pub among : In at xs
  pub some : 0 < f at

pub some_part : {X : Type 0} (f : X → ℕ) (xs : List X) → 0 < sum_by f xs → Part f xs
some_part f [] h = absurd (omega arith)
some_part f (x ∷ xs) h = elim (zero_or_more (f x)) [
  | inr some ↦ record { at = x; among = inl refl; some = some }
  | inl none ↦ (let r = some_part f xs (omega (arith, none, sum_by-cons f x xs)) in record { at = r.at; among = inr r.among; some = r.some })
]

-- a sum under one condition
pub sum_if : {X : Type 0} (c : Bool) (f : X → ℕ) (xs : List X) → sum_by (λ x. if c then f x else 0) xs ≡ (if c then sum_by f xs else 0)
sum_if true f xs = refl
sum_if false f xs = sum_nothing (λ _. 0) xs (λ x i. refl)

-- sums over two lists, the one in the other
pub sums_swap : {X Y : Type 0} (f : X → Y → ℕ) (xs : List X) (ys : List Y) → sum_by (λ x. sum_by (f x) ys) xs ≡ sum_by (λ y. sum_by (λ x. f x y) xs) ys
sums_swap f [] ys = sym (sum_nothing (λ _. 0) ys (λ y i. refl))
sums_swap f (x ∷ xs) ys =
    let both = two_sums_are (f x) (λ y. sum_by (λ x. f x y) xs) (λ y. sum_by (λ x. f x y) (x ∷ xs)) ys (λ y _. sym (sum_by-cons (λ x. f x y) x xs)) in
    omega (arith, sum_by-cons (λ x. sum_by (f x) ys) x xs, sums_swap f xs ys, both)
