-- Members of lists, what is found in them, and sums.
use Rattle.mq_world.proofs.Words.{AllByRecursion, Bool, In, List, Some, [], ap, arith, clash, inl, inr, is_some, list_any, none_some, option_cases, slice_get, some_is, suc, sum_by, sum_by-cons, sum_by-le-sum_by, true, zero, ℕ, ◌++◌, ◌+◌, ◌∙◌, ◌∷◌, ◌≡◌, ◌≤◌, ◌⊎◌}
use Rattle.std.specs.Prelude.{find}
use Rattle.mq_ledger.proofs.Basics.{found, any_found as any_is}

-- ---- members

pub in_front : {X : Type 0} (xs ys : List X) (x : X) → In x xs → In x (xs ++ ys)
in_front [] ys x i = absurd i
in_front (y ∷ xs) ys x (inl e) = inl e
in_front (y ∷ xs) ys x (inr i) = inr (in_front xs ys x i)

pub in_back : {X : Type 0} (xs ys : List X) (x : X) → In x ys → In x (xs ++ ys)
in_back [] ys x i = i
in_back (y ∷ xs) ys x i = inr (in_back xs ys x i)

pub in_either : {X : Type 0} (xs ys : List X) (x : X) → In x (xs ++ ys) → In x xs ⊎ In x ys
in_either [] ys x i = inr i
in_either (y ∷ xs) ys x (inl e) = inl (inl e)
in_either (y ∷ xs) ys x (inr i) = elim (in_either xs ys x i) [ inl j ↦ inl (inr j) | inr k ↦ inr k ]

pub in_get : {X : Type 0} (xs : List X) (n : ℕ) (x : X) → slice_get xs n ≡ Some x → In x xs
in_get [] n x h = absurd (none_some x h)
in_get (y ∷ xs) zero x h = inl (some_is y x h)
in_get (y ∷ xs) (suc n) x h = inr (in_get xs n x h)

pub all_put : {X : Type 0} (P : X → Type 0) (xs ys : List X) (x y : X) → AllByRecursion P (xs ++ x ∷ ys) → P y → AllByRecursion P (xs ++ y ∷ ys)
all_put P [] ys x y all h = (h, all.1)
all_put P (z ∷ xs) ys x y all h = (all.0, all_put P xs ys x y all.1 h)

-- ---- finding

pub any_found : {X : Type 0} (p : X → Bool) (xs : List X) → list_any p xs ≡ true → (x : X) × (In x xs × (p x ≡ true))
any_found p xs h = elim (option_cases (find p xs)) [
  | inr f ↦ (f.0, found p xs f.0 f.1)
  | inl none ↦ absurd (clash (list_any p xs) h (any_is p xs ∙ ap is_some none))
]

-- ---- sums

-- where one element's part grows by one and none falls, the sum grows by one
pub sum_grows : {X : Type 0} (f g : X → ℕ) → ((x : X) → f x ≤ g x) → (x : X) (xs : List X) → In x xs → f x + 1 ≤ g x → sum_by f xs + 1 ≤ sum_by g xs
sum_grows f g h x [] i more = absurd i
sum_grows f g h x (y ∷ xs) (inl e) more =
    let a : f y ≡ f x = ap f e in
    let b : g y ≡ g x = ap g e in
    omega (arith, a, b, more, sum_by-cons f y xs, sum_by-cons g y xs, sum_by-le-sum_by f g xs h)
sum_grows f g h x (y ∷ xs) (inr i) more = omega (arith, h y, sum_by-cons f y xs, sum_by-cons g y xs, sum_grows f g h x xs i more)

-- one element's part of a sum
pub sum_has : {X : Type 0} (f : X → ℕ) (x : X) (xs : List X) → In x xs → f x ≤ sum_by f xs
sum_has f x [] i = absurd i
sum_has f x (y ∷ xs) (inl e) = let s : f y ≡ f x = ap f e in omega (arith, s, sum_by-cons f y xs)
sum_has f x (y ∷ xs) (inr i) = omega (arith, sum_has f x xs i, sum_by-cons f y xs)
