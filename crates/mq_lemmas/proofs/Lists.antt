-- What is in a list, and what holds of each element.
use Rattle.std.proofs.Common.{◌≡◌, ℕ, zero, suc, ◌≤◌, Bool, true, List, [], ◌∷◌, ◌++◌, length, refl, sym, ap, subst, ◌∙◌, inl, inr, arith, append_assoc, append-nil}
use Rattle.std.specs.Prelude.{◌⊎◌, Contains, drop, filter, find, Some}
use Rattle.std.specs.List.{AllByRecursion}
use Rattle.mq_lemmas.proofs.Booleans.{either}

abbrev pub In : {X : Type 0} → X → List X → Type 0
In x [] = ⊥
In x (y ∷ ys) = (y ≡ x) ⊎ In x ys

pub in_filter : {X : Type 0} (p : X → Bool) (xs : List X) (x : X) → In x xs → p x ≡ true → In x (filter p xs)
in_filter p [] x i h = i
in_filter p (y ∷ xs) x (inl e) h = (let t : p y ≡ true = ap p e ∙ h in rw t (inl e))
in_filter p (y ∷ xs) x (inr i) h = elim (either (p y)) [ inl t ↦ rw t (inr (in_filter p xs x i h)) | inr f ↦ rw f (in_filter p xs x i h) ]

pub found_passes : {X : Type 0} (p : X → Bool) (xs : List X) (x : X) → find p xs ≡ Some x → p x ≡ true
found_passes p [] x h = absurd (cc h)
found_passes p (y ∷ xs) x h = elim (either (p y)) [
  | inl t ↦ (let h' : Some y ≡ Some x = rw t at h in let e : y ≡ x = cc h' in ap p (sym e) ∙ t)
  | inr f ↦ found_passes p xs x (rw f at h)
]

pub all_of : {X : Type 0} (P : X → Type 0) (xs : List X) → ((x : X) → In x xs → P x) → AllByRecursion P xs
all_of P [] h = tt
all_of P (x ∷ xs) h = (h x (inl refl), all_of P xs (λ y i. h y (inr i)))

pub all_at : {X : Type 0} (P : X → Type 0) (xs : List X) (x : X) → AllByRecursion P xs → In x xs → P x
all_at P [] x all i = absurd i
all_at P (y ∷ xs) x all (inl e) = subst P e all.0
all_at P (y ∷ xs) x all (inr i) = all_at P xs x all.1 i

pub all_push : {X : Type 0} (P : X → Type 0) (xs : List X) (x : X) → AllByRecursion P xs → P x → AllByRecursion P (xs ++ x ∷ [])
all_push P [] x all h = (h, tt)
all_push P (y ∷ xs) x all h = (all.0, all_push P xs x all.1 h)

pub all_append : {X : Type 0} (P : X → Type 0) (xs ys : List X) → AllByRecursion P xs → AllByRecursion P ys → AllByRecursion P (xs ++ ys)
all_append P [] ys a b = b
all_append P (x ∷ xs) ys a b = (a.0, all_append P xs ys a.1 b)

pub all_drop : {X : Type 0} (P : X → Type 0) (n : ℕ) (xs : List X) → AllByRecursion P xs → AllByRecursion P (drop n xs)
all_drop P zero xs all = all
all_drop P (suc n) [] all = tt
all_drop P (suc n) (x ∷ xs) all = all_drop P n xs all.1

pub all_filter : {X : Type 0} (P : X → Type 0) (p : X → Bool) (xs : List X) → AllByRecursion P xs → AllByRecursion P (filter p xs)
all_filter P p [] all = tt
all_filter P p (x ∷ xs) all = elim (either (p x)) [ inl t ↦ rw t (all.0, all_filter P p xs all.1) | inr f ↦ rw f (all_filter P p xs all.1) ]

pub weaker : {X : Type 0} (P Q : X → Type 0) → ((x : X) → P x → Q x) → (xs : List X) → AllByRecursion P xs → AllByRecursion Q xs
weaker P Q h [] all = tt
weaker P Q h (x ∷ xs) all = (h x all.0, weaker P Q h xs all.1)

pub no_rest : {X : Type 0} (left rest : List X) → rest ≡ [] → left ++ rest ≡ left
no_rest left rest e = ap (λ xs. left ++ xs) e ∙ append-nil left

pub empty : {X : Type 0} (xs : List X) → length xs ≤ 0 → xs ≡ []
empty [] h = refl
empty (x ∷ xs) h = absurd (omega arith)

-- from the empty list on, by one element more at the end
pub by_pushes : {X : Type 0} (P : List X → Type 0) → P [] → ((xs : List X) (x : X) → P xs → P (xs ++ x ∷ [])) → (xs : List X) → P xs
by_pushes P none more xs = by_pushes_from P more [] xs none where
  by_pushes_from : {X : Type 0} (P : List X → Type 0) → ((xs : List X) (x : X) → P xs → P (xs ++ x ∷ [])) → (done xs : List X) → P done → P (done ++ xs)
  by_pushes_from P more done [] p = subst P (sym (append-nil done)) p
  by_pushes_from P more done (x ∷ xs) p = subst P (append_assoc done (x ∷ []) xs) (by_pushes_from P more (done ++ x ∷ []) xs (more done x p))

pub all_split : {X : Type 0} (P : X → Type 0) (xs ys : List X) → AllByRecursion P (xs ++ ys) → AllByRecursion P xs × AllByRecursion P ys
all_split P [] ys all = (tt, all)
all_split P (x ∷ xs) ys all = let (a, b) = all_split P xs ys all.1 in ((all.0, a), b)

pub all_but_last : {X : Type 0} (P : X → Type 0) (xs : List X) (x : X) → AllByRecursion P (xs ++ x ∷ []) → AllByRecursion P xs × P x
all_but_last P xs x all = let (a, b) = all_split P xs (x ∷ []) all in (a, b.0)

pub in_contains : {X : Type 0} (xs : List X) (x : X) → In x xs → Contains xs x
in_contains [] x i = absurd i
in_contains (y ∷ xs) x (inl e) = (0, omega arith, e)
in_contains (y ∷ xs) x (inr i) = (let r = in_contains xs x i in (suc r.0, omega (arith, r.1), r.2))
