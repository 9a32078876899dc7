-- First arrivals are those before which no arrival has their number, where it isn't below the floor.
use Rattle.mq_ledger.proofs.Words.{Bool, Id, List, None, Option, Request, Some, [], ap, append-nil, by_pushes, either, false, find, find-append, first, has_id, id_of, if◌then◌else◌, inl, inr, is_below, is_some, kept_with, list_any, list_any-append, option_or, refl, sym, true, ◌++◌, ◌||◌, ◌∙◌, ◌∷◌}
use Rattle.mq_ledger.proofs.Words.{◌≡◌}
use Rattle.std.proofs.Math.Bool.{or-false}
use Rattle.mq_lemmas.proofs.Booleans.{true_false}
use Rattle.mq_request.specs.Same.{same_id}
use Rattle.mq_request.proofs.Alike.{id_is}
use Rattle.mq_ledger.specs.Arrivals.{is_id, is_first, is_first_by}
use Rattle.mq_ledger.proofs.Basics.{any_found}
use Rattle.mq_ledger.proofs.Numbers.{first_push, not_below_before}

-- where a number isn't below the floor, it is among those kept and one more arrival
any_step : (id : Id) (kept : List Request) (r : Request) (o : Option Id) → id_of r ≡ o → is_below kept id ≡ false → list_any (has_id id) (kept_with kept r o) ≡ (list_any (has_id id) kept || is_id id o)
any_step id kept r None e above = sym (or-false (list_any (has_id id) kept))
any_step id kept r (Some other) e above = elim (either (is_below kept other || list_any (has_id other) kept)) [
  | inl t ↦ rw t (there t (same_id id other) refl)
  | inr f ↦ rw f (list_any-append (has_id id) kept (r ∷ []) ∙ ap (λ b. list_any (has_id id) kept || b) (or-false (has_id id r) ∙ ap (is_id id) e))
] where
  there : (is_below kept other || list_any (has_id other) kept) ≡ true → (b : Bool) → same_id id other ≡ b → list_any (has_id id) kept ≡ (list_any (has_id id) kept || b)
  there t false s = sym (or-false (list_any (has_id id) kept))
  there t true s =
      let mine : (is_below kept id || list_any (has_id id) kept) ≡ true = ap (λ i. is_below kept i || list_any (has_id i) kept) (id_is id other s) ∙ t in
      let known : list_any (has_id id) kept ≡ true = rw above at mine in rw known refl

-- the numbers of first arrivals are those of all arrivals, but for those below the floor
any_first : (id : Id) (A : List Request) → is_below (first A) id ≡ false → list_any (has_id id) (first A) ≡ list_any (has_id id) A
any_first id A = by_pushes (λ A. is_below (first A) id ≡ false → list_any (has_id id) (first A) ≡ list_any (has_id id) A) (λ _. refl) (λ A r h above.
    (let before = not_below_before A (r ∷ []) id above in
    ap (list_any (has_id id)) (first_push A r) ∙ any_step id (first A) r (id_of r) refl before ∙ ap (λ b. b || has_id id r) (h before)
    ∙ ap (λ b. list_any (has_id id) A || b) (sym (or-false (has_id id r))) ∙ sym (list_any-append (has_id id) A (r ∷ [])))) A

by_number : (A : List Request) (r : Request) (o : Option Id) → kept_with (first A) r o ≡ first A ++ (if is_first_by A o then r ∷ [] else [])
by_number A r None = sym (append-nil (first A))
by_number A r (Some id) = elim (either (is_below (first A) id)) [
  | inl t ↦ rw t (sym (append-nil (first A)))
  | inr above ↦ (let same = any_first id A above in
      elim (either (list_any (has_id id) A)) [
        | inl t ↦ (let s : list_any (has_id id) (first A) ≡ true = same ∙ t in rw (above, s, t) (sym (append-nil (first A))))
        | inr f ↦ (let s : list_any (has_id id) (first A) ≡ false = same ∙ f in rw (above, s, f) refl)
      ])
]

pub first_one_more : (A : List Request) (r : Request) → first (A ++ r ∷ []) ≡ first A ++ (if is_first A r then r ∷ [] else [])
first_one_more A r = first_push A r ∙ by_number A r (id_of r)

or_none : (o : Option Request) → o ≡ option_or o None
or_none None = refl
or_none (Some r) = refl

found_step : (id : Id) (kept : List Request) (r : Request) (o : Option Id) → id_of r ≡ o → is_below kept id ≡ false
    → find (has_id id) (kept_with kept r o) ≡ option_or (find (has_id id) kept) (find (has_id id) (r ∷ []))
found_step id kept r None e above =
    let other : has_id id r ≡ false = ap (is_id id) e in
    rw other (or_none (find (has_id id) kept))
found_step id kept r (Some number) e above = elim (either (is_below kept number || list_any (has_id number) kept)) [
  | inl t ↦ rw t (there t (has_id id r) refl (find (has_id id) kept) refl)
  | inr f ↦ rw f (find-append (has_id id) kept (r ∷ []))
] where
  there : (is_below kept number || list_any (has_id number) kept) ≡ true → (b : Bool) → has_id id r ≡ b → (o : Option Request) → find (has_id id) kept ≡ o
      → find (has_id id) kept ≡ option_or (find (has_id id) kept) (find (has_id id) (r ∷ []))
  there t b s (Some x) h = rw h refl
  there t false s None h = rw (h, s) refl
  there t true s None h =
      let same : id ≡ number = id_is id number (sym (ap (is_id id) e) ∙ s) in
      let mine : (is_below kept id || list_any (has_id id) kept) ≡ true = ap (λ i. is_below kept i || list_any (has_id i) kept) same ∙ t in
      let known : list_any (has_id id) kept ≡ true = rw above at mine in
      let missed : list_any (has_id id) kept ≡ false = any_found (has_id id) kept ∙ ap is_some h in
      absurd (true_false (sym known ∙ missed))

pub first_found : (id : Id) (A : List Request) → is_below (first A) id ≡ false → find (has_id id) (first A) ≡ find (has_id id) A
first_found id A = by_pushes (λ A. is_below (first A) id ≡ false → find (has_id id) (first A) ≡ find (has_id id) A) (λ _. refl) (λ A r h above.
    (let before = not_below_before A (r ∷ []) id above in
    ap (find (has_id id)) (first_push A r) ∙ found_step id (first A) r (id_of r) refl before
    ∙ ap (λ o. option_or o (find (has_id id) (r ∷ []))) (h before) ∙ sym (find-append (has_id id) A (r ∷ [])))) A
