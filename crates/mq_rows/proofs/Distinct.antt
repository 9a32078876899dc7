-- In a legal history no number comes twice, so it has one row at most.
use Rattle.std.proofs.Common.{◌≡◌, ℕ, ◌+◌, ◌≤◌, List, [], ◌∷◌, ◌++◌, true, false, refl, ◌∙◌, ap, sym, subst, inl, inr, arith, length, length-append, append_assoc, fold, find, ◌||◌, Option, Some, None}
use Rattle.std.proofs.lemmas.List.Folds.{list_any-append}
use Rattle.mq_rows.proofs.Words.{AllByRecursion, AnswerRecord, Entry, Id, IsId, Request, answer_row, either, has_id, id_is, id_of, is_below, is_id, kept_with, list_any, number_of, or_second, or_true, requests, same_id}
use Rattle.mq_ledger.proofs.Numbers.{step}
use Rattle.mq_rows.proofs.Numbered.{rows_from, number_test}

any_more : (id : Id) (xs : List Request) (r : Request) → list_any (has_id id) xs ≡ true → list_any (has_id id) (xs ++ r ∷ []) ≡ true
any_more id xs r h = list_any-append (has_id id) xs (r ∷ []) ∙ (rw h refl)

any_last : (id : Id) (xs : List Request) (r : Request) → has_id id r ≡ true → list_any (has_id id) (xs ++ r ∷ []) ≡ true
any_last id xs r h = list_any-append (has_id id) xs (r ∷ []) ∙ (rw h (or_true (list_any (has_id id) xs)))

one_longer : (kept : List Request) (r : Request) (o : Option Id) → length (kept_with kept r o) ≤ length kept + 1
one_longer kept r None = omega arith
one_longer kept r (Some id) = elim (either (is_below kept id || list_any (has_id id) kept)) [
  | inl t ↦ rw t (omega arith)
  | inr f ↦ rw f (omega (arith, length-append kept (r ∷ [])))
]

grows : (kept A : List Request) → length (fold step kept A) ≤ length kept + length A
grows kept [] = omega arith
grows kept (r ∷ A) = omega (arith, grows (step kept r) A, one_longer kept r (id_of r))

too_short : (kept A : List Request) (r : Request) → fold step kept A ≡ kept ++ r ∷ A → ⊥
too_short kept A r same = omega (arith, grows kept A, ap length same, length-append kept (r ∷ A))

-- where all are kept, each is put after those before
step_by : (kept : List Request) (r : Request) (A : List Request) (o : Option Id) → fold step (kept_with kept r o) A ≡ kept ++ r ∷ A → kept_with kept r o ≡ kept ++ r ∷ []
step_by kept r A None same = absurd (too_short kept A r same)
step_by kept r A (Some id) same = elim (either (is_below kept id || list_any (has_id id) kept)) [
  | inl t ↦ (let short : fold step kept A ≡ kept ++ r ∷ A = rw t at same in absurd (too_short kept A r short))
  | inr f ↦ rw f refl
]

rest_kept : (kept : List Request) (r : Request) (A : List Request) → fold step kept (r ∷ A) ≡ kept ++ r ∷ A → fold step (kept ++ r ∷ []) A ≡ (kept ++ r ∷ []) ++ A
rest_kept kept r A same =
    let put : kept_with kept r (id_of r) ≡ kept ++ r ∷ [] = step_by kept r A (id_of r) same in
    ap (λ (k : List Request). fold step k A) (sym put) ∙ same ∙ sym (append_assoc kept (r ∷ []) A)

twice : (id : Id) (kept : List Request) (r : Request) (o : Option Id) → list_any (has_id id) kept ≡ true → is_id id o ≡ true → kept_with kept r o ≡ kept ++ r ∷ [] → ⊥
twice id kept r None there same put = absurd (cc same)
twice id kept r (Some other) there same put =
    let k : id ≡ other = id_is id other same in
    let there' : list_any (has_id other) kept ≡ true = subst (λ (x : Id). list_any (has_id x) kept ≡ true) k there in
    let known : (is_below kept other || list_any (has_id other) kept) ≡ true = or_second (is_below kept other) (list_any (has_id other) kept) there' in
    let short : kept ≡ kept ++ r ∷ [] = rw known at put in
    omega (arith, ap length short, length-append kept (r ∷ []))

-- a number that was kept doesn't come again
never : (id : Id) (kept : List Request) (H : List Entry) → list_any (has_id id) kept ≡ true → fold step kept (requests H) ≡ kept ++ requests H → AllByRecursion (λ (e : Entry). has_id id e.request ≡ false) H
never id kept [] there same = tt
never id kept (x ∷ H) there same =
    let r : Request = x.request in
    let put : kept_with kept r (id_of r) ≡ kept ++ r ∷ [] = step_by kept r (requests H) (id_of r) same in
    let new : has_id id r ≡ false = elim (either (has_id id r)) [
      | inl t ↦ absurd (twice id kept r (id_of r) there t put)
      | inr f ↦ f
    ] in
    (new, never id (kept ++ r ∷ []) H (any_more id kept r there) (rest_kept kept r (requests H) same))

none_passes : (P : AnswerRecord → Type 0) (G : List Entry) (n : ℕ) (id : Id) (H : List Entry) → IsId id → AllByRecursion (λ (e : Entry). has_id id e.request ≡ false) H
    → AllByRecursion (λ (row : AnswerRecord). same_id id row.id ≡ true → P row) (rows_from G n H)
none_passes P G n id [] in_range all = tt
none_passes P G n id (x ∷ H) in_range all =
    let f : same_id id (number_of x.request) ≡ false = number_test id x.request in_range ∙ all.0 in
    ((λ t. absurd (cc (f, t))), none_passes P G (n + 1) id H in_range all.1)

pub one_row : (G : List Entry) (n : ℕ) (id : Id) (kept : List Request) (H : List Entry) → IsId id → fold step kept (requests H) ≡ kept ++ requests H
    → AllByRecursion (λ (row : AnswerRecord). same_id id row.id ≡ true → find (λ (x : AnswerRecord). same_id id x.id) (rows_from G n H) ≡ Some row) (rows_from G n H)
one_row G n id kept [] in_range same = tt
one_row G n id kept (x ∷ H) in_range same =
    let r : Request = x.request in
    let test : same_id id (number_of r) ≡ has_id id r = number_test id r in_range in
    let rest : fold step (kept ++ r ∷ []) (requests H) ≡ (kept ++ r ∷ []) ++ requests H = rest_kept kept r (requests H) same in
    let all : List AnswerRecord = answer_row G n x ∷ rows_from G (n + 1) H in
    elim (either (has_id id r)) [
      | inl t ↦ (let u : same_id id (number_of r) ≡ true = test ∙ t in
          let hit : find (λ (y : AnswerRecord). same_id id y.id) all ≡ Some (answer_row G n x) = rw u refl in
          ((λ _. hit), none_passes (λ row. find (λ (y : AnswerRecord). same_id id y.id) all ≡ Some row) G (n + 1) id H in_range (never id (kept ++ r ∷ []) H (any_last id kept r t) rest)))
      | inr f ↦ (let u : same_id id (number_of r) ≡ false = test ∙ f in
          let passed : find (λ (y : AnswerRecord). same_id id y.id) all ≡ find (λ (y : AnswerRecord). same_id id y.id) (rows_from G (n + 1) H) = rw u refl in (
            (λ t. absurd (cc (u, t))),
            subst (λ (o : Option AnswerRecord). AllByRecursion (λ (row : AnswerRecord). same_id id row.id ≡ true → o ≡ Some row) (rows_from G (n + 1) H)) (sym passed) (one_row G (n + 1) id (kept ++ r ∷ []) H in_range rest),
          ))
    ]
