-- One row more, kept by its pair.
use Rattle.std.proofs.Common.{◌≡◌, ℕ, List, [], ◌∷◌, ◌++◌, map, Bool, true, false, refl, ◌∙◌, ap, sym, inl, inr, arith, ℤ, ◌+ℤ◌, find, ◌&&◌, ◌||◌, cond, Option, Some, None, option_map, is_some, unwrap_or, BTreeMap, is_eq, int_eq, nat_cmp, int_cmp, append-nil}
use Rattle.mq_rows.proofs.Words.{Day, HasPairs, In, Pair, Sums, TransactionFigures, are_dated, both_parts, day_or, either, ints, is_moment_of, keys, list_all, list_any, nat_list_eq_equiv, option_or, or_false, or_true, pair_cmp, same_pair, same_text, signed_Decides, slice_cmp, sums_of, text_is, text_itself, texts_ties, tied_then, total, transactions_of, with_row}
use Rattle.std.specs.Map.{lookup}
use Rattle.std.proofs.lemmas.List.Folds.{find-append, list_all-append, list_any-append}
use Rattle.std.proofs.Math.Bool.{and-true}
use Rattle.std.proofs.lemmas.List.Elements.{filter-append}
use Rattle.mq_rows.proofs.Lists.{or_none}
use Rattle.mq_ledger.proofs.Basics.{any_in as passes_in}

-- Pairs.

pub pair_is : (p q : Pair) → same_pair p q ≡ true → p ≡ q
pair_is p q h =
    let b = both_parts (same_text p.login q.login) (int_eq q.day p.day) h in
    let l : p.login ≡ q.login = text_is p.login q.login b.0 in
    let d : q.day ≡ p.day = (signed_Decides q.day p.day).0 b.1 in
    λ i. record { login = l i; day = sym d i }

pub pair_itself : (p : Pair) → same_pair p p ≡ true
pair_itself p = rw (text_itself p.login, (signed_Decides p.day p.day).1 refl) refl

-- texts compare equal where they are the same
pub texts_tied : (a b : List ℕ) → is_eq (slice_cmp nat_cmp a b) ≡ same_text b a
texts_tied a b = sym (texts_ties a b) ∙ nat_list_eq_equiv.symm a b

pub pair_tied : (p q : Pair) → is_eq (pair_cmp q p) ≡ same_pair p q
pair_tied p q = sym (tied_then (slice_cmp nat_cmp q.login p.login) (int_cmp q.day p.day)) ∙ ap (λ (b : Bool). b && int_eq q.day p.day) (texts_tied q.login p.login)

-- The first of each pair.
module _ {R V : Type 0} (pair : R → Pair) (value : R → V) where
  abbrev Keeps : List R → (Pair → Option V) → Type 0
  Keeps rows at = (p : Pair) → at p ≡ option_map value (find (λ r. same_pair p (pair r)) rows)

  first_kept : (o : Option R) (x : R) → Some (unwrap_or (option_map value o) (value x)) ≡ option_map value (option_or o (Some x))
  first_kept None x = refl
  first_kept (Some y) x = refl

  pub one_more_first : (rows : List R) (x : R) (old new : Pair → Option V) → Keeps rows old
      → ((p : Pair) → new p ≡ cond (is_eq (pair_cmp (pair x) p)) (Some (unwrap_or (old (pair x)) (value x))) (old p)) → Keeps (rows ++ x ∷ []) new
  one_more_first rows x old new keeps updates = λ p.
      let longer = find-append (λ r. same_pair p (pair r)) rows (x ∷ []) in
      elim (either (same_pair p (pair x))) [
        | inl t ↦ (let t' : is_eq (pair_cmp (pair x) p) ≡ true = pair_tied p (pair x) ∙ t in
            let here : new p ≡ Some (unwrap_or (old (pair x)) (value x)) = updates p ∙ (rw t' refl) in
            let k : old (pair x) ≡ option_map value (find (λ r. same_pair p (pair r)) rows) = ap old (sym (pair_is p (pair x) t)) ∙ keeps p in
            let last : find (λ r. same_pair p (pair r)) (x ∷ []) ≡ Some x = rw t refl in
            here ∙ ap (λ (o : Option V). Some (unwrap_or o (value x))) k ∙ first_kept (find (λ r. same_pair p (pair r)) rows) x
            ∙ ap (λ o. option_map value (option_or (find (λ r. same_pair p (pair r)) rows) o)) (sym last) ∙ ap (option_map value) (sym longer))
        | inr f ↦ (let f' : is_eq (pair_cmp (pair x) p) ≡ false = pair_tied p (pair x) ∙ f in
            let last : find (λ r. same_pair p (pair r)) (x ∷ []) ≡ None = rw f refl in
            updates p ∙ (rw f' (keeps p ∙ ap (option_map value) (sym (or_none _)) ∙ ap (λ o. option_map value (option_or (find (λ r. same_pair p (pair r)) rows) o)) (sym last) ∙ ap (option_map value) (sym longer))))
      ]

-- The sums of each pair.

total_more : {R : Type 0} (amount : R → ℤ) (rows : List R) (x : R) → total amount (rows ++ x ∷ []) ≡ total amount rows +ℤ amount x
total_more amount [] x = omega (arith, ints)
total_more amount (r ∷ rows) x = (let more = total_more amount rows x in omega (arith, ints, more))

sums_more : (day : ℕ → ℕ) (rows : List TransactionFigures) (x : TransactionFigures) → sums_of day (rows ++ x ∷ []) ≡ with_row day x (sums_of day rows)
sums_more day rows x =
    let s = total_more (λ (t : TransactionFigures). t.settled) rows x in
    let h = total_more (λ (t : TransactionFigures). t.held) rows x in
    let dated : TransactionFigures → Bool = λ t. is_moment_of day t.pair.day t.moment in
    let d : are_dated day (rows ++ x ∷ []) ≡ (are_dated day rows && dated x) = list_all-append dated rows (x ∷ []) ∙ ap (λ b. list_all dated rows && b) (and-true (dated x)) in
    λ i. record { settled = s i; held = h i; are_dated = d i }

pub one_more_sum : (day : ℕ → ℕ) (rows : List TransactionFigures) (x : TransactionFigures) (old new : Pair → Sums)
    → ((p : Pair) → old p ≡ sums_of day (transactions_of p rows))
    → ((p : Pair) → new p ≡ cond (is_eq (pair_cmp x.pair p)) (with_row day x (old x.pair)) (old p))
    → (p : Pair) → new p ≡ sums_of day (transactions_of p (rows ++ x ∷ []))
one_more_sum day rows x old new has updates p =
    let longer = filter-append (λ (t : TransactionFigures). same_pair p t.pair) rows (x ∷ []) in
    elim (either (same_pair p x.pair)) [
      | inl t ↦ (let t' : is_eq (pair_cmp x.pair p) ≡ true = pair_tied p x.pair ∙ t in
          let here : new p ≡ with_row day x (old x.pair) = updates p ∙ (rw t' refl) in
          let was : old x.pair ≡ sums_of day (transactions_of p rows) = ap old (sym (pair_is p x.pair t)) ∙ has p in
          let longer' : transactions_of p (rows ++ x ∷ []) ≡ transactions_of p rows ++ x ∷ [] = rw t at longer in
          here ∙ ap (with_row day x) was ∙ sym (sums_more day (transactions_of p rows) x) ∙ ap (sums_of day) (sym longer'))
      | inr f ↦ (let f' : is_eq (pair_cmp x.pair p) ≡ false = pair_tied p x.pair ∙ f in
          let here : new p ≡ old p = updates p ∙ (rw f' refl) in
          let longer' : transactions_of p (rows ++ x ∷ []) ≡ transactions_of p rows ++ [] = rw f at longer in
          here ∙ has p ∙ ap (sums_of day) (sym (longer' ∙ append-nil (transactions_of p rows))))
    ]

-- What one more day of a pair leaves of the days that are kept.
module _ (q : Pair) (d : Day) (old new : Pair → Option Day) (updates : (p : Pair) → new p ≡ cond (is_eq (pair_cmp q p)) (Some d) (old p)) where
  -- a part of the day of each pair
  pub part_put : {V : Type 0} (part : Day → V) (v : V) → part d ≡ v → (p : Pair) → part (day_or (new p)) ≡ cond (is_eq (pair_cmp q p)) v (part (day_or (old p)))
  part_put part v is p = elim (either (is_eq (pair_cmp q p))) [
    | inl t ↦ (let here : new p ≡ Some d = updates p ∙ (rw t refl) in ap (λ o. part (day_or o)) here ∙ is ∙ (rw t refl))
    | inr f ↦ (let here : new p ≡ old p = updates p ∙ (rw f refl) in ap (λ o. part (day_or o)) here ∙ (rw f refl))
  ]

  -- a part that this one has as before
  pub part_kept : {V : Type 0} (part : Day → V) → part d ≡ part (day_or (old q)) → (p : Pair) → part (day_or (new p)) ≡ part (day_or (old p))
  part_kept part is p = elim (either (is_eq (pair_cmp q p))) [
    | inl t ↦ (let here : new p ≡ Some d = updates p ∙ (rw t refl) in
        let same : p ≡ q = pair_is p q (sym (pair_tied p q) ∙ t) in
        ap (λ o. part (day_or o)) here ∙ is ∙ ap (λ r. part (day_or (old r))) (sym same))
    | inr f ↦ (let here : new p ≡ old p = updates p ∙ (rw f refl) in ap (λ o. part (day_or o)) here)
  ]

  -- the pairs under which something is kept
  pub pairs_put : (ps qs : List Pair) → ((p : Pair) → list_any (same_pair p) qs ≡ (list_any (same_pair p) ps || same_pair p q)) → ((p : Pair) → is_some (old p) ≡ list_any (same_pair p) ps)
      → (p : Pair) → is_some (new p) ≡ list_any (same_pair p) qs
  pairs_put ps qs longer had p = elim (either (is_eq (pair_cmp q p))) [
    | inl t ↦ (let here : new p ≡ Some d = updates p ∙ (rw t refl) in
        let same : same_pair p q ≡ true = sym (pair_tied p q) ∙ t in
        ap is_some here ∙ sym (longer p ∙ ap (λ b. list_any (same_pair p) ps || b) same ∙ or_true (list_any (same_pair p) ps)))
    | inr f ↦ (let here : new p ≡ old p = updates p ∙ (rw f refl) in
        let other : same_pair p q ≡ false = sym (pair_tied p q) ∙ f in
        ap is_some here ∙ had p ∙ sym (longer p ∙ ap (λ b. list_any (same_pair p) ps || b) other ∙ or_false (list_any (same_pair p) ps)))
  ]

-- one more pair in the middle, and one more at the end
pub any_middle : {X : Type 0} (p : X → Bool) (xs ys : List X) (x : X) → list_any p ((xs ++ x ∷ []) ++ ys) ≡ (list_any p (xs ++ ys) || p x)
any_middle p xs ys x = grind (arith, list_any-append p (xs ++ x ∷ []) ys, list_any-append p xs (x ∷ []), list_any-append p xs ys)

pub any_end : {X : Type 0} (p : X → Bool) (xs ys : List X) (x : X) → list_any p (xs ++ (ys ++ x ∷ [])) ≡ (list_any p (xs ++ ys) || p x)
any_end p xs ys x = grind (arith, list_any-append p xs (ys ++ x ∷ []), list_any-append p ys (x ∷ []), list_any-append p xs ys)

-- The pairs under which something is kept are those of the rows.

any_in : (test : Pair → Bool) (p : Pair) → ((q : Pair) → test q ≡ true → q ≡ p) → (ps : List Pair) → list_any test ps ≡ true → In p ps
any_in test p one [] h = absurd (cc h)
any_in test p one (q ∷ ps) h = elim (either (test q)) [ inl t ↦ inl (one q t) | inr f ↦ inr (any_in test p one ps (rw f at h)) ]

-- the test of the keys
abbrev at : Pair → Pair → Bool
at p q = is_eq (pair_cmp p q)

kept_is : (p : Pair) (es : List (Pair × Day)) → is_some (lookup (at p) es) ≡ list_any (at p) (map (λ (e : Pair × Day). e.0) es)
kept_is p [] = refl
kept_is p (e ∷ es) = elim (either (at p e.0)) [ inl t ↦ rw t refl | inr f ↦ rw f (kept_is p es) ]

module _ (ps : List Pair) (m : BTreeMap Pair Day) (has : HasPairs ps m) where
  pub keys_in_rows : (p : Pair) → In p (keys m) → In p ps
  keys_in_rows p i = any_in (same_pair p) p (λ q t. sym (pair_is p q t)) ps (sym (has p) ∙ kept_is p m.entries ∙ passes_in (at p) (keys m) p i (pair_tied p p ∙ pair_itself p))

  pub rows_in_keys : (p : Pair) → In p ps → In p (keys m)
  rows_in_keys p i = any_in (at p) p (λ q t. pair_is q p (sym (pair_tied q p) ∙ t)) (keys m) (sym (kept_is p m.entries) ∙ has p ∙ passes_in (same_pair p) ps p i (pair_itself p))
