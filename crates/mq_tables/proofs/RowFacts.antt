-- What a write of one row makes of the records that a table holds.
use Rattle.std.proofs.Common.{IsTrue, ap₂, subst₂, ◌≡◌, inl, inr, ℕ, ℤ, List, [], ◌∷◌, map, filter, drop, Bool, true, false, not, true≢false, Ordering, Less, Equal, Greater, refl, sym, ap, subst, ◌∙◌}
use Rattle.mq_tables.proofs.Words.{AllByRecursion, Has, Int, IsPermutation, IsPermutation-cons, IsPermutation-filter, IsPermutation-map, IsPermutation-middle, IsPermutation-refl, IsPermutation-sym, IsPermutation-trans, Row, all_from, all_weaker, filter-map, filter_all, filter_none, filter_same, has_filtered, has_kept, has_rowid, id_in, is_taken, one_permutation, or_parts, put_row, rowid, value_cmp_total, without_rowid}
use Rattle.std.specs.Ordering.{is_eq, match_ordering}
use Rattle.sqlite_value.specs.Order.{value_cmp}
use Rattle.sqlite.specs.View.{is_int}
use Rattle.sqlite_trees.proofs.TreeLemmas.{IsShaped-put_row, IsShaped-filter}
use Rattle.std.proofs.lemmas.Cmp.{tied_itself}
use Rattle.sqlite_trees.specs.declared.store.Shape.TheVariants.{Table}
use Rattle.sqlite_rules.proofs.ListLemmas.{all_has}
use Rattle.sqlite_rules.proofs.PlaceLemmas.{tied_same}
use Rattle.sqlite_rules.proofs.TableLemmas.{int_is}
use Rattle.mq_tables.specs.Records.{Holds}
use Rattle.std.specs.Cmp.{Equal-is, both_ways}

put_fresh : (new : Row) (rows : List Row) → is_taken rows new ≡ false → IsPermutation (put_row new rows) (new ∷ rows)
put_fresh new [] free = IsPermutation-refl _
put_fresh new (r ∷ rows) free = go (value_cmp (rowid r) (rowid new)) (or_parts _ _ free).0 (put_fresh new rows (or_parts _ _ free).1)
  where
    go : (o : Ordering) → is_eq o ≡ false → IsPermutation (put_row new rows) (new ∷ rows) → IsPermutation (match_ordering o (r ∷ put_row new rows) (new ∷ rows) (new ∷ r ∷ rows)) (new ∷ r ∷ rows)
    go Less other more = IsPermutation-trans _ _ _ (IsPermutation-cons r _ _ more) (IsPermutation-middle (r ∷ []) new rows)
    go Equal other more = absurd (true≢false other)
    go Greater other more = IsPermutation-refl _

pub holds_put : {R : Type 0} (from : ℕ) (fields : R → Row) (new : Row) (record' : R) (rows : List Row) (records : List R) → drop from new ≡ fields record' → is_taken rows new ≡ false → is_int (rowid new) ≡ true
    → Holds from fields rows records → Holds from fields (put_row new rows) (record' ∷ records)
holds_put from fields new record' rows records is free keyed h = record {
  numbered = IsShaped-put_row new rows keyed h.numbered;
  same = IsPermutation-trans _ _ _ (IsPermutation-map (drop from) _ _ (put_fresh new rows free))
      (subst (λ x. IsPermutation (drop from new ∷ map (drop from) rows) (x ∷ map fields records)) is (IsPermutation-cons (drop from new) _ _ h.same));
}

-- the same records in another order
pub held_so : {R : Type 0} (fields : R → Row) (rows : List Row) (all other : List R) → Holds 1 fields rows all → IsPermutation other all → Holds 1 fields rows other
held_so fields rows all other held same = record { numbered = held.numbered; same = IsPermutation-trans _ _ _ held.same (IsPermutation-sym _ _ (IsPermutation-map fields other all same)) }

-- ---- the one row of a key

one_mapped : {X Y : Type 0} (f : X → Y) (xs : List X) (y : Y) → map f xs ≡ y ∷ [] → (x : X) × (xs ≡ x ∷ []) × (f x ≡ y)
one_mapped f [] y e = absurd cc
one_mapped f (x ∷ []) y e = (x, refl, cc)
one_mapped f (x ∷ z ∷ xs) y e = absurd cc

module _ {R : Type 0} (fields : R → Row) (pass test : Row → Bool) (tied : (r : Row) → pass r ≡ test (drop 1 r)) (rows : List Row) (was : R) (rest : List R)
    (held : Holds 1 fields rows (was ∷ rest)) (hit : test (fields was) ≡ true) (apart : AllByRecursion (λ u. test (fields u) ≡ false) rest) where
  pass_is : pass ≡ (λ r. test (drop 1 r))
  pass_is i r = tied r i

  passing : map (drop 1) (filter pass rows) ≡ fields was ∷ []
  passing =
      let left : filter test (map (drop 1) rows) ≡ map (drop 1) (filter pass rows) = filter-map test (drop 1) rows ∙ ap (λ p. map (drop 1) (filter p rows)) (sym pass_is) in
      let none : filter test (map fields rest) ≡ [] = filter-map test fields rest ∙ ap (map fields) (filter_none (λ u. test (fields u)) rest apart) in
      let right : filter test (fields was ∷ map fields rest) ≡ fields was ∷ [] = rw hit (ap (λ xs. fields was ∷ xs) none) in
      one_permutation (fields was) _ (IsPermutation-sym _ _ (subst₂ IsPermutation left right (IsPermutation-filter test _ _ held.same)))

  pub only : (row : Row) × (filter pass rows ≡ row ∷ []) × (drop 1 row ≡ fields was)
  only = one_mapped (drop 1) (filter pass rows) (fields was) passing

  pub others : IsPermutation (map (drop 1) (filter (λ r. not (pass r)) rows)) (map fields rest)
  others =
      let left : filter (λ c. not (test c)) (map (drop 1) rows) ≡ map (drop 1) (filter (λ r. not (pass r)) rows) =
      filter-map (λ c. not (test c)) (drop 1) rows ∙ ap (λ (p : Row → Bool). map (drop 1) (filter (λ r. not (p r)) rows)) (sym pass_is) in
      let all : filter (λ c. not (test c)) (map fields rest) ≡ map fields rest =
      filter-map (λ c. not (test c)) fields rest ∙ ap (map fields) (filter_all (λ u. not (test (fields u))) rest (all_weaker _ (λ u. not (test (fields u)) ≡ true) (λ u e. ap not e) rest apart)) in
      let right : filter (λ c. not (test c)) (fields was ∷ map fields rest) ≡ map fields rest = rw hit all in
      subst₂ IsPermutation left right (IsPermutation-filter (λ c. not (test c)) _ _ held.same)

  row_there : Has rows only.0 × (pass only.0 ≡ true)
  row_there = has_filtered pass rows only.0 (subst (λ l. Has l only.0) (sym only.1) (inl refl))

  pub keyed_row : only.0 ≡ Int (id_in (rowid only.0)) ∷ fields was
  keyed_row = with_head only.0 (all_has (λ r. IsTrue (is_int (rowid r))) rows only.0 held.numbered.1 row_there.0) only.2
    where
      with_head : (row : Row) → is_int (rowid row) ≡ true → drop 1 row ≡ fields was → row ≡ Int (id_in (rowid row)) ∷ fields was
      with_head [] h e = absurd (true≢false (sym h))
      with_head (v ∷ row) h e = ap₂ (λ x xs. x ∷ xs) (int_is v h) e

  pub left_over : without_rowid (id_in (rowid only.0)) rows ≡ filter (λ r. not (pass r)) rows
  left_over = filter_same (λ r. not (has_rowid id r)) (λ r. not (pass r)) rows (all_from _ rows (λ r there. ap not (both_ways (has_rowid id r) (pass r) (to r there) (from r there))))
    where
      id : ℤ
      id = id_in (rowid only.0)

      keyed : rowid only.0 ≡ Int id
      keyed = ap rowid keyed_row

      to : (r : Row) → Has rows r → has_rowid id r ≡ true → pass r ≡ true
      to r there h =
          let tie = (Equal-is (value_cmp (rowid r) (rowid only.0))).0 (rw keyed h) in
          subst (λ x. pass x ≡ true) (sym (tied_same rows r only.0 held.numbered.0 there row_there.0 tie)) row_there.1

      from : (r : Row) → Has rows r → pass r ≡ true → has_rowid id r ≡ true
      from r there h = elim (subst (λ l. Has l r) only.1 (has_kept pass rows r there h)) [
        | inl same ↦ rw (same, keyed) (ap is_eq (tied_itself value_cmp_total (Int id)))
        | inr none ↦ absurd none
      ]

  -- the row is replaced by one with its rowid
  pub holds_set : (new : R) → is_taken (without_rowid (id_in (rowid only.0)) rows) (Int (id_in (rowid only.0)) ∷ fields new) ≡ false
      → Holds 1 fields (put_row (Int (id_in (rowid only.0)) ∷ fields new) (without_rowid (id_in (rowid only.0)) rows)) (new ∷ rest)
  holds_set new free =
      let id = id_in (rowid only.0) in
      holds_put 1 fields (Int id ∷ fields new) new (without_rowid id rows) rest refl free refl (record {
        numbered = IsShaped-filter Table (λ r. not (has_rowid id r)) rows held.numbered;
        same = subst (λ xs. IsPermutation (map (drop 1) xs) (map fields rest)) (sym left_over) others;
      })
