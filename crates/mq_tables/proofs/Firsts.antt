-- What a query on one table of ours answers of its records in an order: the first of those that pass.
use Rattle.std.proofs.Common.{◌≡◌, ℕ, ◌^◌, nat_le, List, [], ◌∷◌, drop, map, filter, Bool, true, false, arith, refl, sym, ap, subst, ◌∙◌}
use Rattle.mq_tables.proofs.Words.{AllByRecursion, Has, IsPermutation, IsPermutation-sym, IsPermutation-trans, IsPlain, IsSortedBy, IsStrictWeakOrder, Null, Row, Select, Shown, State, Term, Trees, all-permutation, all_from, all_from_map, command_of, eval_all, has_kept, holds, is_lt, length_permutation, list_all, map-map, reads_as, reads_listing, understood}
use Rattle.std.proofs.lemmas.List.Elements.{recursion_from_All}
use Rattle.std.proofs.lemmas.List.MinMax.{ranks_by}
use Rattle.std.proofs.lemmas.List.Sorted.{sorted_far}
use Rattle.sqlite_rules.proofs.ListLemmas.{all_has}
use Rattle.sqlite.specs.Query.{IsAnswer, Output, output, output_cmp, page}
use Rattle.sqlite_sql.proofs.QueryLemmas.{output_cmp_total}
use Rattle.sqlite_value.specs.declared.keys.Key.{Key}
use Rattle.sqlite.specs.Program.{overlay}
use Rattle.mq_tables.specs.Written.{latest_query}
use Rattle.mq_tables.specs.Records.{Holds}
use Rattle.mq_tables.proofs.Finds.{empty_mapped, shown_of}
use Rattle.mq_tables.proofs.Queries.{one_each, made_records}
use Rattle.mq_rows.proofs.Lists.{none_pass}

stored : (t : ℕ) (db : Trees) → nat_le (2 ^ 31) t ≡ false → overlay db [] t ≡ db t
stored t db low = rw low

-- what holds of each record that passes
pub all_of_filtered : {R : Type 0} (test : R → Bool) (Q : R → Type 0) (all : List R) → AllByRecursion Q (filter test all) → AllByRecursion (λ r. test r ≡ true → Q r) all
all_of_filtered test Q all h = all_from _ all (λ r there hit. all_has Q (filter test all) r h (has_kept test all r there hit))

-- none of a sorted list is less than its first
none_before : {X : Type 0} (lt : X → X → Bool) → IsStrictWeakOrder lt → (x : X) (xs : List X) → IsSortedBy lt (x ∷ xs) → AllByRecursion (λ y. lt y x ≡ false) (x ∷ xs)
none_before lt order x xs sorted = recursion_from_All (λ y. lt y x ≡ false) (x ∷ xs) (λ k d low. sorted_far lt order (x ∷ xs) sorted 0 k d (omega arith) low)

module _ {R : Type 0} (fields : R → Row) (tests project : List Term) (params : Row) where
  abbrev pub passes : Row → Bool
  passes r = list_all (holds (params ∷ r ∷ [])) tests

  -- whether a record passes, and what is shown of it
  abbrev pub pass : R → Bool
  pass u = passes (Null ∷ fields u)

  abbrev pub show : R → Row
  show u = eval_all project (params ∷ (Null ∷ fields u) ∷ [])

  module _ (order : List (Term × Key)) where
    -- what a row is sorted by, and what it shows
    abbrev pub made : Row → Output
    made r = (eval_all (map (λ k. k.0) order) (params ∷ r ∷ []), eval_all project (params ∷ r ∷ []))

    abbrev pub out : R → Output
    out u = made (Null ∷ fields u)

    abbrev pub before : ℕ → Output → Output → Bool
    before t x y = is_lt (output_cmp (latest_query t tests project order) x y)

    -- it passes, and stands after none that does
    pub record IsFirstOf (t : ℕ) (all : List R) (u : R) : Type 0 where
      pub there : Has all u
      pub passing : pass u ≡ true
      pub first : AllByRecursion (λ v. pass v ≡ true → before t (out v) (out u) ≡ false) all

    -- none passes, or the row shows the first
    abbrev pub IsFirstRow : ℕ → List R → List Row → Type 0
    IsFirstRow t all [] = AllByRecursion (λ u. pass u ≡ false) all
    IsFirstRow t all (row ∷ more) = (u : R) × IsFirstOf t all u × (row ≡ show u)

    module _ (tied : (r : Row) → passes r ≡ passes (Null ∷ drop 1 r)) (same_made : (r : Row) → made r ≡ made (Null ∷ drop 1 r)) where
      first_is : (t : ℕ) (all : List R) (ordered : List Output) → IsPermutation (map out (filter pass all)) ordered → IsSortedBy (before t) ordered
          → (rows : List Row) → rows ≡ page (latest_query t tests project order) params (map (λ (o : Output). o.1) ordered) → IsFirstRow t all rows
      first_is t all [] same sorted rows is =
          let none = none_pass pass all (empty_mapped out (filter pass all) (sym (length_permutation _ _ same))) in
          subst (IsFirstRow t all) (sym is) none
      first_is t all (o ∷ more) same sorted rows is =
          let from : AllByRecursion (λ y. (u : R) × (Has all u × (pass u ≡ true)) × (y ≡ out u)) (o ∷ more) = all-permutation _ _ _ same (shown_of out pass all) in
          let hit = from.0 in
          let top = none_before (before t) (ranks_by (output_cmp_total (latest_query t tests project order)) (λ o. o)) o more sorted in
          let back = all-permutation (λ y. before t y o ≡ false) (o ∷ more) (map out (filter pass all)) (IsPermutation-sym _ _ same) top in
          let least = all_of_filtered pass (λ v. before t (out v) o ≡ false) all (all_from_map (λ y. before t y o ≡ false) out (filter pass all) back) in
          let it : IsFirstOf t all hit.0 = record { there = hit.1.0; passing = hit.1.1; first = subst (λ x. AllByRecursion (λ v. pass v ≡ true → before t (out v) x ≡ false) all) hit.2 least } in
          subst (IsFirstRow t all) (sym is) (hit.0, it, ap (λ (y : Output). y.1) hit.2)

      answers_first : (t : ℕ) (db : Trees) (all : List R) (rows : List Row) → Holds 1 fields (db t) all → IsAnswer (latest_query t tests project order) db params rows → IsFirstRow t all rows
      answers_first t db all rows held a =
          let q = latest_query t tests project order in
          let hits = filter passes (db t) in
          let staged : a.staged ≡ map (λ r. params ∷ r ∷ []) hits = a.grouped ∙ one_each params tests (db t) in
          let kept : a.kept ≡ map made hits = a.distinct ∙ ap (map (output q)) staged ∙ map-map (output q) (λ r. params ∷ r ∷ []) hits in
          let meant : IsPermutation (map made hits) (map out (filter pass all)) = made_records fields passes (λ c. passes (Null ∷ c)) tied made (λ c. made (Null ∷ c)) same_made (db t) all held.same in
          let same : IsPermutation (map out (filter pass all)) a.ordered = IsPermutation-trans _ _ _ (IsPermutation-sym _ _ meant) (subst (λ xs. IsPermutation xs a.ordered) kept a.same) in
          first_is t all a.ordered same a.sorted rows a.shown

      -- the first of those that pass
      pub shows_first : (text : List ℕ) (names : List (List ℕ)) (old new : State) (t : ℕ) (rows : List Row) (all : List R)
          → command_of (understood old.now.schema text) ≡ Select (record { lets = []; body = latest_query t tests project order }) names
          → IsPlain (understood old.now.schema text) → reads_listing old.now.schema text ≡ false → nat_le (2 ^ 31) t ≡ false
          → Holds 1 fields (old.now.trees t) all → Shown text params old new rows → IsFirstRow t all rows
      shows_first text names old new t rows all is plain unlisted low held h =
          let read = reads_as text params old new old.now.schema refl (Select (record { lets = []; body = latest_query t tests project order }) names) is plain unlisted rows h in
          answers_first t (overlay old.now.trees []) all rows (subst (λ rs. Holds 1 fields rs all) (sym (stored t old.now.trees low)) held) (read.answer Null)
