-- Which records a query shows.
use Rattle.std.proofs.Common.{◌≡◌, ℕ, pos, List, [], ◌∷◌, map, filter, length, Bool, true, Option, Some, None, Ok, Err, Result, arith, refl, sym, ap, ap₂, subst, subst₂, ◌∙◌}
use Rattle.mq_tables.proofs.Words.{AllByRecursion, Blob, Error, Has, IfOk, Int, IsPermutation, IsPermutation-map, Row, Tables, all-map, all-permutation, all_from, all_of, has_filtered, length_permutation, ⊤}
use Rattle.mq_tables.specs.Records.{IsOneOf, IsFirstBy, IsShownOne}
use Rattle.mq_rows.proofs.Lists.{none_pass}

pub empty_mapped : {X Y : Type 0} (f : X → Y) (xs : List X) → length (map f xs) ≡ 0 → xs ≡ []
empty_mapped f [] e = refl
empty_mapped f (x ∷ xs) e = absurd (omega (arith, e))

module _ {R Y : Type 0} (show : R → Y) where
  -- what is shown is shown of a record that passes
  pub shown_of : (test : R → Bool) (all : List R) → AllByRecursion (λ y. (r : R) × (Has all r × (test r ≡ true)) × (y ≡ show r)) (map show (filter test all))
  shown_of test all = all-map _ show (filter test all) (all_from _ (filter test all) (λ r there. (r, has_filtered test all r there, refl)))

-- ---- values

pub int_same : {x y : ℕ} → Int (pos x) ≡ Int (pos y) → x ≡ y
int_same e = cc

pub blob_same : {x y : List ℕ} → Blob x ≡ Blob y → x ≡ y
blob_same e = cc

-- ---- what is read of the rows that are shown

-- where the rows show so much of the tables, what is read of them is so
abbrev pub Following : {A : Type 0} → (Tables → List Row → Type 0) → (List Row → A → Type 0) → (Tables → A → Type 0) → Type 1
Following {A} Shown Read Is =
    (Held : Tables → Type 0) (rows : List Row) (outcome : Result A Error) → ((t : Tables) → Held t → Shown t rows) → IfOk outcome (Read rows) → IfOk outcome (λ found. (t : Tables) → Held t → Is t found)

pub follows : {A : Type 0} (Shown : Tables → List Row → Type 0) (Read : List Row → A → Type 0) (Is : Tables → A → Type 0) → ((t : Tables) (rows : List Row) (found : A) → Shown t rows → Read rows found → Is t found) → Following Shown Read Is
follows Shown Read Is so Held rows (Ok found) shown read = λ t l. so t rows found (shown t l) read
follows Shown Read Is so Held rows (Err e) shown read = tt

-- ---- the first of the rows that a query by a key shows

module _ {R : Type 0} (test : R → Bool) (show : R → Row) (Shows : Row → R → Type 0) (is_it : (row : Row) (u v : R) → Shows row u → test v ≡ true → row ≡ show v → v ≡ u) where
  found_first : (all : List R) (rows : List Row) (found : Option R) → IsPermutation (map show (filter test all)) rows → IsFirstBy Shows rows found → IsOneOf test all found
  found_first all rows None same none = none_pass test all (empty_mapped show _ (sym (length_permutation _ _ same) ∙ ap length none))
  found_first all rows (Some u) same (row, more, is, shown) =
      let head : (v : R) × (Has all v × (test v ≡ true)) × (row ≡ show v) = (subst (AllByRecursion (λ r. (v : R) × (Has all v × (test v ≡ true)) × (r ≡ show v))) is (all-permutation _ _ _ same (shown_of show test all))).0 in
      let it = is_it row u head.0 shown head.1.1 head.2 in
      (subst (Has all) it head.1.0, subst (λ v. test v ≡ true) it head.1.1)

  pub found_after : (of : Tables → List R) → Following (λ t rows. IsPermutation (map show (filter test (of t))) rows) (IsFirstBy Shows) (λ t. IsOneOf test (of t))
  found_after of = follows _ _ _ (λ t. found_first (of t))

-- ---- the one row that a query shows

module _ {R A : Type 0} (Is : List R → Option A → Type 0) (show : A → Row) (Shows : Row → A → Type 0) (is_it : (all : List R) (row : Row) (u v : A) → Shows row u → Is all (Some v) → row ≡ show v → v ≡ u) where
  one_so : (all : List R) (rows : List Row) (found : Option A) → IsShownOne Is show all rows → IsFirstBy Shows rows found → Is all found
  one_so all [] None shown first = shown
  one_so all (row ∷ more) None shown first = absurd cc
  one_so all [] (Some u) shown first = absurd (let e = first.2 in cc)
  one_so all (row ∷ more) (Some u) (v, it, is) (r, rest, whole, shown) =
      let head : r ≡ row = cc in
      subst (λ x. Is all (Some x)) (is_it all r u v shown it (head ∙ is)) it

  pub one_after : (of : Tables → List R) → Following (λ t. IsShownOne Is show (of t)) (IsFirstBy Shows) (λ t. Is (of t))
  one_after of = follows _ _ _ (λ t. one_so (of t))

-- ---- all rows

pub all_pass : {R : Type 0} (rows : List R) → filter (λ _. true) rows ≡ rows
all_pass [] = refl
all_pass (r ∷ rows) = ap (λ xs. r ∷ xs) (all_pass rows)

-- what was read of the columns of these rows is what they stand for, of which a row's cells say all
module _ {X : Type 0} (Good : X → Type 0) (cells : X → Row) (columns : Row → Row) (back : Row → X) (again : (x : X) → columns (cells x) ≡ cells x) (back_is : (x : X) → Good x → back (cells x) ≡ x) where
  all_again : (xs : List X) → map columns (map cells xs) ≡ map cells xs
  all_again [] = refl
  all_again (x ∷ xs) = ap₂ (λ y ys. y ∷ ys) (again x) (all_again xs)

  all_back : (xs : List X) → AllByRecursion Good xs → map back (map cells xs) ≡ xs
  all_back [] good = refl
  all_back (x ∷ xs) good = ap₂ (λ y ys. y ∷ ys) (back_is x good.0) (all_back xs good.1)

  pub same_read : (rows : List Row) (these read : List X) → AllByRecursion Good these → AllByRecursion Good read → IsPermutation (map cells these) rows → map columns rows ≡ map cells read → IsPermutation these read
  same_read rows these read good good' same is =
      let shown : IsPermutation (map cells these) (map cells read) = subst₂ IsPermutation (all_again these) is (IsPermutation-map columns _ _ same) in
      subst₂ IsPermutation (all_back these good) (all_back read good') (IsPermutation-map back _ _ shown)

-- the same where the cells of all say all
pub all_read : {X : Type 0} (cells : X → Row) (columns : Row → Row) (back : Row → X) → ((x : X) → columns (cells x) ≡ cells x) → ((x : X) → back (cells x) ≡ x)
    → (rows : List Row) (these read : List X) → IsPermutation (map cells these) rows → map columns rows ≡ map cells read → IsPermutation these read
all_read cells columns back again back_is rows these read = same_read (λ _. ⊤) cells columns back again (λ x _. back_is x) rows these read (all_of (λ _. ⊤) (λ _. tt) these) (all_of (λ _. ⊤) (λ _. tt) read)
