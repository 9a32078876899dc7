-- Rows that stand under a key at most once.
use Rattle.std.proofs.Common.{ap, subst, swap, ◌≡◌, ℕ, zero, suc, ◌<◌, List, [], ◌∷◌, Bool, true, false, refl, ◌∙◌, sym, inl, inr, arith, length, get_or, find, filter, Option, Some, None, IsPermutation, ◌&&◌, ◌==◌, map, option_map, Contains, slice_index_or, All}
use Rattle.mq_rows.proofs.Words.{AllByRecursion, In, Inserts, IsPermutation-append_comm, IsPermutation-append_left, IsPermutation-cons, IsPermutation-keeps, IsPermutation-refl, IsPermutation-sym, IsPermutation-trans, LimitRecord, RetiredRecord, Transaction, TransactionRecord, Updates, UsageRecord, all_at, all_filter, either, first_so, key_of, number_is, number_itself, option_or, recursion_from_All, same_text, same_transaction, second_so, set, set_limit, set_run, set_transaction, set_usage, text_is, text_itself, those, weaker}
use Rattle.mq_ledger.proofs.Transactions.{transaction_is, transaction_itself}
use Rattle.mq_ledger.proofs.Basics.{found}

-- The rows of a key.

one_is : {R : Type 0} (x : R) (rest : List R) (o : Option R) → x ∷ rest ≡ those o → Some x ≡ o
one_is x rest None h = cc
one_is x rest (Some r) h = cc

pub find_of_those : {R : Type 0} (p : R → Bool) (rows : List R) (o : Option R) → filter p rows ≡ those o → find p rows ≡ o
find_of_those p [] None h = refl
find_of_those p [] (Some r) h = cc
find_of_those p (x ∷ rows) o h = elim (either (p x)) [
  | inl t ↦ (let h' : x ∷ filter p rows ≡ those o = rw t at h in rw t (one_is x (filter p rows) o h'))
  | inr f ↦ (let h' : filter p rows ≡ those o = rw f at h in rw f (find_of_those p rows o h'))
]

pub one_of_those : {R : Type 0} (x : R) (rest : List R) (o : Option R) → x ∷ rest ≡ those o → (Some x ≡ o) × (rest ≡ [])
one_of_those x rest None h = cc
one_of_those x rest (Some r) h = (cc, cc)

-- no row passes where none is kept
pub none_pass : {R : Type 0} (p : R → Bool) (rows : List R) → filter p rows ≡ [] → AllByRecursion (λ r. p r ≡ false) rows
none_pass p [] h = tt
none_pass p (x ∷ rows) h = elim (either (p x)) [
  | inl t ↦ (let h' : x ∷ filter p rows ≡ [] = rw t at h in absurd (cc h'))
  | inr f ↦ (f, none_pass p rows (rw f at h))
]

-- a row that passes is the one that is found
pub those_are_found : {R : Type 0} (p : R → Bool) (rows : List R) (o : Option R) → filter p rows ≡ those o → AllByRecursion (λ r. p r ≡ true → Some r ≡ find p rows) rows
those_are_found p [] o h = tt
those_are_found {R} p (x ∷ rows) o h = elim (either (p x)) [
  | inl t ↦ (let h' : x ∷ filter p rows ≡ those o = rw t at h in
      let hit : Some x ≡ find p (x ∷ rows) = rw t refl in (
        (λ _. hit),
        weaker (λ r. p r ≡ false) (λ r. p r ≡ true → Some r ≡ find p (x ∷ rows)) (λ r f t'. absurd (cc (f, t'))) rows
            (none_pass p rows (one_of_those x (filter p rows) o h').1),
      ))
  | inr f ↦ (let h' : filter p rows ≡ those o = rw f at h in
      let passed : find p rows ≡ find p (x ∷ rows) = rw f refl in
      ((λ t. absurd (cc (f, t))), subst (λ (q : Option R). AllByRecursion (λ r. p r ≡ true → Some r ≡ q) rows) passed (those_are_found p rows o h')))
]

-- An order of rows says nothing of those that pass, where there is one at most.
module _ {R : Type 0} (p : R → Bool) where
  abbrev Follows : List R → List R → Type 0
  Follows xs ys = (o : Option R) → filter p xs ≡ those o → filter p ys ≡ those o

  under : (x : R) (xs ys : List R) → Follows xs ys → Follows (x ∷ xs) (x ∷ ys)
  under x xs ys follows = λ o h. elim (either (p x)) [
    | inl t ↦ (let h' : x ∷ filter p xs ≡ those o = rw t at h in
        let one = one_of_those x (filter p xs) o h' in
        let none : filter p ys ≡ [] = follows None one.1 in
        rw (t, none, ← one.0) refl)
    | inr f ↦ (let h' : filter p xs ≡ those o = rw f at h in rw f (follows o h'))
  ]

  turned : (x y : R) (xs : List R) → Follows (x ∷ y ∷ xs) (y ∷ x ∷ xs)
  turned x y xs = λ o h. elim (either (p x)) [
    | inl t ↦ elim (either (p y)) [
      | inl u ↦ (let h' : x ∷ y ∷ filter p xs ≡ those o = rw (t, u) at h in
          let one = one_of_those x (y ∷ filter p xs) o h' in absurd (cc (one.1)))
      | inr g ↦ (let h' : x ∷ filter p xs ≡ those o = rw (t, g) at h in rw (t, g) h')
    ]
    | inr f ↦ elim (either (p y)) [
      | inl u ↦ (let h' : y ∷ filter p xs ≡ those o = rw (f, u) at h in rw (f, u) h')
      | inr g ↦ (let h' : filter p xs ≡ those o = rw (f, g) at h in rw (f, g) h')
    ]
  ]

  to_head : (l : List R) (j : ℕ) (x d : R) → j < length l → Follows (x ∷ l) (get_or l j d ∷ set l j x)
  to_head [] j x d h = absurd (omega arith)
  to_head (y ∷ l) zero x d h = turned x y l
  to_head (y ∷ l) (suc j) x d h = λ o e.
      turned y (get_or l j d) (set l j x) o (under y (x ∷ l) (get_or l j d ∷ set l j x) (to_head l j x d (omega arith)) o (turned x y l o e))

  exchanged : (l : List R) (i j : ℕ) (d : R) → i < length l → j < length l → Follows l (set (set l i (get_or l j d)) j (get_or l i d))
  exchanged [] i j d h k = absurd (omega arith)
  exchanged (x ∷ l) zero zero d h k = λ o e. e
  exchanged (x ∷ l) zero (suc j) d h k = to_head l j x d (omega arith)
  exchanged (x ∷ l) (suc i) zero d h k = to_head l i x d (omega arith)
  exchanged (x ∷ l) (suc i) (suc j) d h k = under x l _ (exchanged l i j d (omega arith) (omega arith))

  swapped : (l : List R) (i j : ℕ) → i < length l → j < length l → Follows l (swap l i j)
  swapped [] i j h k = λ o e. e
  swapped (x ∷ l) i j h k = exchanged (x ∷ l) i j x h k

  pub in_any_order : (xs ys : List R) → IsPermutation xs ys → (o : Option R) → filter p xs ≡ those o → filter p ys ≡ those o
  in_any_order xs = IsPermutation-keeps xs (Follows xs) (λ o e. e) (λ l i j h k follows. λ o e. swapped l i j h k o (follows o e))

  -- the one row that passes, and the others
  pub record Parted (rows : List R) (was : R) : Type 0 where
    pub rest : List R
    pub order : IsPermutation (was ∷ rest) rows
    pub there : p was ≡ true
    pub alone : AllByRecursion (λ r. p r ≡ false) rest

  heads_turned : (x y : R) (l : List R) → IsPermutation (x ∷ y ∷ l) (y ∷ x ∷ l)
  heads_turned x y l = IsPermutation-append_left l (x ∷ y ∷ []) (y ∷ x ∷ []) (IsPermutation-append_comm (x ∷ []) (y ∷ []))

  pub parted : (rows : List R) (was : R) → filter p rows ≡ was ∷ [] → Parted rows was
  parted [] was h = absurd (cc h)
  parted (x ∷ rows) was h = elim (either (p x)) [
    | inl t ↦ (let h' : x ∷ filter p rows ≡ was ∷ [] = rw t at h in
        let same : x ≡ was = cc h' in
        let none : filter p rows ≡ [] = cc h' in
        record {
          rest = rows;
          order = rw same (IsPermutation-refl (was ∷ rows));
          there = rw (← same) t;
          alone = none_pass p rows none;
        })
    | inr f ↦ (let h' : filter p rows ≡ was ∷ [] = rw f at h in
        let d = parted rows was h' in
        record {
          rest = x ∷ d.rest;
          order = IsPermutation-trans _ _ _ (heads_turned was x d.rest) (IsPermutation-cons x _ _ d.order);
          there = d.there;
          alone = (f, d.alone);
        })
  ]

  -- one row more: the row of its key where there was none
  pub inserted : (r : R) (rows : List R) (o after : Option R) → filter p rows ≡ those o → (p r ≡ true → (o ≡ None) × (after ≡ Some r)) → (p r ≡ false → after ≡ o) → filter p (r ∷ rows) ≡ those after
  inserted r rows o after h own other = elim (either (p r)) [
    | inl t ↦ (let f = own t in let none : filter p rows ≡ [] = rw f.0 at h in rw (t, none, f.1) refl)
    | inr f ↦ rw (f, other f) h
  ]

  -- a row has other values, under its old key
  pub updated : (new was : R) (rest rows : List R) (o after : Option R) → IsPermutation (was ∷ rest) rows → filter p rows ≡ those o → p new ≡ p was → (p was ≡ true → o ≡ Some was → after ≡ Some new) → (p was ≡ false → after ≡ o) → filter p (new ∷ rest) ≡ those after
  updated new was rest rows o after order h same own other =
      let h' : filter p (was ∷ rest) ≡ those o = in_any_order rows (was ∷ rest) (IsPermutation-sym _ _ order) o h in
      elim (either (p was)) [
        | inl t ↦ (let k : was ∷ filter p rest ≡ those o = rw t at h' in
            let one = one_of_those was (filter p rest) o k in
            let next = own t (sym one.0) in
            let new_is : p new ≡ true = same ∙ t in
            rw (new_is, one.1, next) refl)
        | inr f ↦ (let k : filter p rest ≡ those o = rw f at h' in
            let next = other f in
            let new_not : p new ≡ false = same ∙ f in
            rw (new_not, next) k)
      ]

-- A table whose rows have keys, each key once at most: how keys compare, the key of a row, and what an update sets.
pub record Keyed (R K : Type 0) : Type 0 where
  pub same : K → K → Bool
  pub key : R → K
  pub set : R → R → R
  pub same_is : (k q : K) → same k q ≡ true → k ≡ q
  pub itself : (k : K) → same k k ≡ true
  pub stays : (new was : R) → key (set new was) ≡ key was

module _ {R K : Type 0} (t : Keyed R K) (row after : K → Option R) (rows : List R) (are : (k : K) → filter (λ r. t.same k (t.key r)) rows ≡ those (row k)) (k : K)
    (others : (j : K) → t.same j k ≡ false → after j ≡ row j) (P : List R → Type 0) (so : (rows : List R) → ((j : K) → filter (λ r. t.same j (t.key r)) rows ≡ those (after j)) → P rows) where
  abbrev is : K → R → Bool
  is j r = t.same j (t.key r)

  -- a row under a key that had none
  pub insert : (new : R) → t.key new ≡ k → row k ≡ None → after k ≡ Some new → Inserts (λ r other. t.same (t.key r) (t.key other)) new rows P
  insert new own none now = record {
    absent = none_pass (is (t.key new)) rows (are (t.key new) ∙ ap those (ap row own ∙ none));
    after = so (new ∷ rows) (λ j. inserted (is j) new rows (row j) (after j) (are j)
        (λ y. let e : j ≡ k = t.same_is j (t.key new) y ∙ own in (ap row e ∙ none, ap after e ∙ now))
        (λ n. others j (ap (t.same j) (sym own) ∙ n)));
  }

  -- the row of a key with other values
  pub update : (new was : R) → t.key new ≡ t.key was → row k ≡ Some was → after k ≡ Some (t.set new was) → Updates (λ r other. t.same (t.key r) (t.key other)) t.set new rows P
  update new was own here now =
      let d : Parted (is k) rows was = parted (is k) rows was (are k ∙ ap those here) in
      let at : k ≡ t.key was = t.same_is k (t.key was) d.there in
      record {
        was = was;
        rest = d.rest;
        order = d.order;
        there = ap (λ q. t.same q (t.key was)) (sym (at ∙ sym own)) ∙ d.there;
        alone = subst (λ q. AllByRecursion (λ r. is q r ≡ false) d.rest) (at ∙ sym own) d.alone;
        after = so (t.set new was ∷ d.rest) (λ j. updated (is j) (t.set new was) was d.rest rows (row j) (after j) d.order (are j) (ap (t.same j) (t.stays new was))
            (λ y _. ap after (t.same_is j (t.key was) y ∙ sym at) ∙ now)
            (λ n. others j (ap (t.same j) at ∙ n)));
      }

-- Members.

pub member_is : {R : Type 0} (p : R → Bool) (rows : List R) (k : ℕ) (x : R) → k < length rows → slice_index_or rows k x ≡ x → p x ≡ true → (o : Option R) → filter p rows ≡ those o → o ≡ Some x
member_is p [] k x h at t o f = absurd (omega arith)
member_is p (y ∷ rows) zero x h at t o f =
    let u : p y ≡ true = ap p at ∙ t in
    let g : y ∷ filter p rows ≡ those o = rw u at f in
    sym (one_of_those y (filter p rows) o g).0 ∙ ap Some at
member_is p (y ∷ rows) (suc k) x h at t o f = elim (either (p y)) [
  | inl u ↦ (let g : y ∷ filter p rows ≡ those o = rw u at f in
      let none : filter p rows ≡ [] = (one_of_those y (filter p rows) o g).1 in
      let bad : None ≡ Some x = member_is p rows k x (omega arith) at t None none in absurd (cc bad))
  | inr u ↦ member_is p rows k x (omega arith) at t o (rw u at f)
]

pub one_has : {R : Type 0} (p : R → Bool) (P : R → Type 0) (rows : List R) (w : R) → filter p rows ≡ w ∷ [] → AllByRecursion P rows → P w
one_has p P rows w h all = (subst (AllByRecursion P) h (all_filter P p rows all)).0

pub found_has : {X : Type 0} (P : X → Type 0) (p : X → Bool) (xs : List X) (x : X) → All P xs → find p xs ≡ Some x → P x
found_has P p xs x all h = all_at P xs x (recursion_from_All P xs all) (found p xs x h).0

pub find_mapped : {X Y : Type 0} (f : X → Y) (p : Y → Bool) (q : X → Bool) → ((x : X) → p (f x) ≡ q x) → (xs : List X) → find p (map f xs) ≡ option_map f (find q xs)
find_mapped f p q same [] = refl
find_mapped f p q same (x ∷ xs) = elim (either (q x)) [
  | inl t ↦ (let t' : p (f x) ≡ true = same x ∙ t in rw (t', t) refl)
  | inr n ↦ (let n' : p (f x) ≡ false = same x ∙ n in rw (n', n) (find_mapped f p q same xs))
]

-- the row of a test that at most one passes, where it is there
pub has_is : {R : Type 0} (p : R → Bool) (rows : List R) (x : R) (o : Option R) → filter p rows ≡ those o → In x rows → p x ≡ true → o ≡ Some x
has_is p [] x o are i t = absurd i
has_is p (y ∷ rows) x o are (inl e) t =
    let u : p y ≡ true = ap p e ∙ t in
    sym (one_of_those y (filter p rows) o (rw u at are)).0 ∙ ap Some e
has_is p (y ∷ rows) x o are (inr i) t = elim (either (p y)) [
  | inl u ↦ (let bad = has_is p rows x None (one_of_those y (filter p rows) o (rw u at are)).1 i t in absurd (cc bad))
  | inr u ↦ has_is p rows x o (rw u at are) i t
]

-- The keys of the tables.

-- a login and a day
abbrev pub Key : Type 0
Key = List ℕ × ℕ

abbrev pub same_place : Key → Key → Bool
same_place k q = same_text k.0 q.0 && (q.1 == k.1)

pub place_is : (k q : Key) → same_place k q ≡ true → k ≡ q
place_is k q h =
    let l : k.0 ≡ q.0 = text_is k.0 q.0 (first_so (same_text k.0 q.0) _ h) in
    let d : q.1 ≡ k.1 = number_is q.1 k.1 (second_so (same_text k.0 q.0) _ h) in
    λ i. (l i, sym d i)

pub place_itself : (k : Key) → same_place k k ≡ true
place_itself k = rw (text_itself k.0, number_itself k.1) refl

abbrev pub usages : Keyed UsageRecord Key
usages = record { same = same_place; key = λ u. (u.login, u.day); set = set_usage; same_is = place_is; itself = place_itself; stays = λ new was. refl }

abbrev pub limits : Keyed LimitRecord Key
limits = record { same = same_place; key = λ c. (c.login, c.day); set = set_limit; same_is = place_is; itself = place_itself; stays = λ new was. refl }

abbrev pub floors : Keyed RetiredRecord (List ℕ)
floors = record { same = same_text; key = λ r. r.host; set = set_run; same_is = text_is; itself = text_itself; stays = λ new was. refl }

abbrev pub transactions : Keyed TransactionRecord Transaction
transactions = record { same = same_transaction; key = key_of; set = set_transaction; same_is = transaction_is; itself = transaction_itself; stays = λ new was. refl }

-- what is mapped to a row was there
pub mapped_from : {A B : Type 0} (f : A → B) (o : Option A) (y : B) → option_map f o ≡ Some y → (x : A) × (o ≡ Some x) × (f x ≡ y)
mapped_from f None y h = absurd (cc h)
mapped_from f (Some x) y h = (x, refl, cc h)

pub or_none : {A : Type 0} (o : Option A) → option_or o None ≡ o
or_none None = refl
or_none (Some x) = refl
