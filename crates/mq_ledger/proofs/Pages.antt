-- The logins of a day in byte order, and their pages.
use Rattle.mq_ledger.proofs.Words.{AllByRecursion, Entry, In, IsAscending, List, None, Option, Some, UsageRow, [], all_at, all_of, ap, append-nil, append_assoc, arith, below, either, false, filter, filter-append, filter_map-append, fold, fold_push, if◌then◌else◌, in_filter, inl, inr, login_on}
use Rattle.mq_ledger.proofs.Words.{logins_above, logins_on, map, nearer, page, refl, slice_get, some_is, some_none, subst, suc, sym, take, true, zero, ℕ, ◌++◌, ◌+◌, ◌-◌, ◌<◌, ◌∙◌, ◌∷◌, ◌≡◌, ◌⊎◌}
use Rattle.std.specs.Ordering.{nat_cmp, is_lt, eq_by_cmp, ordering_reverse}
use Rattle.std.specs.Cmp.{IsTotalOrder}
use Rattle.std.specs.Cmp.Lexicographic.{slice_cmp, texts_ties, bytes_decides}
use Rattle.std.specs.declared.cmp.Ordering.{Ordering}
use Rattle.std.specs.declared.cmp.Ordering.TheVariants.{Less, Equal, Greater}
use Rattle.std.proofs.lemmas.Cmp.{nat_list_cmp_total}
use Rattle.mq_ledger.specs.Page.{put, ascending}
use Rattle.mq_ledger.proofs.Basics.{filter_in}

-- Byte order.

pub order : IsTotalOrder (slice_cmp nat_cmp)
order = nat_list_cmp_total

pub lt_is : (c : Ordering) → is_lt c ≡ true → c ≡ Less
lt_is Less h = refl
lt_is Equal h = cc
lt_is Greater h = cc

pub below_trans : (a b c : List ℕ) → below a b ≡ true → below b c ≡ true → below a c ≡ true
below_trans a b c h g = ap is_lt (order.trans a b c (lt_is _ h) (lt_is _ g))

pub same_order : (a b : List ℕ) → slice_cmp nat_cmp a b ≡ Equal → a ≡ b
same_order a b h = (let e : eq_by_cmp (slice_cmp nat_cmp) a b ≡ true = rw h refl in (bytes_decides a b).0 (texts_ties a b ∙ e))

-- of two logins one is below the other, or they are one
pub data Order (a b : List ℕ) : Type 0 where
  Before : below a b ≡ true → Order a b
  Same : a ≡ b → Order a b
  After : below b a ≡ true → Order a b

pub order_by : (a b : List ℕ) (c : Ordering) → slice_cmp nat_cmp a b ≡ c → Order a b
order_by a b Less h = Before (ap is_lt h)
order_by a b Equal h = Same (same_order a b h)
order_by a b Greater h = After (ap is_lt (order.antisymm b a ∙ ap ordering_reverse h))

pub ordered : (a b : List ℕ) → Order a b
ordered a b = order_by a b _ refl

not_itself : (c : Ordering) → c ≡ ordering_reverse c → is_lt c ≡ true → ⊥
not_itself Less e h = cc
not_itself Equal e h = cc
not_itself Greater e h = cc

pub not_below_itself : (a : List ℕ) → below a a ≡ true → ⊥
not_below_itself a h = not_itself (slice_cmp nat_cmp a a) (order.antisymm a a) h

not_both : (a b : List ℕ) → below a b ≡ true → below b a ≡ true → ⊥
not_both a b h g = not_below_itself a (below_trans a b a h g)

-- A login put in its place.

pub put_there : (ms : List (List ℕ)) (l : List ℕ) → In l (put ms l)
put_there [] l = inl refl
put_there (m ∷ ms) l = elim (either (below l m)) [
  | inl t ↦ rw t (inl refl)
  | inr f ↦ elim (either (below m l)) [
    | inl t ↦ rw (f, t) (inr (put_there ms l))
    | inr g ↦ rw (f, g) (inl (not_apart (ordered m l) f g))
  ]
] where
  not_apart : Order m l → below l m ≡ false → below m l ≡ false → m ≡ l
  not_apart (Before h) f g = cc
  not_apart (Same e) f g = e
  not_apart (After h) f g = cc

pub put_keeps : (ms : List (List ℕ)) (l x : List ℕ) → In x ms → In x (put ms l)
put_keeps [] l x i = absurd i
put_keeps (m ∷ ms) l x i = elim (either (below l m)) [
  | inl t ↦ rw t (inr i)
  | inr f ↦ elim (either (below m l)) [
    | inr g ↦ rw (f, g) i
    | inl t ↦ rw (f, t) (elim i [ inl e ↦ inl e | inr j ↦ inr (put_keeps ms l x j) ])
  ]
]

pub put_adds : (ms : List (List ℕ)) (l x : List ℕ) → In x (put ms l) → (l ≡ x) ⊎ In x ms
put_adds [] l x (inl e) = inl e
put_adds [] l x (inr i) = absurd i
put_adds (m ∷ ms) l x i = elim (either (below l m)) [
  | inl t ↦ rw t at i
  | inr f ↦ elim (either (below m l)) [
    | inr g ↦ inr (rw (f, g) at i)
    | inl t ↦ (let j : (m ≡ x) ⊎ In x (put ms l) = rw (f, t) at i in elim j [
      | inl e ↦ inr (inl e)
      | inr k ↦ elim (put_adds ms l x k) [ inl e ↦ inl e | inr w ↦ inr (inr w) ]
    ])
  ]
]

pub put_ascending : (ms : List (List ℕ)) (l : List ℕ) → IsAscending ms → IsAscending (put ms l)
put_ascending [] l up = (tt, tt)
put_ascending (m ∷ ms) l up = elim (either (below l m)) [
  | inl t ↦ rw t ((t, all_of (λ x. below l x ≡ true) ms (λ x i. below_trans l m x t (all_at (λ x. below m x ≡ true) ms x up.0 i))), up)
  | inr f ↦ elim (either (below m l)) [
    | inr g ↦ rw (f, g) up
    | inl t ↦ rw (f, t) (
      all_of (λ x. below m x ≡ true) (put ms l) (λ x i. elim (put_adds ms l x i) [
        | inl e ↦ (let P : List ℕ → Type 0 = λ y. below m y ≡ true in subst P e t)
        | inr j ↦ all_at (λ x. below m x ≡ true) ms x up.0 j
      ]),
      put_ascending ms l up.1,
    )
  ]
]

-- the first of them, with one more login
pub head_put : (ms : List (List ℕ)) (l : List ℕ) → slice_get (put ms l) 0 ≡ Some (nearer (slice_get ms 0) l)
head_put [] l = refl
head_put (m ∷ ms) l = elim (either (below l m)) [
  | inl t ↦ rw t refl
  | inr f ↦ elim (either (below m l)) [ inl t ↦ rw (f, t) refl | inr g ↦ rw (f, g) refl ]
]

-- Ascending logins.

fold_ascending : (ms ls : List (List ℕ)) → IsAscending ms → IsAscending (fold put ms ls)
fold_ascending ms [] up = up
fold_ascending ms (l ∷ ls) up = fold_ascending (put ms l) ls (put_ascending ms l up)

fold_keeps : (ms ls : List (List ℕ)) (x : List ℕ) → In x ms ⊎ In x ls → In x (fold put ms ls)
fold_keeps ms [] x (inl i) = i
fold_keeps ms [] x (inr i) = absurd i
fold_keeps ms (l ∷ ls) x (inl i) = fold_keeps (put ms l) ls x (inl (put_keeps ms l x i))
fold_keeps ms (l ∷ ls) x (inr (inl e)) = fold_keeps (put ms l) ls x (inl (let P : List ℕ → Type 0 = λ y. In y (put ms l) in subst P e (put_there ms l)))
fold_keeps ms (l ∷ ls) x (inr (inr i)) = fold_keeps (put ms l) ls x (inr i)

fold_adds : (ms ls : List (List ℕ)) (x : List ℕ) → In x (fold put ms ls) → In x ms ⊎ In x ls
fold_adds ms [] x i = inl i
fold_adds ms (l ∷ ls) x i = elim (fold_adds (put ms l) ls x i) [
  | inr j ↦ inr (inr j)
  | inl j ↦ elim (put_adds ms l x j) [ inl e ↦ inr (inl e) | inr k ↦ inl k ]
]

-- two ascending lists of the same logins are one
tail_in : (x y z : List ℕ) (xs ys : List (List ℕ)) → x ≡ y → AllByRecursion (λ m. below x m ≡ true) xs → In z xs → In z (y ∷ ys) → In z ys
tail_in x y z xs ys same up i (inr j) = j
tail_in x y z xs ys same up i (inl e) = absurd (not_below_itself x (let P : List ℕ → Type 0 = λ w. below x w ≡ true in subst P (sym (same ∙ e)) (all_at (λ m. below x m ≡ true) xs z up i)))

heads_same : (x y : List ℕ) (xs ys : List (List ℕ)) → IsAscending (x ∷ xs) → IsAscending (y ∷ ys) → In x (y ∷ ys) → In y (x ∷ xs) → x ≡ y
heads_same x y xs ys up up' (inl e) j = sym e
heads_same x y xs ys up up' (inr i) (inl e) = e
heads_same x y xs ys up up' (inr i) (inr j) = absurd (not_both x y (all_at (λ m. below x m ≡ true) xs y up.0 j) (all_at (λ m. below y m ≡ true) ys x up'.0 i))

pub same_ascending : (xs ys : List (List ℕ)) → IsAscending xs → IsAscending ys → ((z : List ℕ) → In z xs → In z ys) → ((z : List ℕ) → In z ys → In z xs) → xs ≡ ys
same_ascending [] [] up up' h g = refl
same_ascending [] (y ∷ ys) up up' h g = absurd (g y (inl refl))
same_ascending (x ∷ xs) [] up up' h g = absurd (h x (inl refl))
same_ascending (x ∷ xs) (y ∷ ys) up up' h g =
    let e : x ≡ y = heads_same x y xs ys up up' (h x (inl refl)) (g y (inl refl)) in
    let rest : xs ≡ ys = same_ascending xs ys up.1 up'.1
    (λ z i. tail_in x y z xs ys e up.0 i (h z (inr i)))
    (λ z i. tail_in y x z ys xs (sym e) up'.0 i (g z (inr i))) in
    λ i. e i ∷ rest i

-- The logins of a day above one.

pub above_ascending : (day : ℕ → ℕ) (H : List Entry) (d : ℕ) (after : List ℕ) → IsAscending (logins_above day H d after)
unfolding logins_above
above_ascending day H d after = fold_ascending [] (filter (below after) (logins_on day H d)) tt

pub record IsAbove (day : ℕ → ℕ) (H : List Entry) (d : ℕ) (after l : List ℕ) : Type 0 where
  pub above : below after l ≡ true
  pub there : In l (logins_on day H d)

pub above_in : (day : ℕ → ℕ) (H : List Entry) (d : ℕ) (after l : List ℕ) → IsAbove day H d after l → In l (logins_above day H d after)
unfolding logins_above
above_in day H d after l h = fold_keeps [] (filter (below after) (logins_on day H d)) l (inr (in_filter (below after) (logins_on day H d) l h.there h.above))

pub in_above : (day : ℕ → ℕ) (H : List Entry) (d : ℕ) (after l : List ℕ) → In l (logins_above day H d after) → IsAbove day H d after l
unfolding logins_above
in_above day H d after l i = elim (fold_adds [] (filter (below after) (logins_on day H d)) l i) [
  | inl none ↦ absurd none
  | inr j ↦ (let k = filter_in (below after) (logins_on day H d) l j in record { above = k.1; there = k.0 })
]

-- after the first of them stand those above it
pub above_first : (day : ℕ → ℕ) (H : List Entry) (d : ℕ) (after m : List ℕ) (ms : List (List ℕ)) → logins_above day H d after ≡ m ∷ ms → logins_above day H d m ≡ ms
above_first day H d after m ms h =
    let all : List (List ℕ) = logins_above day H d after in
    let up : IsAscending (m ∷ ms) = subst IsAscending h (above_ascending day H d after) in
    let into : (z : List ℕ) → In z (m ∷ ms) → In z all = λ z i. (let P : List (List ℕ) → Type 0 = λ ls. In z ls in subst P (sym h) i) in
    let out : (z : List ℕ) → In z all → In z (m ∷ ms) = λ z i. (let P : List (List ℕ) → Type 0 = λ ls. In z ls in subst P h i) in
    let first = in_above day H d after m (into m (inl refl)) in
    same_ascending (logins_above day H d m) ms (above_ascending day H d m) up.1
    (λ z i. (let z_is = in_above day H d m z i in
    elim (out z (above_in day H d after z (record { above = below_trans after m z first.above z_is.above; there = z_is.there }))) [
      | inr j ↦ j
      | inl e ↦ absurd (not_below_itself m (let P : List ℕ → Type 0 = λ w. below m w ≡ true in subst P (sym e) z_is.above))
    ]))
    (λ z i. above_in day H d m z (record { above = all_at (λ x. below m x ≡ true) ms z up.0 i; there = (in_above day H d after z (into z (inr i))).there }))

-- with one more entry
abbrev put_above : List ℕ → List (List ℕ) → Option (List ℕ) → List (List ℕ)
put_above after ms None = ms
put_above after ms (Some l) = if below after l then put ms l else ms

above_push_by : (day : ℕ → ℕ) (H : List Entry) (d : ℕ) (after : List ℕ) (e : Entry) (o : Option (List ℕ)) → login_on day d e.request e.reply ≡ o → logins_above day (H ++ e ∷ []) d after ≡ put_above after (logins_above day H d after) o
unfolding logins_above
above_push_by day H d after e None h =
    let f = λ (x : Entry). login_on day d x.request x.reply in
    let same : logins_on day (H ++ e ∷ []) d ≡ logins_on day H d = filter_map-append f H (e ∷ []) ∙ rw h (append-nil (logins_on day H d)) in
    ap (λ ls. ascending (filter (below after) ls)) same
above_push_by day H d after e (Some l) h =
    let f = λ (x : Entry). login_on day d x.request x.reply in
    let more : logins_on day (H ++ e ∷ []) d ≡ logins_on day H d ++ l ∷ [] = filter_map-append f H (e ∷ []) ∙ rw h refl in
    ap (λ ls. ascending (filter (below after) ls)) more ∙ ap ascending (filter-append (below after) (logins_on day H d) (l ∷ [])) ∙ elim (either (below after l)) [
      | inl t ↦ rw t (fold_push put [] (filter (below after) (logins_on day H d)) l)
      | inr g ↦ rw g (ap ascending (append-nil (filter (below after) (logins_on day H d))))
    ]

-- the first login above `after`, with one more entry
pub head_push_none : (day : ℕ → ℕ) (H : List Entry) (d : ℕ) (after : List ℕ) (e : Entry) → login_on day d e.request e.reply ≡ None → slice_get (logins_above day (H ++ e ∷ []) d after) 0 ≡ slice_get (logins_above day H d after) 0
head_push_none day H d after e h = ap (λ (ls : List (List ℕ)). slice_get ls 0) (above_push_by day H d after e None h)

pub head_push_not_above : (day : ℕ → ℕ) (H : List Entry) (d : ℕ) (after : List ℕ) (e : Entry) (l : List ℕ) → login_on day d e.request e.reply ≡ Some l → below after l ≡ false → slice_get (logins_above day (H ++ e ∷ []) d after) 0 ≡ slice_get (logins_above day H d after) 0
head_push_not_above day H d after e l h f = ap (λ (ls : List (List ℕ)). slice_get ls 0) (above_push_by day H d after e (Some l) h ∙ rw f refl)

pub head_push_above : (day : ℕ → ℕ) (H : List Entry) (d : ℕ) (after : List ℕ) (e : Entry) (l : List ℕ) → login_on day d e.request e.reply ≡ Some l → below after l ≡ true → slice_get (logins_above day (H ++ e ∷ []) d after) 0 ≡ Some (nearer (slice_get (logins_above day H d after) 0) l)
head_push_above day H d after e l h t = ap (λ (ls : List (List ℕ)). slice_get ls 0) (above_push_by day H d after e (Some l) h ∙ rw t refl) ∙ head_put (logins_above day H d after) l

-- From login to login.

no_head : (ls : List (List ℕ)) → slice_get ls 0 ≡ None → ls ≡ []
no_head [] h = refl
no_head (l ∷ ls) h = absurd (some_none l h)

above_next : (day : ℕ → ℕ) (H : List Entry) (d : ℕ) (after l : List ℕ) (ls : List (List ℕ)) → logins_above day H d after ≡ ls → slice_get ls 0 ≡ Some l → logins_above day H d after ≡ l ∷ logins_above day H d l
above_next day H d after l [] e h = absurd (some_none l (sym h))
above_next day H d after l (m ∷ ms) e h =
    let same : m ≡ l = some_is m l h in
    let first : logins_above day H d after ≡ l ∷ ms = e ∙ ap (λ (x : List ℕ). x ∷ ms) same in
    first ∙ ap (λ (xs : List (List ℕ)). l ∷ xs) (sym (above_first day H d after l ms first))

-- the rows of the first n logins above `after`
abbrev pub rows_of : (List ℕ → UsageRow) → (ℕ → ℕ) → List Entry → ℕ → ℕ → List ℕ → List UsageRow
rows_of f day H d n after = map f (take n (logins_above day H d after))

pub rows_end : (f : List ℕ → UsageRow) (day : ℕ → ℕ) (H : List Entry) (d n : ℕ) (after : List ℕ) (out all : List UsageRow) → out ++ rows_of f day H d n after ≡ all → slice_get (logins_above day H d after) 0 ≡ None → out ≡ all
rows_end f day H d n after out all h none =
    let nothing : rows_of f day H d n after ≡ [] = ap (λ (ls : List (List ℕ)). map f (take n ls)) (no_head _ none) ∙ nothing_of n in
    sym (append-nil out) ∙ ap (λ (rs : List UsageRow). out ++ rs) (sym nothing) ∙ h
  where
    nothing_of : (n : ℕ) → map f (take n []) ≡ []
    nothing_of zero = refl
    nothing_of (suc n) = refl

pub rows_more : (f : List ℕ → UsageRow) (day : ℕ → ℕ) (H : List Entry) (d i : ℕ) (after l : List ℕ) (out all : List UsageRow) → i < 100 → out ++ rows_of f day H d (100 - i) after ≡ all → slice_get (logins_above day H d after) 0 ≡ Some l → (out ++ f l ∷ []) ++ rows_of f day H d (100 - (i + 1)) l ≡ all
rows_more f day H d i after l out all lt h some =
    let k : 100 - i ≡ suc (100 - (i + 1)) = omega arith in
    let one : rows_of f day H d (100 - i) after ≡ f l ∷ rows_of f day H d (100 - (i + 1)) l =
    ap (λ n. rows_of f day H d n after) k ∙ ap (λ (ls : List (List ℕ)). map f (take (suc (100 - (i + 1))) ls)) (above_next day H d after l _ refl some) in
    append_assoc out (f l ∷ []) (rows_of f day H d (100 - (i + 1)) l) ∙ ap (λ (rs : List UsageRow). out ++ rs) (sym one) ∙ h

pub rows_all : (f : List ℕ → UsageRow) (day : ℕ → ℕ) (H : List Entry) (d i : ℕ) (after : List ℕ) (out all : List UsageRow) → 100 ≡ i → out ++ rows_of f day H d (100 - i) after ≡ all → out ≡ all
rows_all f day H d i after out all e h =
    let k : 100 - i ≡ 0 = omega arith in
    sym (append-nil out) ∙ sym (ap (λ n. out ++ rows_of f day H d n after) k) ∙ h

pub rows_page : (f : List ℕ → UsageRow) (day : ℕ → ℕ) (H : List Entry) (d : ℕ) (after : List ℕ) → rows_of f day H d 100 after ≡ map f (page day H d after)
unfolding page
rows_page f day H d after = refl
