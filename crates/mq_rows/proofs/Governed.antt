-- The limit that governs a pair, and how it is found by its key.
use Rattle.std.proofs.Common.{◌≡◌, ℕ, pos, List, [], ◌∷◌, ◌++◌, true, false, refl, ◌∙◌, ap, sym, subst, inl, inr, arith, ℤ, ◌≤ℤ◌, ◌<ℤ◌, find, ◌&&◌, int_le, int_lt, if◌then◌else◌, Option, Some, None, option_map, IsSome, BTreeMap, is_eq, is_lt, is_gt, nat_cmp, int_cmp, Bool}
use Rattle.mq_rows.proofs.Words.{Equal, Greater, HasCaps, Less, LimitFigures, Ordering, Pair, all_at, both_parts, cap_or, either, get, governing, ints, is_later, ordering_then, pair_cmp, same_pair, same_text, slice_cmp, text_is, text_itself}
use Rattle.std.specs.BTreeMap.Range.{IsRangeOf}
use Rattle.std.specs.declared.ops.Bound.TheVariants.{Included, Unbounded}
use Rattle.mq_rows.specs.Audit.{is_due}
use Rattle.mq_rows.proofs.Booking.{pair_is, pair_itself, texts_tied}
use Rattle.mq_rows.proofs.Choosing.{Chooses, IsBest, IsNew, best_of}
use Rattle.mq_rows.proofs.Lists.{mapped_from}
use Rattle.mq_ledger.proofs.Basics.{found}

-- Tests of whole numbers.

pub lt_so : (a b : ℤ) → int_lt a b ≡ true → a <ℤ b
lt_so a b h = grind (arith, ints)

pub lt_not : (a b : ℤ) → int_lt a b ≡ false → b ≤ℤ a
lt_not a b h = grind (arith, ints)

le_so : (a b : ℤ) → int_le a b ≡ true → a ≤ℤ b
le_so a b h = grind (arith, ints)

pub so_le : (a b : ℤ) → a ≤ℤ b → int_le a b ≡ true
so_le a b h = grind (arith, ints)

pub not_le : (a b : ℤ) → b <ℤ a → int_le a b ≡ false
not_le a b h = grind (arith, ints)

so_lt : (a b : ℤ) → a <ℤ b → int_lt a b ≡ true
so_lt a b h = grind (arith, ints)

not_lt : (a b : ℤ) → b ≤ℤ a → int_lt a b ≡ false
not_lt a b h = grind (arith, ints)

-- How pairs of one login compare.

level : (l m : List ℕ) → l ≡ m → slice_cmp nat_cmp l m ≡ Equal
level l m e = go (slice_cmp nat_cmp l m) refl
  where
    tied : is_eq (slice_cmp nat_cmp l m) ≡ true
    tied = texts_tied l m ∙ ap (λ x. same_text m x) e ∙ text_itself m

    go : (r : Ordering) → slice_cmp nat_cmp l m ≡ r → slice_cmp nat_cmp l m ≡ Equal
    go Less h = absurd (cc (tied, ap is_eq h))
    go Equal h = h
    go Greater h = absurd (cc (tied, ap is_eq h))

by_day : (p q : Pair) → p.login ≡ q.login → pair_cmp p q ≡ int_cmp p.day q.day
by_day p q e = ap (λ r. ordering_then r (int_cmp p.day q.day)) (level p.login q.login e)

not_after : (a b : ℤ) → is_gt (int_cmp a b) ≡ false → a ≤ℤ b
not_after a b h = elim (either (int_lt a b)) [
  | inl t ↦ (let k : a <ℤ b = lt_so a b t in omega (arith, ints))
  | inr f ↦ elim (either (int_lt b a)) [
    | inl u ↦ (let g : true ≡ false = rw (f, u) at h in absurd (cc g))
    | inr g ↦ lt_not b a g
  ]
]

not_before : (a b : ℤ) → is_lt (int_cmp a b) ≡ false → b ≤ℤ a
not_before a b h = elim (either (int_lt a b)) [
  | inl t ↦ (let g : true ≡ false = rw t at h in absurd (cc g))
  | inr f ↦ lt_not a b f
]

up_to : (a b : ℤ) → a ≤ℤ b → is_gt (int_cmp a b) ≡ false
up_to a b le = elim (either (int_lt a b)) [
  | inl t ↦ rw t refl
  | inr f ↦ elim (either (int_lt b a)) [
    | inl u ↦ (let k : b <ℤ a = lt_so b a u in absurd (omega (arith, ints)))
    | inr g ↦ rw (f, g) refl
  ]
]

-- a pair of a login that comes before another's is before all pairs of that one
before_other : (p q : Pair) → is_gt (pair_cmp p q) ≡ false → (p.login ≡ q.login → ⊥) → slice_cmp nat_cmp p.login q.login ≡ Less
before_other p q h apart = go (slice_cmp nat_cmp p.login q.login) refl
  where
    go : (r : Ordering) → slice_cmp nat_cmp p.login q.login ≡ r → slice_cmp nat_cmp p.login q.login ≡ Less
    go Less e = e
    go Equal e = (let tied : same_text q.login p.login ≡ true = sym (texts_tied p.login q.login) ∙ ap is_eq e in absurd (apart (sym (text_is q.login p.login tied))))
    go Greater e = (let g : true ≡ false = rw e at h in absurd (cc g))

-- The limit that governs.

abbrev pub pick : Pair → Option LimitFigures → LimitFigures → Option LimitFigures
pick p latest c = if is_due p c && is_later latest c then Some c else latest

abbrev pub is_above : LimitFigures → LimitFigures → Bool
is_above c b = int_lt b.pair.day c.pair.day

abbrev pub is_alike : LimitFigures → LimitFigures → Bool
is_alike c d = same_pair c.pair d.pair

chooses : (p : Pair) → Chooses (is_due p) is_above is_alike (pick p)
chooses p = record {
  skip = λ best c f. rw f refl;
  first = λ c t. rw t refl;
  better = λ b c t u. rw (t, u) refl;
  worse = λ b c t g. rw (t, g) refl;
  chain = λ a b c x y. so_lt c.pair.day a.pair.day (omega (arith, ints, lt_so b.pair.day a.pair.day x, lt_so c.pair.day b.pair.day y));
  no_chain = λ a b c x y. not_lt c.pair.day a.pair.day (omega (arith, ints, lt_not b.pair.day a.pair.day x, lt_not c.pair.day b.pair.day y));
  not_itself = λ a. not_lt a.pair.day a.pair.day (omega (arith, ints));
  like_itself = λ a. pair_itself a.pair;
  like_passes = λ a b h. (let e = pair_is a.pair b.pair h in λ i. same_text p.login (e i).login && int_le (e i).day p.day);
  like_beats = λ a b c h. ap (λ (q : Pair). int_lt c.pair.day q.day) (pair_is a.pair b.pair h);
}

-- it is the latest of those that are due, and the first of its pair
abbrev pub IsLatest : Pair → List LimitFigures → Option LimitFigures → Type 0
IsLatest p = IsBest (is_due p) is_above is_alike None

pub governing_is : (p : Pair) (limits : List LimitFigures) → IsLatest p limits (governing p limits)
governing_is p limits = best_of (is_due p) is_above is_alike (pick p) (chooses p) None limits

-- Found by its key.

some_is_some : {X : Type 0} (o : Option X) (x : X) → o ≡ Some x → IsSome o
some_is_some o x h = subst IsSome (sym h) refl

module _ (p : Pair) (limits : List LimitFigures) (m : BTreeMap Pair ℤ) (has : HasCaps limits m) (r : List (Pair × ℤ)) (range : IsRangeOf pair_cmp Unbounded (Included p) m r) where
  due_parts : (c : LimitFigures) → is_due p c ≡ true → (p.login ≡ c.pair.login) × (c.pair.day ≤ℤ p.day)
  due_parts c t = (let b = both_parts (same_text p.login c.pair.login) (int_le c.pair.day p.day) t in (text_is p.login c.pair.login b.0, le_so c.pair.day p.day b.1))

  due_in_range : (c : LimitFigures) → is_due p c ≡ true → is_gt (pair_cmp c.pair p) ≡ false
  due_in_range c t = (let d = due_parts c t in ap is_gt (by_day c.pair p (sym d.0)) ∙ up_to c.pair.day p.day d.1)

  new_is_there : (c : LimitFigures) → IsNew (is_due p) is_above is_alike None limits c → get pair_cmp m c.pair ≡ Some c.cap
  new_is_there c n = has c.pair ∙ ap (option_map (λ (x : LimitFigures). x.cap)) n.first

  none_there : r ≡ [] → (g : Option LimitFigures) → IsLatest p limits g → g ≡ None
  none_there empty None best = refl
  none_there empty (Some g) best = elim best.0 [
    | inl e ↦ absurd (cc e)
    | inr n ↦ (let gone : get pair_cmp m g.pair ≡ None = range.5 empty g.pair (tt, due_in_range g n.passing) in absurd (cc (gone, new_is_there g n)))
  ]

  pub nothing_due : (default : ℕ) → r ≡ [] → pos default ≡ cap_or default (governing p limits)
  nothing_due default empty = sym (ap (cap_or default) (none_there empty (governing p limits) (governing_is p limits)))

  module _ (e : Pair × ℤ) (t : List (Pair × ℤ)) (last : r ≡ t ++ e ∷ []) where
    another_login : (e.0.login ≡ p.login → ⊥) → (g : Option LimitFigures) → IsLatest p limits g → g ≡ None
    another_login apart None best = refl
    another_login apart (Some g) best = elim best.0 [
      | inl x ↦ absurd (cc x)
      | inr n ↦ (let low = before_other e.0 p (range.3 e t last).0.1 apart in
          let d = due_parts g n.passing in
          let not_less : is_lt (pair_cmp e.0 g.pair) ≡ false = range.4 e t last g.pair (tt, due_in_range g n.passing) (some_is_some _ g.cap (new_is_there g n)) in
          let less : slice_cmp nat_cmp e.0.login g.pair.login ≡ Less = ap (slice_cmp nat_cmp e.0.login) (sym d.0) ∙ low in
          let k : true ≡ false = rw less at not_less in
          absurd (cc k))
    ]

    pub other_login : (default : ℕ) → (e.0.login ≡ p.login → ⊥) → pos default ≡ cap_or default (governing p limits)
    other_login default apart = sym (ap (cap_or default) (another_login apart (governing p limits) (governing_is p limits)))

    due_at : (c : LimitFigures) → e.0.login ≡ p.login → e.0 ≡ c.pair → is_due p c ≡ true
    due_at c same at =
        let l : c.pair.login ≡ p.login = ap (λ (q : Pair). q.login) (sym at) ∙ same in
        let d : e.0.day ≡ c.pair.day = ap (λ (q : Pair). q.day) at in
        let le : e.0.day ≤ℤ p.day = not_after e.0.day p.day (ap is_gt (sym (by_day e.0 p same)) ∙ (range.3 e t last).0.1) in
        let le' : int_le c.pair.day p.day ≡ true = so_le c.pair.day p.day (omega (arith, ints, le, d)) in
        rw (l, text_itself p.login, le') refl

    own : (default : ℕ) → e.0.login ≡ p.login → (c : LimitFigures) → find (λ x. same_pair e.0 x.pair) limits ≡ Some c → c.cap ≡ e.1 → (g : Option LimitFigures) → IsLatest p limits g → e.1 ≡ cap_or default g
    own default same c there cap_is None best =
        let f = found (λ x. same_pair e.0 x.pair) limits c there in
        let due : is_due p c ≡ true = due_at c same (pair_is e.0 c.pair f.1) in
        let not_due : is_due p c ≡ false = all_at (λ x. is_due p x ≡ false) limits c best.1 f.0 in
        absurd (cc (due, not_due))
    own default same c there cap_is (Some g) best = elim best.0 [
      | inl x ↦ absurd (cc x)
      | inr n ↦ (let f = found (λ x. same_pair e.0 x.pair) limits c there in
          let at : e.0 ≡ c.pair = pair_is e.0 c.pair f.1 in
          let d = due_parts g n.passing in
          let below : c.pair.day ≤ℤ g.pair.day = lt_not g.pair.day c.pair.day (all_at (λ o. is_due p o ≡ true → is_above o g ≡ false) limits c best.1 f.0 (due_at c same at)) in
          let not_less : is_lt (pair_cmp e.0 g.pair) ≡ false = range.4 e t last g.pair (tt, due_in_range g n.passing) (some_is_some _ g.cap (new_is_there g n)) in
          let above : g.pair.day ≤ℤ e.0.day = not_before e.0.day g.pair.day (ap is_lt (sym (by_day e.0 g.pair (same ∙ d.0))) ∙ not_less) in
          let day : e.0.day ≡ c.pair.day = ap (λ (q : Pair). q.day) at in
          let k : g.pair.day ≡ e.0.day = omega (arith, ints, below, above, day) in
          let l : g.pair.login ≡ e.0.login = sym (same ∙ d.0) in
          let one : g.pair ≡ e.0 = λ i. record { login = l i; day = k i } in
          let here : find (λ x. same_pair e.0 x.pair) limits ≡ Some g = subst (λ (q : Pair). find (λ x. same_pair q x.pair) limits ≡ Some g) one n.first in
          let same_limit : c ≡ g = cc (there, here) in
          sym cap_is ∙ ap (λ (x : LimitFigures). x.cap) same_limit)
    ]

    pub own_login : (default : ℕ) → e.0.login ≡ p.login → e.1 ≡ cap_or default (governing p limits)
    own_login default same =
        let it : option_map (λ (x : LimitFigures). x.cap) (find (λ x. same_pair e.0 x.pair) limits) ≡ Some e.1 = sym (has e.0) ∙ (range.3 e t last).1 in
        let c = mapped_from (λ (x : LimitFigures). x.cap) (find (λ x. same_pair e.0 x.pair) limits) e.1 it in
        own default same c.0 c.1 c.2 (governing p limits) (governing_is p limits)
