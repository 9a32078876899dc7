-- The least of the pairs that aren't right.
use Rattle.std.proofs.Common.{◌≡◌, List, Bool, true, false, refl, ◌∙◌, ap, sym, subst, inl, inr, Option, Some, None, Contains, is_lt, is_gt, not}
use Rattle.mq_rows.proofs.Words.{AllByRecursion, Equal, Greater, In, Less, Ordering, Pair, all_at, all_of, is_before, least_wrong, less_wrong, ordering_reverse, pair_cmp, pair_cmp_total, same_pair, tied_itself, upto}
use Rattle.mq_lemmas.proofs.Booleans.{is_not, not_false}
use Rattle.mq_rows.proofs.Choosing.{Chooses, IsBest, best_of}
use Rattle.mq_lemmas.proofs.Lists.{in_contains}
use Rattle.mq_rows.proofs.Booking.{pair_is, pair_itself}
use Rattle.mq_ledger.proofs.Basics.{found}

-- The order of pairs.

before_so : (p q : Pair) → is_before p q ≡ true → pair_cmp p q ≡ Less
before_so p q h = go (pair_cmp p q) refl
  where
    go : (r : Ordering) → pair_cmp p q ≡ r → pair_cmp p q ≡ Less
    go Less e = e
    go Equal e = absurd (cc (h, ap is_lt e))
    go Greater e = absurd (cc (h, ap is_lt e))

before_both : (p q r : Pair) → is_before p q ≡ true → is_before q r ≡ true → is_before p r ≡ true
before_both p q r h k = ap is_lt (pair_cmp_total.trans p q r (before_so p q h) (before_so q r k))

not_itself : (p : Pair) → is_before p p ≡ false
not_itself p = ap is_lt (tied_itself pair_cmp_total p)

turned : (r : Ordering) → is_lt (ordering_reverse r) ≡ is_gt r
turned Less = refl
turned Equal = refl
turned Greater = refl

after_is_not_before : (p q : Pair) → is_before p q ≡ is_gt (pair_cmp q p)
after_is_not_before p q = ap is_lt (pair_cmp_total.antisymm p q) ∙ turned (pair_cmp q p)

not_before_both : (p q r : Pair) → is_before p q ≡ false → is_before q r ≡ false → is_before p r ≡ false
not_before_both p q r h k = after_is_not_before p r ∙ upto pair_cmp_total r q p (sym (after_is_not_before q r) ∙ k) (sym (after_is_not_before p q) ∙ h)

over : (right : Pair → Bool) (least : Option Pair) (p : Pair) → right p ≡ true → less_wrong right least p ≡ least
over right None p t = rw t refl
over right (Some q) p t = rw t refl

module _ (right : Pair → Bool) where
  abbrev is_wrong : Pair → Bool
  is_wrong p = not (right p)

  chooses : Chooses is_wrong is_before same_pair (less_wrong right)
  chooses = record {
    skip = λ least p f. over right least p (not_false (right p) f);
    first = λ p t. rw (is_not (right p) t) refl;
    better = λ q p t u. rw (is_not (right p) t, u) refl;
    worse = λ q p t g. rw (is_not (right p) t, g) refl;
    chain = before_both;
    no_chain = not_before_both;
    not_itself = not_itself;
    like_itself = pair_itself;
    like_passes = λ p q h. ap is_wrong (pair_is p q h);
    like_beats = λ p q r h. ap (λ x. is_before x r) (pair_is p q h);
  }

  scanned : (ps : List Pair) → IsBest is_wrong is_before same_pair None ps (least_wrong right None ps)
  scanned ps = best_of is_wrong is_before same_pair (less_wrong right) chooses None ps

  -- where others are among those that were scanned, and those among them
  module _ (ps qs : List Pair) (into : (p : Pair) → In p ps → In p qs) (back : (p : Pair) → In p qs → In p ps) where
    pub all_right : None ≡ least_wrong right None ps → AllByRecursion (λ p. right p ≡ true) qs
    all_right is =
        let all = (subst (IsBest is_wrong is_before same_pair None ps) (sym is) (scanned ps)).1 in
        all_of (λ p. right p ≡ true) qs (λ p i. not_false (right p) (all_at (λ p. is_wrong p ≡ false) ps p all (back p i)))

    pub least_of : (p : Pair) → Some p ≡ least_wrong right None ps → Contains qs p × (right p ≡ false) × AllByRecursion (λ q. right q ≡ false → is_before q p ≡ false) qs
    least_of p is =
        let it = subst (IsBest is_wrong is_before same_pair None ps) (sym is) (scanned ps) in
        elim it.0 [
          | inl e ↦ absurd (cc e)
          | inr n ↦ (
            in_contains qs p (into p (found (same_pair p) ps p n.first).0),
            is_not (right p) n.passing,
            all_of (λ q. right q ≡ false → is_before q p ≡ false) qs (λ q j f. all_at (λ q. is_wrong q ≡ true → is_before q p ≡ false) ps q it.1 (back q j) (ap not f)),
          )
        ]
