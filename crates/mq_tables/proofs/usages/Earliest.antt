-- One row more, and the earliest day past a cap so far.
use Rattle.std.proofs.Common.{◌≡◌, ℕ, ◌≤◌, ◌<◌, nat_le, List, [], ◌∷◌, ◌++◌, Bool, true, false, true≢false, Option, Some, None, arith, refl, sym, ◌∙◌}
use Rattle.mq_tables.proofs.Words.{Row, all-append, all_weaker, leb-false, leb-true}
use Rattle.std.specs.Prelude.{if◌then◌else◌}
use Rattle.sqlite_rules.proofs.ListLemmas.{has_last, has_left}
use Rattle.mq_tables.specs.declared.over.DayTotals.{DayTotals}
use Rattle.mq_tables.specs.Over.{is_past, earlier, IsTotalsShown, IsEarliest}

module _ (cap : ℕ) (row : Row) (d : DayTotals) (shown : IsTotalsShown row d) where
  -- a row that shows no more than the cap changes nothing
  at_most : (xs : List Row) (first : Option DayTotals) → is_past cap d ≡ false → IsEarliest cap xs first → IsEarliest cap (xs ++ row ∷ []) first
  at_most xs None low each = all-append _ xs (row ∷ []) each ((d, shown, low), tt)
  at_most xs (Some f) low (there, past, each) =
      ((there.0, has_left xs (row ∷ []) there.0 there.1, there.2), past, all-append _ xs (row ∷ []) each ((d, shown, λ hit. absurd (true≢false (sym hit ∙ low))), tt))

  first_past : (xs : List Row) → is_past cap d ≡ true → IsEarliest cap xs None → IsEarliest cap (xs ++ row ∷ []) (Some d)
  first_past xs past each = (
    (row, has_last _ xs row refl, shown),
    past,
    all-append _ xs (row ∷ []) (all_weaker _ _ (λ r it. (it.0, it.1, λ hit. absurd (true≢false (sym hit ∙ it.2)))) xs each) ((d, shown, λ _. omega arith), tt),
  )

  later : (xs : List Row) (f : DayTotals) → f.day ≤ d.day → IsEarliest cap xs (Some f) → IsEarliest cap (xs ++ row ∷ []) (Some f)
  later xs f low (there, past, each) = ((there.0, has_left xs (row ∷ []) there.0 there.1, there.2), past, all-append _ xs (row ∷ []) each ((d, shown, λ _. low), tt))

  sooner : (xs : List Row) (f : DayTotals) → is_past cap d ≡ true → d.day < f.day → IsEarliest cap xs (Some f) → IsEarliest cap (xs ++ row ∷ []) (Some d)
  sooner xs f past low (there, was, each) = (
    (row, has_last _ xs row refl, shown),
    past,
    all-append _ xs (row ∷ []) (all_weaker _ _ (λ r it. (it.0, it.1, λ hit. let e = it.2 hit in omega (arith, e, low))) xs each) ((d, shown, λ _. omega arith), tt),
  )

  pub one_more : (xs : List Row) (first : Option DayTotals) → IsEarliest cap xs first → IsEarliest cap (xs ++ row ∷ []) (earlier cap d first)
  one_more xs None so = go (is_past cap d) refl
    where
      go : (b : Bool) → is_past cap d ≡ b → IsEarliest cap (xs ++ row ∷ []) (if b then Some d else None)
      go true is = first_past xs is so
      go false is = at_most xs None is so
  one_more xs (Some f) so = go (is_past cap d) refl
    where
      pick : (b : Bool) → nat_le f.day d.day ≡ b → is_past cap d ≡ true → IsEarliest cap (xs ++ row ∷ []) (if b then Some f else Some d)
      pick true is past = later xs f (leb-true f.day d.day is) so
      pick false is past = sooner xs f past (leb-false f.day d.day is) so

      go : (b : Bool) → is_past cap d ≡ b → IsEarliest cap (xs ++ row ∷ []) (if b then (if nat_le f.day d.day then Some f else Some d) else Some f)
      go true is = pick (nat_le f.day d.day) refl is
      go false is = at_most xs (Some f) is so
