use Rattle.std.proofs.Common.{◌≡◌, ◌∙◌, ℤ, Bool, refl, arith, to_z, of_z, w64}
use Rattle.mq_rows.proofs.Words.{Sums, day_of, ints, is_moment_of}
use Rattle.mq_rows.proofs.books.Sums.with.Goals as goal

abbrev sums : ℤ → ℤ → Bool → Sums
sums a b d = record { settled = a; held = b; are_dated = d }

alike : (a b a' b' : ℤ) (d d' : Bool) → a ≡ a' → b ≡ b' → d ≡ d' → sums a b d ≡ sums a' b' d'
alike a b a' b' d d' p q r = λ i. sums (p i) (q i) (r i)

pub returns-then-self : goal.returns-then-self
returns-then-self c =
    let t = c.args.row.now in
    let d : to_z w64 (of_z w64 t.pair.day) ≡ t.pair.day = omega (arith, ints) in
    let m : to_z w64 (of_z w64 t.moment) ≡ t.moment = omega (arith, ints) in
    alike _ _ _ _ _ _ (omega (arith, ints, c.in_ok-checked_add.ensures.1)) (omega (arith, ints, c.in_ok-checked_add-2.ensures.1)) (rw c.if-self.true (c.is_moment_of.ensures ∙ (λ i. is_moment_of (day_of c.args.zone) (d i) (m i))))

pub returns-else-self : goal.returns-else-self
returns-else-self c = alike _ _ _ _ _ _ (omega (arith, ints, c.in_ok-checked_add.ensures.1)) (omega (arith, ints, c.in_ok-checked_add-2.ensures.1)) (rw c.if-self.false refl)
