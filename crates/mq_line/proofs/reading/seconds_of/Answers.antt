use Rattle.std.proofs.Common.{◌≡◌, ℕ, get_or, true, sym, ap, ◌∙◌, arith, inl, inr}
use Rattle.std.specs.Prelude.{Some}
use Rattle.std.specs.Char.{is_ascii_digit}
use Rattle.std.proofs.lemmas.Bool.{ne_eqb}
use Rattle.mq_line.proofs.TimeLaws.{fraction_behind, no_fraction_behind, no_digit_before, other_at, digits_only, value_more, digits_push, seconds_fit}
use Rattle.mq_line.proofs.reading.seconds_of.Goals as goal
use Rattle.mq_line.proofs.reading.seconds_of.Goals.{else-place-gt0-via-then-place-gt0+else-is_fraction, else-place-gt0-via-else-place-gt0}
use Rattle.mq_line.proofs.reading.seconds_of.Goals.{then-place-eq-MAX_SECOND_DIGITS-via-then-place-eq-MAX_SECOND_DIGITS, then-place-eq-MAX_SECOND_DIGITS-via-else-place-eq-MAX_SECOND_DIGITS+then-not-is_ascii_digit}

pub returns-then-is_fraction : goal.returns-then-is_fraction
returns-then-is_fraction c =
    let so_far = c.loop-place.invariant in
    sym (fraction_behind _ _ c.loop-place-test.true c.if-byte-eq46.true so_far.digits c.if-place-gt0.true so_far.few (sym c.is_fraction.ensures ∙ c.if-is_fraction.true) ∙ ap (λ (n : ℕ). Some n) (sym so_far.value))

pub returns-else-place-gt0 : goal.returns-else-place-gt0
returns-else-place-gt0 c =
    let so_far = c.loop-place.invariant in
    elim c.else-place-gt0.branch [
      | else-place-gt0-via-then-place-gt0+else-is_fraction w ↦ sym (no_fraction_behind _ _ c.loop-place-test.true c.if-byte-eq46.true so_far.digits (sym w.is_fraction.ensures ∙ w.if-is_fraction.false))
      | else-place-gt0-via-else-place-gt0 w ↦ sym (no_digit_before _ _ c.loop-place-test.true c.if-byte-eq46.true (omega (arith, w.if-place-gt0.false)))
    ]

pub returns-then-place-eq-MAX_SECOND_DIGITS : goal.returns-then-place-eq-MAX_SECOND_DIGITS
returns-then-place-eq-MAX_SECOND_DIGITS c =
    let so_far = c.loop-place.invariant in
    let no_point = ne_eqb _ _ c.if-byte-eq46.false in
    elim c.then-place-eq-MAX_SECOND_DIGITS.branch [
      | then-place-eq-MAX_SECOND_DIGITS-via-then-place-eq-MAX_SECOND_DIGITS w ↦ sym (other_at _ _ c.loop-place-test.true no_point so_far.digits (inr (omega (arith, w.if-place-eq-MAX_SECOND_DIGITS.true))))
      | then-place-eq-MAX_SECOND_DIGITS-via-else-place-eq-MAX_SECOND_DIGITS+then-not-is_ascii_digit w ↦ sym (other_at _ _ c.loop-place-test.true no_point so_far.digits (inl (sym w.is_ascii_digit.ensures.value ∙ w.if-not-is_ascii_digit.true)))
    ]

pub overflow_mul-seconds : goal.overflow_mul-seconds
overflow_mul-seconds c =
    let so_far = c.loop-place.invariant in
    omega (arith, seconds_fit _ _ _ c.loop-place-test.true so_far.few c.if-place-eq-MAX_SECOND_DIGITS.false so_far.digits so_far.value)

pub overflow_add-seconds : goal.overflow_add-seconds
overflow_add-seconds c =
    let so_far = c.loop-place.invariant in
    omega (arith, seconds_fit _ _ _ c.loop-place-test.true so_far.few c.if-place-eq-MAX_SECOND_DIGITS.false so_far.digits so_far.value, c.type_inv.time c.loop-place.place)

pub loop-place-preserved : goal.loop-place-preserved
loop-place-preserved c =
    let so_far = c.loop-place.invariant in
    let digit : is_ascii_digit (get_or c.args.time.now c.loop-place.place 0) ≡ true = sym c.is_ascii_digit.ensures.value ∙ c.if-not-is_ascii_digit.false in
    record {
      few = omega arith;
      digits = digits_push _ _ c.loop-place-test.true digit so_far.digits;
      value = omega (arith, value_more _ _ c.loop-place-test.true digit);
    }

pub returns : goal.returns
returns c = sym (digits_only _ _ c.loop-place-test.false c.loop-place.invariant.digits)
