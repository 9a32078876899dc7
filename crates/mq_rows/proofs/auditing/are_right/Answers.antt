use Rattle.std.proofs.Common.{◌≡◌, ◌+ℤ◌, ◌<ℤ◌, ◌≤ℤ◌, to_z, of_z, Bool, true, false, refl, ap, arith, ◌&&◌}
use Rattle.mq_rows.proofs.Words.{ints, signed_Decides}
use mir.Syntax.{w128}
use Rattle.mq_rows.proofs.Governed.{lt_so, lt_not, so_le, not_le}
use Rattle.mq_rows.proofs.auditing.are_right.Goals as goal

four : (a b c d : Bool) → a ≡ true → b ≡ true → c ≡ true → d ≡ (a && (b && (c && d)))
four a b c d h i j = rw (h, i, j) refl

three : (a b c d : Bool) → c ≡ false → false ≡ (a && (b && (c && d)))
three true true c d h = rw h refl
three true false c d h = refl
three false b c d h = refl

pub returns-then-from-settled : goal.returns-then-from-settled
returns-then-from-settled c =
    let over : to_z w128 (of_z w128 c.from.result) <ℤ to_z w128 (of_z w128 (to_z w128 (of_z w128 c.from-settled.result) +ℤ to_z w128 (of_z w128 c.from-reserved.result))) = lt_so _ _ c.if-from-settled.true in
    let beyond : c.args.cap <ℤ (c.args.usage.settled +ℤ c.args.usage.reserved) = omega (arith, ints, over) in
    three _ _ _ _ (not_le (c.args.usage.settled +ℤ c.args.usage.reserved) c.args.cap beyond)

pub returns : goal.returns
returns c =
    let settled : c.args.usage.settled ≡ c.args.sums.settled = omega (arith, ints, ap (to_z w128) c.if-settled-sums.false) in
    let held : c.args.usage.reserved ≡ c.args.sums.held = omega (arith, ints, ap (to_z w128) c.if-reserved-sums.false) in
    let up : to_z w128 (of_z w128 (to_z w128 (of_z w128 c.from-settled.result) +ℤ to_z w128 (of_z w128 c.from-reserved.result))) ≤ℤ to_z w128 (of_z w128 c.from.result) = lt_not _ _ c.if-from-settled.false in
    let within : (c.args.usage.settled +ℤ c.args.usage.reserved) ≤ℤ c.args.cap = omega (arith, ints, up) in
    four _ _ _ _ ((signed_Decides c.args.usage.settled c.args.sums.settled).1 settled) ((signed_Decides c.args.usage.reserved c.args.sums.held).1 held) (so_le _ _ within)
