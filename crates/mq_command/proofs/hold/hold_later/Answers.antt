use Rattle.mq_command.proofs.Words.{LAST_DAY, arith, inl, later_day, nat_tests, no_later_day, refl, ◌+◌, ◌<◌, ◌≤◌}
use Rattle.mq_command.proofs.hold.hold_later.Goals as goal

pub loop-place-init : goal.loop-place-init
loop-place-init g c = (omega (arith, c.requires.day.to), record { from = omega arith; to = omega arith }, no_later_day)

pub loop-place-preserved : goal.loop-place-preserved
loop-place-preserved g c =
    let (early, most, held) = c.loop-place.invariant in
    let below : c.in-Ok-Some.next.last < LAST_DAY = grind (arith, nat_tests) in
    let next = rw c.in-Ok-Some.field-0-is at c.in-Ok-Some.ensures.holds in
    (below, rw c.in-Ok-Some.field-0-is at c.in-Ok-Some.ensures.in_range, later_day _ _ _ _ _ held early next)

pub returns-then-later-ge-LAST_DAY-clause-holds : goal.returns-then-later-ge-LAST_DAY-clause-holds
returns-then-later-ge-LAST_DAY-clause-holds g c =
    let (early, most, held) = c.loop-place.invariant in
    let few : c.loop-place.place + 1 ≤ 100 = grind (arith, nat_tests) in
    let next = rw c.in-Ok-Some.field-0-is at c.in-Ok-Some.ensures.holds in
    (_, _, few, later_day _ _ _ _ _ held early next, inl (c.if-later-ge-LAST_DAY.true, refl))
