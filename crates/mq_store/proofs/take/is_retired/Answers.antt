use Rattle.std.proofs.Common.{None, Some, ap, arith, false, nat_lt, ℕ, ◌∙◌, ◌≡◌}
use Rattle.mq_store.proofs.Words.{nat_tests}
use Rattle.mq_store.proofs.take.is_retired.Goals as goal

none_below : (n : ℕ) → false ≡ nat_lt n 0
none_below n = grind (arith, nat_tests)

pub returns-in-Some-clause-below : goal.returns-in-Some-clause-below
returns-in-Some-clause-below g c clean = λ zone default H b.
    let one = rw c.in-Some.is at (c.in_ok-floor.ensures.found clean b.has.tables (b.has.holds, b.has.current)) in
    ap (nat_lt c.args.id.now.run) (c.floors_are_known.ensures zone default H _ b c.args.id.now.host (Some c.in-Some.floor) one)

pub returns-in-None-clause-below : goal.returns-in-None-clause-below
returns-in-None-clause-below g c clean = λ zone default H b.
    let one = rw c.in-None.is at (c.in_ok-floor.ensures.found clean b.has.tables (b.has.holds, b.has.current)) in
    none_below c.args.id.now.run ∙ ap (nat_lt c.args.id.now.run) (c.floors_are_known.ensures zone default H _ b c.args.id.now.host None one)
