use Rattle.mq_command.proofs.Words.{arith, inr, nat_tests, refl, ◌<◌, ◌≡◌}
use Rattle.mq_command.proofs.restore.former.Goals as goal

pub returns-then-before-eq0-clause-former : goal.returns-then-before-eq0-clause-former
returns-then-before-eq0-clause-former g c =
    let later : 0 < c.in-Ok-Some.latest = grind (arith, nat_tests) in
    let none : c.in-Ok.before.cap ≡ 0 = grind (arith, nat_tests) in
    let looks = rw c.in-Ok-Some.field-0-is at c.in-Ok-Some.ensures.looks in
    inr (inr (c.in-Ok-Some.latest, _, c.in-Ok.before, later, looks, c.in-Ok.ensures.asked, none))

pub returns-else-before-eq0-clause-former : goal.returns-else-before-eq0-clause-former
returns-else-before-eq0-clause-former g c =
    let later : 0 < c.in-Ok-Some.latest = grind (arith, nat_tests) in
    let some : 0 < c.in-Ok.before.cap = grind (arith, nat_tests) in
    let looks = rw c.in-Ok-Some.field-0-is at c.in-Ok-Some.ensures.looks in
    (c.in-Ok-Some.latest, _, c.in-Ok.before, later, looks, c.in-Ok.ensures.asked, refl, some)

pub returns-in-Err-ask_used-clause-former : goal.returns-in-Err-ask_used-clause-former
returns-in-Err-ask_used-clause-former g c =
    let later : 0 < c.in-Ok-Some.latest = grind (arith, nat_tests) in
    let looks = rw c.in-Ok-Some.field-0-is at c.in-Ok-Some.ensures.looks in
    inr (c.in-Ok-Some.latest, _, later, looks, c.in-Err-ask_used.ensures.asked)
