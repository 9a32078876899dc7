use Rattle.mq_command.proofs.Words.{arith, byte_text, length, nat_tests, rules, ◌++◌, ◌<◌, ◌≡◌}
use Rattle.mq_command.proofs.PrintedSteps.{all_text, begins_more, begins_none, no_text}
use Rattle.mq_command.proofs.printed.login_of_text.Goals as goal

pub loop-byte-init : goal.loop-byte-init
loop-byte-init c = rw (c.new-bytes.ensures.items, c.as_bytes-rest.ensures.value) (begins_none _)

pub loop-byte-preserved : goal.loop-byte-preserved
loop-byte-preserved c =
    let rest = c.loop-byte.rest.now in
    let after = c.in-Some.after.now in
    let byte = c.in-Some.byte in
    let split : byte_text byte ++ after ≡ rest = search rules in
    let below : byte < 256 = search rules in
    rw c.in_ok-push.ensures.items (begins_more _ _ rest after byte below split c.loop-byte.invariant)

pub returns-then-is_empty : goal.returns-then-is_empty
returns-then-is_empty c =
    let none : length c.loop-byte.rest.now ≡ 0 = grind (arith, nat_tests) in
    rw c.new.ensures (all_text _ _ _ c.loop-byte.invariant none)

pub returns-else-is_empty : goal.returns-else-is_empty
returns-else-is_empty c =
    let some : 0 < length c.loop-byte.rest.now = grind (arith, nat_tests) in
    no_text _ _ _ c.loop-byte.invariant some c.in_default.ensures
