use Rattle.mq_command.proofs.Words.{All-nil, All-push, [], ap, arith, byte_text, length, length_push, nat_tests, refl, rules, ℕ, ◌++◌, ◌+◌, ◌<◌, ◌∙◌, ◌∷◌, ◌≡◌}
use Rattle.mq_command.proofs.PrintedSteps.{all_text, begins_more, begins_none, no_text, shorter}
use Rattle.mq_command.proofs.printed.printed_length.Goals as goal

pub loop-byte-init : goal.loop-byte-init
loop-byte-init c = (([], All-nil (λ (byte : ℕ). byte < 256), rw c.as_bytes-rest.ensures.value (begins_none _), refl), search rules)

pub loop-byte-preserved : goal.loop-byte-preserved
loop-byte-preserved c =
    let rest = c.loop-byte.rest.now in
    let after = c.in-Some.after.now in
    let byte = c.in-Some._byte in
    let split : byte_text byte ++ after ≡ rest = search rules in
    let below : byte < 256 = search rules in
    let (bytes, each, so_far, counted) = c.loop-byte.invariant.0 in (
      (bytes ++ byte ∷ [], All-push (λ (byte : ℕ). byte < 256) bytes byte each below, begins_more _ bytes rest after byte below split so_far, length_push bytes byte ∙ ap (λ n. n + 1) counted),
      omega (arith, shorter byte rest after split),
    )

pub returns-then-is_empty : goal.returns-then-is_empty
returns-then-is_empty c =
    let none : length c.loop-byte.rest.now ≡ 0 = grind (arith, nat_tests) in
    let (bytes, each, so_far, counted) = c.loop-byte.invariant.0 in
    (bytes, each, all_text _ _ _ so_far none, counted)

pub returns-else-is_empty : goal.returns-else-is_empty
returns-else-is_empty c =
    let some : 0 < length c.loop-byte.rest.now = grind (arith, nat_tests) in
    let (bytes, each, so_far, counted) = c.loop-byte.invariant.0 in
    no_text _ _ _ so_far some c.in_default.ensures
