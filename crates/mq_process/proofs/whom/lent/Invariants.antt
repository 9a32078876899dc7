use Rattle.std.proofs.Common.{◌≡◌, map, string_bytes, take}
use Rattle.mq_process.proofs.whom.lent.Given as goal

-- those so far are lent
abbrev pub invariant-loop-text : goal.invariant-loop-text
invariant-loop-text l = map (λ s. s.now) l.lent.items ≡ map string_bytes (take l.text-index l.texts)
