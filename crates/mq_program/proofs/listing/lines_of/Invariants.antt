use Rattle.std.proofs.Common.{◌≡◌, string_bytes, take}
use Rattle.mq_program.specs.Listing.{limit_lines}
use Rattle.mq_program.proofs.listing.lines_of.Given as goal

-- the lines so far
abbrev pub invariant-loop-limit : goal.invariant-loop-limit
invariant-loop-limit l = string_bytes l.text ≡ limit_lines (take l.limit-index l.limits)
