use Rattle.std.proofs.Common.{take}
use Rattle.mq_command.specs.Listed.{Adds}
use Rattle.mq_program.specs.Listing.{AreMoreObjects}
use Rattle.mq_program.proofs.listing.push_more_objects.Given as goal

-- the objects so far are appended
abbrev pub invariant-loop-limit : goal.invariant-loop-limit
invariant-loop-limit l = Adds (AreMoreObjects (take l.limit-index l.limits)) l.initial.text.items l.text.items
