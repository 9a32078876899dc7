use Rattle.std.proofs.Common.{take}
use Rattle.mq_tables.specs.Over.{IsEarliest}
use Rattle.mq_tables.proofs.over.earliest_over.Given as goal

-- what was read so far
abbrev pub invariant-loop-row : goal.invariant-loop-row
invariant-loop-row l = IsEarliest l.cap (take l.row-index l.rows) l.first
