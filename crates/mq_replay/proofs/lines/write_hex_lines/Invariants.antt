use Rattle.std.proofs.Common.{map}
use Rattle.std.specs.Io.KnownBytes.{Appends}
use Rattle.mq_replay.specs.Lines.{hex_lines}
use Rattle.mq_replay.proofs.lines.write_hex_lines.Given as goal

-- the lines so far are written
abbrev pub invariant-loop-sink : goal.invariant-loop-sink
invariant-loop-sink g l = Appends (g.W.Write.contents l.initial.output) (g.W.Write.contents l.output) (hex_lines (map (λ s. s.inner.items) l.yielded))
