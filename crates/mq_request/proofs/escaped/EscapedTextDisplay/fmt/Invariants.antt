use Rattle.std.proofs.Common.{take}
use Rattle.std.specs.Fmt.{HasWritten, IsPlainFormatter}
use Rattle.mq_request.specs.Escaped.{escaped}
use Rattle.mq_request.proofs.escaped.EscapedTextDisplay.fmt.Given as goal

-- the text of the bytes so far
abbrev pub invariant-loop-byte : goal.invariant-loop-byte
invariant-loop-byte g l =
    IsPlainFormatter l.initial.f → HasWritten g.W.Write.write_str_gives l.initial.f (escaped (take l.byte-index l.self.0.now)) l.f
