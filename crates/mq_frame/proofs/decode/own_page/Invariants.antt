use Rattle.std.proofs.Common.{◌≡◌, ◌-◌, ◌++◌}
use Rattle.mq_frame.specs.Parts.{rows_in}
use Rattle.mq_frame.proofs.decode.own_page.Given as goal

abbrev pub invariant-loop-done : goal.invariant-loop-done
invariant-loop-done l = rows_in l.parts.count l.parts.bytes.now ≡ l.rows.items ++ rows_in (l.parts.count - l.done) l.rest
