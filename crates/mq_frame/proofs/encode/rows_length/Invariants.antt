use Rattle.std.proofs.Common.{◌≡◌, ◌≤◌, ◌*◌, length, take}
use Rattle.std.specs.List.{flat_map}
use Rattle.mq_frame.specs.Spelling.{row_bytes}
use Rattle.mq_frame.proofs.encode.rows_length.Given as goal

abbrev pub invariant-loop-row : goal.invariant-loop-row
invariant-loop-row l = record {
  so_far : l.length ≡ length (flat_map row_bytes (take l.row-index l.rows));
  few : l.length ≤ 268 * l.row-index;
}
