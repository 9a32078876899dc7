use Rattle.std.proofs.Common.{◌≡◌, ◌≤◌, ◌++◌, take}
use Rattle.std.specs.Prelude.{vec_capacity}
use Rattle.std.specs.List.{flat_map}
use Rattle.mq_frame.specs.Spelling.{row_bytes}
use Rattle.mq_frame.proofs.encode.put_page.Given as goal

abbrev pub invariant-loop-row : goal.invariant-loop-row
invariant-loop-row l = record {
  text : l.out.items ≡ l.initial.out.items ++ flat_map row_bytes (take l.row-index l.rows);
  room : vec_capacity l.initial.out ≤ vec_capacity l.out;
}
