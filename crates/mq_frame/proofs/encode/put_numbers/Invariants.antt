use Rattle.std.proofs.Common.{◌≡◌, ◌≤◌, ◌++◌, take}
use Rattle.std.specs.Prelude.{vec_capacity}
use Rattle.std.specs.List.{flat_map}
use Rattle.mq_frame.specs.Spelling.{in_4_bytes}
use Rattle.mq_frame.proofs.encode.put_numbers.Given as goal

abbrev pub invariant-loop-number : goal.invariant-loop-number
invariant-loop-number l = record {
  text : l.out.items ≡ l.initial.out.items ++ flat_map in_4_bytes (take l.number-index l.numbers);
  room : vec_capacity l.initial.out ≤ vec_capacity l.out;
}
