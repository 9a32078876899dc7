use Rattle.std.proofs.Common.{◌≡◌, ◌≤◌, ◌++◌, length, take, drop}
use Rattle.std.specs.Prelude.{vec_capacity}
use Rattle.mq_line.specs.Results.{in_a_row}
use Rattle.mq_line.proofs.results.push_parts.Given as goal

abbrev pub invariant-loop-part : goal.invariant-loop-part
invariant-loop-part l = record {
  text : l.out.items ++ in_a_row (drop l.part-index l.parts) ≡ l.initial.out.items ++ in_a_row l.parts;
  front : take (length l.initial.out.items) l.out.items ≡ l.initial.out.items;
  grown : length l.initial.out.items ≤ length l.out.items;
  room : vec_capacity l.initial.out ≤ vec_capacity l.out;
}
