use Rattle.std.proofs.Common.{rules, arith, ◌≡◌, ◌+◌, ◌<◌, length, vec_capacity, vec_len}
use Rattle.mq_line.specs.Results.{in_a_row}
use Rattle.mq_line.proofs.ResultLaws.{no_room}
use Rattle.mq_line.proofs.results.push_parts.Goals as goal

pub returns-in_err-extend_from_slice-clause-full : goal.returns-in_err-extend_from_slice-clause-full
returns-in_err-extend_from_slice-clause-full c =
    let here = c.loop-part.invariant in
    let less : vec_capacity c.args.out.now < vec_len c.args.out.now + length (in_a_row c.args.parts.now) =
    omega (arith, no_room _ _ _ _ _ _ _ _ c.loop-part-test.true here.text here.room c.in_err-extend_from_slice.ensures.full (omega arith)) in
    search (rules, less)
