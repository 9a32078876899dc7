use Rattle.std.proofs.Common.{rules, arith, refl, ◌+◌, ◌<◌, length, get_or, vec_capacity, vec_len}
use Rattle.std.specs.List.{flat_map}
use Rattle.mq_frame.specs.Spelling.{in_4_bytes}
use Rattle.mq_frame.proofs.Appends.{no_room}
use Rattle.mq_frame.proofs.encode.put_numbers.Goals as goal

pub returns-in_err-put_u32-clause-full : goal.returns-in_err-put_u32-clause-full
returns-in_err-put_u32-clause-full c =
    let here = c.loop-number.invariant in
    let less : vec_capacity c.args.out.now < vec_len c.args.out.now + length (flat_map in_4_bytes c.args.numbers.now) =
    omega (
      arith,
      no_room in_4_bytes c.args.out.now.items _ c.args.numbers.now c.loop-number.number-index _ _ _ 0 (get_or c.args.numbers.now c.loop-number.number-index 0)
          c.loop-number-test.true refl here.text here.room c.in_err-put_u32.ensures.full (omega arith),
    ) in
    search (rules, less)
