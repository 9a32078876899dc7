use Rattle.std.proofs.Common.{rules, arith, ◌+◌, ◌<◌, length, vec_capacity, vec_len}
use Rattle.std.specs.List.{flat_map}
use Rattle.mq_frame.specs.Spelling.{row_bytes}
use Rattle.mq_frame.proofs.Appends.{one_more_appended, no_room}
use Rattle.mq_frame.proofs.encode.put_page.Goals as goal

pub loop-row-preserved : goal.loop-row-preserved
loop-row-preserved c = record {
  text = one_more_appended row_bytes c.push.new.self.items c.loop-row.out.items c.put_row.new.out.items c.as_slice-rows.result.now c.loop-row.row-index c.row-item.result
      (search rules) (search rules) c.loop-row.invariant.text c.in_ok-put_row.ensures.ok;
  room = search rules;
}

pub returns-in_err-put_row-clause-full : goal.returns-in_err-put_row-clause-full
returns-in_err-put_row-clause-full c =
    let here = c.loop-row.invariant in
    let less : vec_capacity c.push.new.self < vec_len c.push.new.self + length (flat_map row_bytes c.as_slice-rows.result.now) =
    omega (
      arith,
      no_room row_bytes c.push.new.self.items _ c.as_slice-rows.result.now c.loop-row.row-index _ _ _ c.row-item.result c.row-item.result
          c.loop-row-test.true c.row-item.is here.text here.room c.in_err-put_row.ensures.full (omega arith),
    ) in
    search (rules, less)
