use Rattle.std.proofs.Common.{arith, ◌++◌}
use Rattle.std.proofs.lemmas.List.{length-append}
use Rattle.mq_frame.specs.Spelling.{in_4_bytes, row_bytes}
use Rattle.mq_frame.proofs.Appends.{one_more_long}
use Rattle.mq_frame.proofs.encode.rows_length.Goals as goal

pub loop-row-preserved : goal.loop-row-preserved
loop-row-preserved c =
    let row = c.row-item.result in
    record {
      so_far = omega (
        arith,
        c.login_length.ensures.exact,
        length-append row.login (in_4_bytes row.settled ++ (in_4_bytes row.reserved ++ in_4_bytes row.cap)),
        one_more_long row_bytes c.loop-row.length c.args.rows.now c.loop-row.row-index row (search arith) c.row-item.is c.loop-row.invariant.so_far,
      );
      few = omega (arith, c.login_length.ensures.few, c.loop-row.invariant.few);
    }
