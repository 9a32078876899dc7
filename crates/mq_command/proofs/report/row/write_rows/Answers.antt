use Rattle.mq_command.proofs.Words.{row_line, sym}
use Rattle.mq_command.proofs.Fronts.{front_of_item, one_more_item}
use Rattle.mq_command.proofs.report.row.write_rows.Goals as goal

pub returns-in_err-write_row-clause-front : goal.returns-in_err-write_row-clause-front
returns-in_err-write_row-clause-front g c =
    front_of_item row_line _ _ _ c.args.rows.now c.loop-row.row-index c.row-item.result c.loop-row-test.true (sym c.row-item.is) c.loop-row.invariant c.in_err-write_row.ensures.front

pub loop-row-preserved : goal.loop-row-preserved
loop-row-preserved g c =
    one_more_item row_line _ _ _ c.args.rows.now c.loop-row.row-index c.row-item.result c.loop-row-test.true (sym c.row-item.is) c.loop-row.invariant c.in_ok-write_row.ensures.whole
