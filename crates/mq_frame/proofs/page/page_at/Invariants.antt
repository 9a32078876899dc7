use Rattle.std.proofs.Common.{◌≡◌, ◌-◌, ◌++◌, List}
use Rattle.mq_frame.specs.Reading.{row, times_at}
use Rattle.mq_frame.specs.Parts.{rows_in}
use Rattle.mq_request.specs.declared.usage.UsageRow.{UsageRow}
use Rattle.mq_frame.proofs.Pages.{behind}
use Rattle.mq_frame.proofs.page.page_at.Given as goal

abbrev pub invariant-loop-done : goal.invariant-loop-done
invariant-loop-done l = record {
  taken : List UsageRow;
  read : times_at row l.count l.rows ≡ behind taken (times_at row (l.count - l.done) l.rest);
  shown : rows_in l.count l.rows ≡ taken ++ rows_in (l.count - l.done) l.rest;
}
