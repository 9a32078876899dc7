use Rattle.mq_command.proofs.Words.{Appends-nil, [], ap, arith, length, rules, ◌∙◌}
use Rattle.mq_command.specs.declared.output.OutputFault.TheVariants as outputs
use Rattle.mq_command.proofs.Fronts.{front_whole, appends_flushed}
use Rattle.mq_command.proofs.PageSteps.{stopped, stopped_by, whole, held_none, held_more}
use Rattle.mq_command.proofs.report.report_all.Goals as goal

pub loop-page-init : goal.loop-page-init
loop-page-init g c = ([], held_none _ _ _ (c.new-after.ensures ∙ c.new.ensures.items), Appends-nil _)

pub returns-in_err-write_rows : goal.returns-in_err-write_rows
returns-in_err-write_rows g c =
    let (rows, held, printed) = c.loop-page.invariant in
    stopped_by _ _ _ _ _ _ _ c.loop-page._page _ rows _ held printed c.loop-page-test.true c.in_ok-rows.ensures.page _ _ c.from_residual-in_err-write_rows.ensures.1
    (rw c.as_slice-page.ensures at c.in_err-write_rows.ensures.front)

pub returns-then-is_err : goal.returns-then-is_err
returns-then-is_err g c =
    let (rows, held, printed) = c.loop-page.invariant in
    stopped c.args.day _ _ _ _ _ _ c.loop-page._page _ rows _ held printed c.loop-page-test.true c.in_ok-rows.ensures.page outputs.Write
    (front_whole _ _ _ (appends_flushed _ _ _ _ (rw c.as_slice-page.ensures at c.in_ok-write_rows.ensures.whole) c.flush.ensures.bytes))

pub returns-then-page-lt-PAGE : goal.returns-then-page-lt-PAGE
returns-then-page-lt-PAGE g c =
    let (rows, held, printed) = c.loop-page.invariant in
    let lines = appends_flushed _ _ _ _ (rw c.as_slice-page.ensures at c.in_ok-write_rows.ensures.whole) c.flush.ensures.bytes in (
      c.loop-page._page,
      _,
      _,
      rows,
      c.loop-page-test.true,
      held.pages,
      (_, c.in_ok-rows.ensures.page, omega (arith, ap length c.as_slice-page.ensures, c.if-page-lt-PAGE.true), whole c.args.day _ _ _ _ _ _ c.loop-page._page _ rows _ held printed c.loop-page-test.true c.in_ok-rows.ensures.page lines),
    )

pub returns-in_err-after : goal.returns-in_err-after
returns-in_err-after g c =
    let (rows, held, printed) = c.loop-page.invariant in
    stopped_by c.args.day _ _ _ _ _ _ c.loop-page._page _ rows _ held printed c.loop-page-test.true c.in_ok-rows.ensures.page outputs.Memory _ c.from_residual-in_err-after.ensures.1
    (front_whole _ _ _ (rw c.as_slice-page.ensures at c.in_ok-write_rows.ensures.whole))

pub loop-page-preserved : goal.loop-page-preserved
loop-page-preserved g c =
    let (rows, held, printed) = c.loop-page.invariant in
    let lines = rw c.as_slice-page.ensures at c.in_ok-write_rows.ensures.whole in (
      _,
      held_more c.args.day _ _ _ c.loop-page._page _ _ rows _ _ _ held c.in_ok-rows.ensures.page c.in_ok-rows.ensures.in_range c.as_slice-page.ensures (omega (arith, c.if-page-lt-PAGE.false)) c.index-page-page.is (search rules),
      whole c.args.day _ _ _ _ _ _ c.loop-page._page _ rows _ held printed c.loop-page-test.true c.in_ok-rows.ensures.page lines,
    )
