use Rattle.std.proofs.Common.{subst, sym, true≢false, ◌∙◌}
use Rattle.mq_store.proofs.Words.{HasLedger, state, was_clean}
use Rattle.mq_store.specs.Causes.{StopsReading}
use Rattle.mq_store.proofs.Causes.{of_rows, stops_by}
use Rattle.mq_store.proofs.listing.next_row.Goals as goal

pub returns-clause-next : goal.returns-clause-next
returns-clause-next g c clean = λ zone H b.
    let mid = was_clean c.find_governing.ensures.leaves clean in
    let same = c.in_ok-usage.ensures.same mid in
    let holds = subst (λ db. HasLedger db b.has.tables) (sym same.0.now_is) b.has.holds in
    let next = rw c.in-Some.is at (c.in_ok-usage.ensures.found mid b.has.tables b.has.holds) in (
      c.in-Some.usage,
      next,
      c.in_ok-page_row.ensures.row
          ∙ c.reads_are_answered.ensures.row zone c.args.default H _ b c.args.day c.args.after.now c.in-Some.usage c.in_ok-governing.governing next (c.in_ok-governing.ensures.found clean b.has.tables holds),
    )

pub returns-in_err-page_row-clause-cause : goal.returns-in_err-page_row-clause-cause
returns-in_err-page_row-clause-cause g c clean =
    stops_by c.in_err-page_row.field-0.0 c.from_residual-in_err-page_row.result (StopsReading c.args.default (state g.S.Store c.args.tx.now.conn.now).now) c.from_residual-in_err-page_row.ensures.1 (λ zone H b.
    let mid = was_clean c.find_governing.ensures.leaves clean in
    let same = c.in_ok-usage.ensures.same mid in
    let holds = subst (λ db. HasLedger db b.has.tables) (sym same.0.now_is) b.has.holds in
    let next = rw c.in-Some.is at (c.in_ok-usage.ensures.found mid b.has.tables b.has.holds) in
    let login = c.reads_are_in_range.ensures.login zone c.args.default H _ b c.args.day c.args.after.now c.in-Some.usage next in
    let fit = c.reads_are_in_range.ensures.row zone c.args.default H _ b c.args.day c.args.after.now c.in-Some.usage c.in_ok-governing.governing next (c.in_ok-governing.ensures.found clean b.has.tables holds) in
    of_rows H c.in_err-page_row.field-0.0 (λ store. true≢false (sym fit ∙ c.in_err-page_row.ensures.store login)))
