use Rattle.mq_ledger.proofs.Words.{Some, ap, arith, day_of, logins_above, option_copied, row, slice_get, sym, ◌∙◌, ◌≡◌}
use Rattle.mq_ledger.proofs.Pages.{rows_page, rows_more, rows_all}
use Rattle.mq_ledger.proofs.plain.listing.page.Goals as goal

pub rows-init : goal.rows-init
rows-init c = rw c.new-rows.ensures.items (rows_page (row (day_of c.args.zone) c.args.default c.args.entries.now c.args.day) (day_of c.args.zone) c.args.entries.now c.args.day c.args.after.now)

pub rows-preserved : goal.rows-preserved
rows-preserved c =
    let day = day_of c.args.zone in
    let row_at = row day c.args.default c.args.entries.now c.args.day in
    let next : slice_get (logins_above day c.args.entries.now c.args.day c.rows.last.now) 0 ≡ Some c.in-Some.login.now = sym c.next_login.ensures ∙ ap option_copied c.in-Some.is in
    let more = rows_more row_at day c.args.entries.now c.args.day c.rows.counter c.rows.last.now c.in-Some.login.now c.rows.rows.items _ c.rows-test.true c.rows.invariant next in
    rw (c.in_ok-push.ensures.items, c.as_slice-last.ensures, c.in_ok-row.ensures) more

pub returns : goal.returns
returns c =
    let day = day_of c.args.zone in
    let row_at = row day c.args.default c.args.entries.now c.args.day in
    rows_all row_at day c.args.entries.now c.args.day c.rows.counter c.rows.last.now c.rows.rows.items _ (omega arith) c.rows.invariant
