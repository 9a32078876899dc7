use Rattle.mq_ledger.proofs.Words.{day_of, map, page, row, ◌++◌, ◌-◌, ◌≡◌}
use Rattle.mq_ledger.proofs.Pages.{rows_of}
use Rattle.mq_ledger.proofs.plain.listing.page.Given as goal

abbrev pub invariant-rows : goal.invariant-rows
invariant-rows l =
    let day = day_of l.zone in
    let row_at = row day l.default l.entries l.day in
    l.rows.items ++ rows_of row_at day l.entries l.day (100 - l.counter) l.last ≡ map row_at (page day l.entries l.day l.fn.after)
