use Rattle.mq_ledger.proofs.Words.{ap, arith, epoch_day, epoch_day_range, pos, signed_arith, ◌*ℤ◌, ◌∙◌, ◌≡◌}
use Rattle.mq_ledger.proofs.Clocks.{whole_days, day_of_hours}
use Rattle.mq_dates.proofs.dates.day_number.Goals as goal

pub returns : goal.returns
returns c =
    let first : epoch_day c.date-first.result ≡ pos 0 = ap epoch_day c.date-first.ensures ∙ whole_days c.to_datetime.result (pos 0) (omega (arith, signed_arith, c.to_datetime.ensures)) in
    let since : c.duration_since-since.result.nanos ≡ epoch_day c.args.date *ℤ pos 86400000000000 = (let gap = rw first at c.duration_since-since.ensures in omega (arith, signed_arith, gap)) in
    let hours : c.as_hours.result ≡ epoch_day c.args.date *ℤ pos 24 = day_of_hours (epoch_day c.args.date) c.duration_since-since.result.nanos c.as_hours.result since c.as_hours.ensures in
    let range = epoch_day_range c.args.date in
    rw hours (omega (arith, signed_arith, range))
