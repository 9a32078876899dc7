use Rattle.std.proofs.Common.{sym, ◌∙◌, ◌≡◌}
use Rattle.std.proofs.lemmas.Slice.Eq.{bytes_eq-Decides}
use Rattle.mq_dates.proofs.DateDays.{writes_day}
use Rattle.mq_dates.proofs.dates.day_of_text.Goals as goal

pub returns-then-eq-clause-day : goal.returns-then-eq-clause-day
returns-then-eq-clause-day c =
    let same : c.as_str.result.now ≡ c.args.text.now = (bytes_eq-Decides c.as_str.result.now c.args.text.now).0 (sym c.eq.ensures ∙ c.if-eq.true) in
    writes_day c.day_of.result c.in-Ok.date c.args.text.now c.day_of.ensures.day (sym same ∙ c.as_str.ensures.value ∙ c.in_ok-written.ensures)
