use Rattle.std.proofs.Common.{ap, arith, pos, ◌*ℤ◌, ◌∙◌, ◌≡◌}
use Rattle.jiff.proofs.SpanFacts.{signed_arith}
use Rattle.jiff.specs.Words.{civil_nanos, epoch_day}
use Rattle.mq_ledger.proofs.Clocks.{whole_days}
use Rattle.mq_dates.proofs.DateDays.{euclid_of_day}
use Rattle.mq_dates.proofs.dates.date_of.Goals as goal

pub returns : goal.returns
returns c =
    let shown : civil_nanos c.to_datetime.result ≡ (pos c.args.day *ℤ pos 86400) *ℤ pos 1000000000 = omega (arith, signed_arith, c.to_datetime.ensures, c.constant-midnight.ensures) in
    ap epoch_day c.date.ensures ∙ whole_days c.to_datetime.result (pos c.args.day *ℤ pos 86400) shown ∙ euclid_of_day c.args.day
