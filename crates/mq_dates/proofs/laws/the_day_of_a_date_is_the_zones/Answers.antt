use Rattle.std.proofs.Common.{ap, arith, sym, ◌∙◌}
use Rattle.jiff.proofs.SpanFacts.{signed_arith}
use Rattle.mq_ledger.specs.Day.{clock, limited}
use Rattle.mq_ledger.proofs.Clocks.{day_in_zone, whole_days}
use Rattle.mq_dates.proofs.DateDays.{day_of_euclid, limited_day}
use Rattle.mq_dates.proofs.laws.the_day_of_a_date_is_the_zones.Goals as goal

pub returns-clause-offset : goal.returns-clause-offset
returns-clause-offset c = λ minutes moment day shown offset at is date.
    day_of_euclid (clock minutes moment) day (sym (whole_days shown (clock minutes moment) (omega (arith, signed_arith, is))) ∙ date)

pub returns-clause-rule : goal.returns-clause-rule
returns-clause-rule c = λ text zone moment day shown reads is in_range date.
    day_in_zone text zone moment shown reads is ∙ ap limited date ∙ limited_day day in_range.to
