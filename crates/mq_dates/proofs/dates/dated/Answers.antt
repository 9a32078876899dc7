use Rattle.std.proofs.Common.{append_assoc, rules, string_bytes}
use Rattle.mq_dates.proofs.dates.dated.Goals as goal

pub returns : goal.returns
returns c = (string_bytes c.in_ok-date.date, c.in_ok-date.ensures, search (rules, append_assoc))
