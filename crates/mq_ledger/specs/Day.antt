-- The ledger day of a moment.
use Rattle.std.specs.Prelude.{ℕ, ◌≤◌, ◌/◌, min, ℤ, pos, negsuc, ◌+ℤ◌, ◌*ℤ◌, ◌≤ℤ◌, List, length, Option, Some, None}
use Rattle.std.specs.Prelude.{IsSome, codes}
use Rattle.std.specs.Int.{int_div_euclid}
use Rattle.jiff_core.specs.Timestamp.{nanos_of_seconds}
use Rattle.jiff_tz.specs.PosixReader.{read_whole}
use Rattle.mq_request.specs.Range.{IsMoment, IsDay}
use Rattle.mq_ledger.specs.Rule.{ahead}

-- what the days of a ledger go by: minutes east of Greenwich, or the text of a zone rule
pub data Days : Type 0 where
  ByOffset : (minutes : ℤ) → Days
  ByRule : (text : List ℕ) → Days

-- less than a day, to the east or to the west
pub record IsOffset (minutes : ℤ) : Type 0 where
  pub from : negsuc 1438 ≤ℤ minutes
  pub to : minutes ≤ℤ pos 1439

-- 1 to 64 bytes that `jiff` reads as a POSIX zone rule
pub record IsRule (text : List ℕ) : Type 0 where
  pub from : 1 ≤ length text
  pub to : length text ≤ 64
  pub reads : IsSome (read_whole text)

-- a zone that a ledger can go by
abbrev pub IsZone : Days → Type 0
IsZone (ByOffset minutes) = IsOffset minutes
IsZone (ByRule text) = IsRule text

-- what a store keeps of a zone: minutes, which are 0 with a rule, and the rule's text where there is one
abbrev pub minutes_in : Days → ℤ
minutes_in (ByOffset minutes) = minutes
minutes_in (ByRule text) = pos 0

abbrev pub rule_in : Days → Option (List ℕ)
rule_in (ByOffset minutes) = None
rule_in (ByRule text) = Some text

-- a number of seconds; none before the first
abbrev pub natural : ℤ → ℕ
natural (pos n) = n
natural (negsuc n) = 0

-- what a clock at that offset shows at the moment, in seconds since 1970-01-01 on that clock
abbrev pub clock : ℤ → ℕ → ℤ
clock minutes moment = pos moment +ℤ (pos 60 *ℤ minutes)

-- what a clock that goes by the rule shows
abbrev pub rule_clock : List ℕ → ℕ → ℤ
rule_clock text moment = pos moment +ℤ ahead text (nanos_of_seconds (pos moment))

-- a day number, from the first to the last day of a ledger
abbrev pub limited : ℤ → ℕ
limited (pos day) = min day 376200
limited (negsuc day) = 0

-- with an offset floor((moment + 60 minutes) / 86400); with a rule the whole days that its clock shows, limited
abbrev pub day_of : Days → ℕ → ℕ
day_of (ByOffset minutes) moment = natural (clock minutes moment) / 86400
day_of (ByRule text) moment = limited (int_div_euclid (rule_clock text moment) (pos 86400))

-- a rule for days gives each moment in range a day in range
abbrev pub IsDayRule : (ℕ → ℕ) → Type 0
IsDayRule day = (moment : ℕ) → IsMoment moment → IsDay (day moment)

-- the rule of most of Europe: an hour ahead of UTC, and two from the last Sunday of March to that of October
abbrev pub central_europe : Days
central_europe = ByRule (codes "CET-1CEST,M3.5.0,M10.5.0/3")
