-- The day of a date, and that of a clock.
use Rattle.std.proofs.Common.{◌≡◌, ◌/◌, ◌≤◌, ◌*ℤ◌, List, None, Option, Some, arith, negsuc, pos, ℕ, ℤ}
use Rattle.std.specs.Prelude.{IfSome}
use Rattle.std.specs.Int.{int_div_euclid}
use Rattle.jiff.proofs.SpanFacts.{signed_arith}
use Rattle.jiff.specs.Words.{date_text}
use Rattle.jiff.specs.declared.civil.Date.{Date}
use Rattle.mq_ledger.specs.Day.{limited, natural}
use Rattle.mq_dates.specs.Dates.{IsDateOf, IsDateText}

-- the days of a clock's seconds
pub day_of_euclid : (s : ℤ) (day : ℕ) → int_div_euclid s (pos 86400) ≡ pos day → natural s / 86400 ≡ day
day_of_euclid (pos n) day is = omega (arith, signed_arith, is)
day_of_euclid (negsuc n) day is = absurd (omega (arith, signed_arith, is))

-- the days of whole days
pub euclid_of_day : (day : ℕ) → int_div_euclid (pos day *ℤ pos 86400) (pos 86400) ≡ pos day
euclid_of_day day = omega (arith, signed_arith)

-- a day in range isn't limited
pub limited_day : (day : ℕ) → day ≤ 376200 → limited (pos day) ≡ day
limited_day day h = omega arith

-- the text of a date writes the day that is found of it
pub writes_day : (found : Option ℕ) (date : Date) (text : List ℕ) → IfSome found (λ day. IsDateOf day date) → text ≡ date_text date → IfSome found (λ day. IsDateText day text)
writes_day None date text of is = of
writes_day (Some day) date text of is = (date, of, is)
