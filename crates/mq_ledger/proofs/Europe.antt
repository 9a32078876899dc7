-- Days of Central Europe, computed from the text of its rule.
use Rattle.mq_ledger.proofs.Words.{Some, ahead, arith, day_of, if◌then◌else◌, in_window, int_div_euclid, limited, nanos_of_seconds, nat_le, nat_lt, nat_tests, pos, refl, true, window_in, year_of_nanos, ℕ, ℤ, ◌+ℤ◌, ◌≡◌}
use Rattle.std.proofs.Common.{codes}
use Rattle.jiff_core.specs.Calendar.{days_of_years}
use Rattle.jiff_tz.proofs.OnLiterals.{jiff_tz_on_literals, jiff_tz_rules_on_literals}
use Rattle.jiff_tz.proofs.YearLemmas.{years_within_is}
use Rattle.jiff_tz.specs.PosixReader.{read_whole}
use Rattle.jiff_tz.specs.PosixText.{DstText, TzText}
use Rattle.jiff_tz.specs.Year.{years_within}
use Rattle.jiff_tz.specs.declared.posix.Day.TheVariants.{WeekdayOfMonth}
use Rattle.mq_ledger.specs.Day.{central_europe}

abbrev summer : DstText
summer = record { name = codes "CEST"; seconds = pos 7200; start = (WeekdayOfMonth 3 5 0, pos 7200); finish = (WeekdayOfMonth 10 5 0, pos 10800) }

abbrev rule : TzText
rule = record { std_name = codes "CET"; std_seconds = pos 3600; dst = Some summer }

reads : read_whole (codes "CET-1CEST,M3.5.0,M10.5.0/3") ≡ Some rule
unfolding jiff_tz_on_literals
reads = refl

-- from the last Sunday of March to that of October, at 1:00 UTC
window_2019 : window_in summer (pos 2019) (pos 3600) ≡ (pos 1553994000000000000, pos 1572138000000000000)
unfolding jiff_tz_rules_on_literals
window_2019 = refl

window_2020 : window_in summer (pos 2020) (pos 3600) ≡ (pos 1585443600000000000, pos 1603587600000000000)
unfolding jiff_tz_rules_on_literals
window_2020 = refl

in_2019 : (count : ℕ) → nat_le (days_of_years 12019) count ≡ true → nat_lt count (days_of_years 12020) ≡ true → years_within 20000 count ≡ 12019
in_2019 count low high = years_within_is 20000 12019 count (omega arith) (grind (arith, nat_tests)) (grind (arith, nat_tests))

in_2020 : (count : ℕ) → nat_le (days_of_years 12020) count ≡ true → nat_lt count (days_of_years 12021) ≡ true → years_within 20000 count ≡ 12020
in_2020 count low high = years_within_is 20000 12020 count (omega arith) (grind (arith, nat_tests)) (grind (arith, nat_tests))

-- the day of a moment of a year with that summer
day_with : (y : ℤ) (window : ℤ × ℤ) (moment : ℕ) → window_in summer y (pos 3600) ≡ window → year_of_nanos (nanos_of_seconds (pos moment)) ≡ y
    → day_of central_europe moment ≡ limited (int_div_euclid (pos moment +ℤ (if in_window window (nanos_of_seconds (pos moment)) then pos 7200 else pos 3600)) (pos 86400))
unfolding ahead
day_with y window moment is year = rw (reads, year, is) refl

abbrev day_2019 : ℕ → ℕ
day_2019 moment = limited (int_div_euclid (pos moment +ℤ (if in_window (pos 1553994000000000000, pos 1572138000000000000) (nanos_of_seconds (pos moment)) then pos 7200 else pos 3600)) (pos 86400))

abbrev day_2020 : ℕ → ℕ
day_2020 moment = limited (int_div_euclid (pos moment +ℤ (if in_window (pos 1585443600000000000, pos 1603587600000000000) (nanos_of_seconds (pos moment)) then pos 7200 else pos 3600)) (pos 86400))

of_2019 : (moment : ℕ) → year_of_nanos (nanos_of_seconds (pos moment)) ≡ pos 2019 → day_of central_europe moment ≡ day_2019 moment
of_2019 moment year = day_with (pos 2019) _ moment window_2019 year

of_2020 : (moment : ℕ) → year_of_nanos (nanos_of_seconds (pos moment)) ≡ pos 2020 → day_of central_europe moment ≡ day_2020 moment
of_2020 moment year = day_with (pos 2020) _ moment window_2020 year

pub winter : (day_of central_europe 1576105199 ≡ 18241) × (day_of central_europe 1576105200 ≡ 18242)
unfolding days_of_years
winter = (of_2019 1576105199 (rw (in_2019 _ refl refl) refl), of_2019 1576105200 (rw (in_2019 _ refl refl) refl))

pub summers : (day_of central_europe 1593554399 ≡ 18443) × (day_of central_europe 1593554400 ≡ 18444)
unfolding days_of_years
summers = (of_2020 1593554399 (rw (in_2020 _ refl refl) refl), of_2020 1593554400 (rw (in_2020 _ refl refl) refl))

pub short : (day_of central_europe 1585436399 ≡ 18349) × (day_of central_europe 1585436400 ≡ 18350) × (day_of central_europe 1585519199 ≡ 18350) × (day_of central_europe 1585519200 ≡ 18351)
unfolding days_of_years
short = (
  of_2020 1585436399 (rw (in_2020 _ refl refl) refl),
  of_2020 1585436400 (rw (in_2020 _ refl refl) refl),
  of_2020 1585519199 (rw (in_2020 _ refl refl) refl),
  of_2020 1585519200 (rw (in_2020 _ refl refl) refl),
)
