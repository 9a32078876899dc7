-- From what a clock shows to a day number.
use Rattle.mq_ledger.proofs.Words.{IsDayRule, IsPosixZone, IsZone, List, TimeZone, ahead, ap, arith, clock, day_of, int_div_euclid, limited, nanos_of_seconds, of_z, offset_at, pos, signed_arith, sym, to_z, w64, ℕ, ℤ, ◌*ℤ◌, ◌+ℤ◌, ◌+◌, ◌∙◌, ◌≡◌, ◌≤ℤ◌, ◌≤◌}
use Rattle.std.proofs.Common.{◌<ℤ◌, negsuc, ◌*◌, ◌/◌, int_div, nat_abs}
use lib.Signed.{quot_z}
use Rattle.jiff_core.specs.Date.{epoch_day}
use Rattle.jiff_core.specs.DateTime.{civil_nanos}
use Rattle.jiff_core.specs.declared.civil.datetime.DateTime.{DateTime}
use Rattle.mq_ledger.specs.Day.{Days, IsOffset, ByOffset, ByRule, natural, rule_clock}
use Rattle.mq_request.specs.Range.{IsMoment}
use Rattle.mq_ledger.proofs.Rules.{ahead_posix}

-- the date's day number is the whole days of the clock
pub whole_days : (shown : DateTime) (s : ℤ) → civil_nanos shown ≡ s *ℤ pos 1000000000 → epoch_day shown.date ≡ int_div_euclid s (pos 86400)
unfolding civil_nanos
whole_days shown s is = omega (arith, signed_arith, is)

-- a moment's seconds on a clock, and their days, as machine integers keep them and divide them
pub kept_seconds : (s : ℤ) → pos 0 ≤ℤ s → s ≤ℤ pos 32503766340 → to_z w64 (of_z w64 s) ≡ s
kept_seconds s first last = omega (arith, signed_arith, first, last)

pub day_of_seconds : (s : ℤ) → pos 0 ≤ℤ s → s ≤ℤ pos 32503766340 → nat_abs (to_z w64 (of_z w64 (quot_z s (pos 86400)))) ≡ natural s / 86400
day_of_seconds (pos n) first last = omega (arith, signed_arith, last)
day_of_seconds (negsuc n) first last = absurd (omega (arith, signed_arith))

pub day_by_rule : (text : List ℕ) (moment : ℕ) (shown : DateTime) → civil_nanos shown ≡ nanos_of_seconds (pos moment) +ℤ nanos_of_seconds (ahead text (nanos_of_seconds (pos moment))) → limited (epoch_day shown.date) ≡ day_of (ByRule text) moment
day_by_rule text moment shown is = ap limited (whole_days shown (rule_clock text moment) (omega (arith, signed_arith, is)))

-- the same of what `jiff` shows in a zone that it reads from the text
pub day_in_zone : (text : List ℕ) (zone : TimeZone) (moment : ℕ) (shown : DateTime) → IsPosixZone text zone → civil_nanos shown ≡ nanos_of_seconds (pos moment) +ℤ nanos_of_seconds (offset_at zone (nanos_of_seconds (pos moment))) → day_of (ByRule text) moment ≡ limited (epoch_day shown.date)
day_in_zone text zone moment shown reads is =
    let n : ℤ = nanos_of_seconds (pos moment) in
    sym (day_by_rule text moment shown (is ∙ ap (λ s. n +ℤ nanos_of_seconds s) (ahead_posix text zone n reads)))

pub day_of_hours : (day since hours : ℤ) → since ≡ day *ℤ pos 86400000000000 → hours ≡ int_div since (pos 3600000000000) → hours ≡ day *ℤ pos 24
day_of_hours (pos k) since hours g h = omega (arith, signed_arith)
day_of_hours (negsuc k) since hours g h = omega (arith, signed_arith)

-- The day at an offset is the floor of the clock.

floor_of : (s : ℤ) → pos 0 ≤ℤ s → (pos (86400 * (natural s / 86400)) ≤ℤ s) × (s <ℤ pos (86400 * (natural s / 86400 + 1)))
floor_of (pos n) h = (omega (arith, signed_arith), omega (arith, signed_arith))
floor_of (negsuc n) h = absurd (omega (arith, signed_arith))

pub offset_floor : (minutes : ℤ) (moment : ℕ) → IsOffset minutes → IsMoment moment → (pos (86400 * day_of (ByOffset minutes) moment) ≤ℤ clock minutes moment) × (clock minutes moment <ℤ pos (86400 * (day_of (ByOffset minutes) moment + 1)))
offset_floor minutes moment offset moment_is = floor_of (clock minutes moment) (omega (arith, signed_arith, offset.from, moment_is.from))

-- Days in range.

offset_fits : (s : ℤ) → s ≤ℤ pos 32503766340 → natural s / 86400 ≤ 376200
offset_fits (pos n) h = omega (arith, signed_arith)
offset_fits (negsuc n) h = omega arith

limited_fits : (day : ℤ) → limited day ≤ 376200
limited_fits (pos n) = omega arith
limited_fits (negsuc n) = omega arith

pub zone_days : (zone : Days) → IsZone zone → IsDayRule (day_of zone)
zone_days (ByOffset minutes) h = λ moment moment_is. record { from = omega arith; to = offset_fits (clock minutes moment) (omega (arith, signed_arith, h.to, moment_is.to)) }
zone_days (ByRule text) h = λ moment moment_is. record { from = omega arith; to = limited_fits _ }
