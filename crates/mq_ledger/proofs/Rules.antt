-- What a rule's text says is what `jiff` finds in the zone that it reads from it.
use Rattle.mq_ledger.proofs.Words.{Bool, IsPosixZone, List, None, Option, Some, TimeZone, ahead, ap, false, if◌then◌else◌, in_window, offset_at, refl, sym, true, window_in, year_of_nanos, ℕ, ℤ, ◌∙◌, ◌≡◌}
use Rattle.std.specs.Prelude.{option_map}
use Rattle.jiff_core.specs.declared.Offset.{Offset}
use Rattle.jiff_tz.specs.declared.posix.Dst.{Dst}
use Rattle.jiff_tz.specs.declared.timezone.TimeZone.TheVariants.{UTC, Unknown, Fixed, Posix, Tzif}
use Rattle.jiff_tz.specs.PosixRule.{match_some, rule_nanos, utc_window, dst_at_by}
use Rattle.jiff_tz.specs.PosixText.{dst_view}
use Rattle.mq_ledger.specs.Rule.{ahead_with, ahead_by}

chosen : (b : Bool) (std : Offset) (d : Dst) → (match_some (if b then Some d else None) std (λ x. x.offset)).seconds ≡ (if b then d.offset.seconds else std.seconds)
chosen true std d = refl
chosen false std d = refl

with_dst : (std : Offset) (dst : Option Dst) (n : ℤ) → (match_some (dst_at_by std dst n) std (λ x. x.offset)).seconds ≡ ahead_with std.seconds (option_map dst_view dst) n
unfolding rule_nanos utc_window
with_dst std None n = refl
with_dst std (Some d) n = chosen (in_window (window_in (dst_view d) (year_of_nanos n) std.seconds) n) std d

pub ahead_posix : (text : List ℕ) (zone : TimeZone) (n : ℤ) → IsPosixZone text zone → offset_at zone n ≡ ahead text n
unfolding ahead offset_at
ahead_posix text (Posix rule) n reads = with_dst rule.std_offset rule.dst n ∙ ap (λ r. ahead_by r n) (sym reads)
ahead_posix text UTC n reads = absurd reads
ahead_posix text Unknown n reads = absurd reads
ahead_posix text (Fixed offset) n reads = absurd reads
ahead_posix text (Tzif table) n reads = absurd reads
