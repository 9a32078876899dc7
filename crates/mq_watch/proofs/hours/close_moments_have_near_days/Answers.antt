use Rattle.std.specs.Prelude.{pos, ◌*ℤ◌}
use Rattle.mq_ledger.specs.Day.{ByOffset, day_of}
use Rattle.mq_watch.proofs.Nights.{near_days}
use Rattle.mq_watch.proofs.hours.close_moments_have_near_days.Goals as goal

pub returns : goal.returns
returns c = λ minutes at now is_offset at_in now_in close far.
    near_days (pos 60 *ℤ minutes) at now (day_of (ByOffset minutes) at) (day_of (ByOffset minutes) now)
    (c.day_is_the_floor.ensures minutes at is_offset at_in) (c.day_is_the_floor.ensures minutes now is_offset now_in) close far
