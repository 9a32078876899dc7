-- What a log has of the times in which the server gives no answer.
use Rattle.std.specs.Prelude.{ℕ, ◌+◌, ◌-◌, Bool, true, false, nat_le, ◌&&◌, ◌||◌, not, min, if◌then◌else◌, Option, None, Some}
use Rattle.std.specs.Time.{instant_nanos}
use Rattle.std.specs.declared.time.Instant.{Instant}
use Rattle.mq_link.specs.declared.outage.Outage.{Outage}

-- whether a second or more is over since a line; before the first line, and without a clock, it is
abbrev pub is_due : Option Instant → Option Instant → Bool
is_due (Some line) (Some now) = nat_le 1000000000 (instant_nanos now - instant_nanos line)
is_due line now = true

-- whether a further exchange without an answer is the last one of its request
abbrev pub is_last_try : Outage → Bool
is_last_try o = nat_le o.left 1

-- one more exchange brought no answer: the request's last one counts one more request
abbrev pub missed : Outage → Outage
missed o = if is_last_try o
    then record o { left = o.tries; unanswered = min (o.unanswered + 1) 4294967295 }
    else record o { left = o.left - 1 }

-- whether the beginning is logged now: some request got no answer, and a line of it isn't there and is due
abbrev pub is_beginning : Outage → Option Instant → Bool
is_beginning o now = nat_le 1 o.unanswered && (not o.is_logged && is_due o.line now)

-- the beginning was logged
abbrev pub begun : Outage → Option Instant → Outage
begun o now = record o { is_logged = true; line = now }

-- whether the end is logged now: where the beginning was, at once, and else once a line is due
abbrev pub is_ending : Outage → Option Instant → Bool
is_ending o now = nat_le 1 o.unanswered && (o.is_logged || is_due o.line now)

-- an answer came, and the end was logged
abbrev pub ended : Outage → Option Instant → Outage
ended o now = record o { left = o.tries; unanswered = 0; is_logged = false; line = now }

-- an answer came, and nothing is logged: what went without one is counted by the next line
abbrev pub passed : Outage → Outage
passed o = record o { left = o.tries }
