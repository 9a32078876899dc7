-- Until when a connection stays open, at moments in nanoseconds.
use Rattle.std.specs.Prelude.{◌≡◌, ℕ, ◌+◌, ◌*◌, min, Bool, true, false, List, [], ◌∷◌, Option, None, Some}
use Rattle.std.specs.Duration.{as_nanos}
use Rattle.std.specs.Time.{instant_nanos}
use Rattle.std.specs.declared.time.Instant.{Instant}
use Rattle.mq_server.specs.declared.fault.ServeFault.{ServeFault}
use Rattle.mq_server.specs.declared.fault.ServeFault.TheVariants.{Read, Write}
use Rattle.mq_connections.specs.declared.stay.Stay.{Stay}
use Rattle.mq_connections.specs.declared.stay.Stay.TheVariants.{Busy, Idle}
use Rattle.mq_connections.specs.declared.stay.Times.{Times}

-- from this moment on nothing may come or be taken for the timeout, and a request with its reply has twice as long
abbrev pub IsBegun : ℕ → Times → Stay → Type 0
IsBegun now times (Busy until deadline) =
    (instant_nanos until ≡ now + as_nanos times.timeout) × (instant_nanos deadline ≡ now + 2 * as_nanos times.timeout)
IsBegun now times (Idle until) = ⊥

-- no request may come for the idle time, from this moment on
abbrev pub IsIdle : ℕ → Times → Stay → Type 0
IsIdle now times (Idle until) = instant_nanos until ≡ now + as_nanos times.idle
IsIdle now times (Busy until deadline) = ⊥

-- its peer sent or took something at this moment: the timeout begins again, and ends by the deadline; after idle times both
-- begin
abbrev pub IsPutOff : ℕ → Times → Stay → Stay → Type 0
IsPutOff now times (Busy _ deadline) (Busy until same) =
    (same ≡ deadline) × (instant_nanos until ≡ min (now + as_nanos times.timeout) (instant_nanos deadline))
IsPutOff now times (Busy _ deadline) (Idle until) = ⊥
IsPutOff now times (Idle _) stay = IsBegun now times stay

-- when it is over
abbrev pub until_of : Stay → Instant
until_of (Busy until deadline) = until
until_of (Idle until) = until

-- whether all requests were answered, and nothing came since
abbrev pub is_idle : Stay → Bool
is_idle (Busy until deadline) = false
is_idle (Idle until) = true

-- why a connection is given up whose time is over: its peer sent nothing or took nothing; an idle one ends as it should
abbrev pub late_fault : Stay → List ℕ → Option ServeFault
late_fault (Idle until) replies = None
late_fault (Busy until deadline) [] = Some Read
late_fault (Busy until deadline) (byte ∷ more) = Some Write
