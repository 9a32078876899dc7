-- What a clock's time comes to.
use Rattle.std.specs.Prelude.{◌≡◌, ◌/◌, ℕ}
use Rattle.std.specs.Duration.{as_nanos}
use Rattle.std.specs.Time.{system_time_nanos}
use Rattle.std.specs.declared.time.Duration.{Duration}
use Rattle.std.specs.declared.time.SystemTime.{SystemTime}

-- it is the time since 1970 that a clock showed
abbrev pub IsTimeAt : (SystemTime → Type 0) → Duration → Type 0
IsTimeAt Shows time = (now : SystemTime) × Shows now × (as_nanos time ≡ system_time_nanos now)

-- the run is the milliseconds since 1970 of a time that a clock showed
abbrev pub IsRunAt : (SystemTime → Type 0) → ℕ → Type 0
IsRunAt Shows run = (now : SystemTime) × Shows now × (run ≡ system_time_nanos now / 1000000)
