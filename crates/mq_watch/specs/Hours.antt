-- Which clocks are far apart, and when an hour is over.
use Rattle.std.specs.Prelude.{ℕ, ◌+◌, ◌/◌, ◌<◌, ◌≤◌, ◌⊎◌, min, max, Option, Some, None}
use Rattle.mq_request.specs.declared.bounds.TheConstants.{FIRST_MOMENT, LAST_MOMENT}

-- the whole seconds of so many milliseconds, where they are known
abbrev pub seconds_at : Option ℕ → Option ℕ
seconds_at (Some millis) = Some (millis / 1000)
seconds_at None = None

-- the moment that is nearest to a clock's: both in seconds
abbrev pub nearest_moment : ℕ → ℕ
nearest_moment seconds = min (max seconds FIRST_MOMENT) LAST_MOMENT

-- the day of a clock in milliseconds since 1970, on days that go so
abbrev pub clock_day : (ℕ → ℕ) → ℕ → ℕ
clock_day day millis = day (nearest_moment (millis / 1000))

-- days with at least one day between them
abbrev pub AreFar : ℕ → ℕ → Type 0
AreFar day today = (day + 1 < today) ⊎ (today + 1 < day)

-- moments that are less than half a day apart, in seconds
abbrev pub AreClose : ℕ → ℕ → Type 0
AreClose at now = (at < now + 43200) × (now < at + 43200)

-- an hour that began at the one moment is over at the other, or the clock was put back; both in seconds
abbrev pub IsOver : ℕ → ℕ → Type 0
IsOver since now = (since + 3600 ≤ now) ⊎ (now < since)

-- a moment lies on a day that is far from the server's, and half a day or more away, on days that go so
abbrev pub IsOff : (ℕ → ℕ) → ℕ → ℕ → Type 0
IsOff day moment now = AreFar (day moment) (day now) × (AreClose moment now → ⊥)
