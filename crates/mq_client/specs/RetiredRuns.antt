-- When a log says that a filter's run is retired, by the seconds of smtpd's lines.
use Rattle.std.specs.Prelude.{ℕ, Bool, true, Option, None, Some}
use Rattle.mq_client.specs.Holding.{is_over}

-- as a request of a line of this second is refused an error is due: the first one, and the next where the latest is a
-- minute old, or of a later second, since the clock went back
abbrev pub is_due : (told : Option ℕ) → (seconds : ℕ) → Bool
is_due None seconds = true
is_due (Some told) seconds = is_over 60 told seconds
