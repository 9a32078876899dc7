-- Which requests are ahead of the server's time.
use Rattle.std.specs.Prelude.{ℕ, ◌+◌, ◌<◌, Option, Some}
use Rattle.mq_request.specs.declared.message.Request.{Request}
use Rattle.mq_request.specs.declared.message.Request.TheVariants.{Limit, Reserve, Retire}
use Rattle.mq_watch.specs.declared.calendar.ServerTime.{ServerTime}

-- A retire of a run that is more than an hour later than the clock shows, in milliseconds since 1970; and a reserve for a day
-- that is later than the one after today, on days that go so. Where the clock can't be read, none is.
abbrev pub IsAhead : (ℕ → ℕ) → Request → Option ServerTime → Type 0
IsAhead day (Retire id) (Some now) = now.millis + 3600000 < id.run
IsAhead day (Reserve id txn moment login count) (Some now) = now.today + 1 < day moment
IsAhead day _ _ = ⊥

-- a request that may be put with others: before a limit a question is put, and what is ahead isn't put
abbrev pub MayBePutWithOthers : (ℕ → ℕ) → Option ServerTime → Request → Type 0
MayBePutWithOthers day now (Limit id from_day cap login) = ⊥
MayBePutWithOthers day now r = IsAhead day r now → ⊥
