-- The limit of a login on a day.
use Rattle.std.specs.Prelude.{ℕ, List, filter, fold, Bool, false, ◌==◌, ◌&&◌, nat_le, if◌then◌else◌, Option}
use Rattle.std.specs.Prelude.{Some, None}
use Rattle.mq_request.specs.declared.message.Request.{Request}
use Rattle.mq_request.specs.declared.message.Request.TheVariants.{Limit}
use Rattle.mq_request.specs.declared.message.Reply.{Reply}
use Rattle.mq_request.specs.declared.message.Reply.TheVariants.{LimitSet}
use Rattle.mq_request.specs.Same.{same_text}
use Rattle.mq_ledger.specs.declared.entry.Entry.{Entry}
use Rattle.mq_ledger.specs.Arrivals.{greater}

-- a limit of the login that was set
abbrev pub sets : List ℕ → Request → Reply → Bool
sets l (Limit id from_day cap login) (LimitSet id') = same_text l login
sets l _ _ = false

-- the day from which a limit is to hold
abbrev pub from_of : Request → ℕ
from_of (Limit id from_day cap login) = from_day
from_of _ = 0

-- the cap that a limit asks for
abbrev pub cap_of : Request → ℕ
cap_of (Limit id from_day cap login) = cap
cap_of _ = 0

-- a limit of the login that was set from that day or an earlier one on
abbrev pub governs : List ℕ → ℕ → Entry → Bool
governs l d e = sets l e.request e.reply && nat_le (from_of e.request) d

-- the limits that come into question on that day
abbrev pub limits : List Entry → List ℕ → ℕ → List Entry
limits H l d = filter (governs l d) H

-- the greatest from-day of limits
abbrev pub latest : List Entry → ℕ
latest es = fold (λ m e. greater m (from_of e.request)) 0 es

-- the cap of the last of limits, or the default where there is none
abbrev pub last_cap : ℕ → List Entry → ℕ
last_cap default es = fold (λ _ e. cap_of e.request) default es

-- of those with the greatest from-day, the last
abbrev pub cap : ℕ → List Entry → List ℕ → ℕ → ℕ
cap default H l d = last_cap default (filter (λ e. from_of e.request == latest (limits H l d)) (limits H l d))

-- a limit of the login that was set from that very day on
abbrev pub sets_from : List ℕ → ℕ → Entry → Bool
sets_from l d e = sets l e.request e.reply && (from_of e.request == d)

-- the cap of the last limit of the login that was set from that very day on
abbrev pub set_cap : List Entry → List ℕ → ℕ → Option ℕ
set_cap H l d = fold (λ c e. if sets_from l d e then Some (cap_of e.request) else c) None H
