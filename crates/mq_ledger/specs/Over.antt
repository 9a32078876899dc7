-- The first day on which a login has used more than a limit would allow.
use Rattle.std.specs.Prelude.{ℕ, ◌<◌, ◌≤◌, List, [], ◌∷◌, filter, ◌&&◌, nat_lt, nat_le, if◌then◌else◌, Option, Some}
use Rattle.std.specs.Prelude.{None}
use Rattle.std.specs.List.{filter_map}
use Rattle.mq_request.specs.declared.message.Request.{Request}
use Rattle.mq_request.specs.declared.message.Request.TheVariants.{Reserve, Settle}
use Rattle.mq_request.specs.declared.message.Reply.{Reply}
use Rattle.mq_request.specs.declared.message.Reply.TheVariants.{Granted, Settled}
use Rattle.mq_request.specs.Same.{same_text}
use Rattle.mq_ledger.specs.declared.entry.Entry.{Entry}
use Rattle.mq_ledger.specs.History.{used}

-- the day of the login's granted reserve or settled settle, where it is that day or a later one
abbrev pub day_from : (ℕ → ℕ) → List ℕ → ℕ → Request → Reply → Option ℕ
day_from day l from (Reserve id txn moment login count) (Granted id' n) =
    if same_text l login && nat_le from (day moment) then Some (day moment) else None
day_from day l from (Settle id txn moment login count) (Settled id' n) =
    if same_text l login && nat_le from (day moment) then Some (day moment) else None
day_from day l from _ _ = None

-- the days from that day on on which the login has any
abbrev pub days_from : (ℕ → ℕ) → List Entry → List ℕ → ℕ → List ℕ
days_from day H l from = filter_map (λ e. day_from day l from e.request e.reply) H

-- the lesser of the two, where there is a second
abbrev pub lesser : ℕ → Option ℕ → ℕ
lesser n None = n
lesser n (Some m) = if nat_lt m n then m else n

-- the least of a list of numbers
abbrev pub least : List ℕ → Option ℕ
least [] = None
least (n ∷ ns) = Some (lesser n (least ns))

-- the least of those days on which more than c is used
abbrev pub over : (ℕ → ℕ) → List Entry → List ℕ → ℕ → ℕ → Option ℕ
over day H l from c = least (filter (λ d. nat_lt c (used day H l d)) (days_from day H l from))

-- of all days from that day on it is the least with more than c used; where there is none, no day has
abbrev pub IsLeastOver : (ℕ → ℕ) → List Entry → List ℕ → ℕ → ℕ → Option ℕ → Type 0
IsLeastOver day H l from c None = (d : ℕ) → from ≤ d → used day H l d ≤ c
IsLeastOver day H l from c (Some d) =
    (from ≤ d) × (c < used day H l d) × ((e : ℕ) → from ≤ e → e < d → used day H l e ≤ c)
