-- The next exchange of a step, and how exchanges ended.
use Rattle.std.specs.Prelude.{◌≡◌, ℕ, ◌+◌, List, [], ◌∷◌, ◌++◌, length, nat_le, Bool, if◌then◌else◌, Option, None, Some}
use Rattle.std.specs.Prelude.{is_some, slice_get}
use Rattle.mq_request.specs.declared.message.Request.{Request}
use Rattle.mq_client.specs.Exchanges.{Exchange, decisions, IsDecision}
use Rattle.mq_client.specs.Past.{Source, Action, Ask, Close, Drain, Step, View, view, reserve_of, closing_of, refuses}
use Rattle.mq_client.specs.Past.{held_for, tries_in}
use Rattle.mq_client.specs.declared.held_transaction.HeldTransaction.{HeldTransaction}
use Rattle.mq_link.specs.declared.link.ExchangeOutcome.{ExchangeOutcome}

-- how many exchanges failed since the last one that decided
abbrev pub failures : List Exchange → ℕ
failures [] = 0
failures (x ∷ group) = if is_some (x.decided) then 0 else failures group + 1

-- the requests that an action sends, in order
abbrev pub queue_of : Source → View → Option HeldTransaction → Action → List Request
queue_of s v held (Ask txn moment login) = if refuses held (length v.live) v.numbers (length v.waiting) moment login then []
    else reserve_of s (v.numbers + 1) txn moment login ∷ []
queue_of s v None (Close txn end) = []
queue_of s v (Some h) (Close txn end) = v.waiting ++ closing_of s (v.numbers + 1) txn end h ∷ []
queue_of s v held Drain = v.waiting

-- the next request of a queue: the first that no exchange decided, up to so many times
abbrev pub next_of : (tries : ℕ) → List Request → List Exchange → Option Request
next_of tries queue group = if nat_le tries (failures group) then None else slice_get queue (decisions group)

-- the request of the next exchange of an action, after its exchanges so far
abbrev pub next : Source → (tries : ℕ) → View → Action → List Exchange → Option Request
next s tries v action group = next_of tries (queue_of s v (held_for v action) action) group

-- the same of a step
abbrev pub next_in : Source → (tries : ℕ) → List Step → Step → Option Request
next_in s tries P x = next s (tries_in tries x.quiet) (view s P) x.action x.group

-- each exchange was the next one when it came
abbrev pub ComeInTurn : (tries : ℕ) → List Request → List Exchange → Type 0
ComeInTurn tries queue [] = Unit {0}
ComeInTurn tries queue (x ∷ group) = (next_of tries queue group ≡ Some x.request)
    × IsDecision x.request x.outcome x.decided × ComeInTurn tries queue group

-- a step so far: each of its exchanges was the next one, and more may be to come
abbrev pub IsUnderway : Source → (tries : ℕ) → List Step → Step → Type 0
IsUnderway s tries P x = let v = view s P in ComeInTurn (tries_in tries x.quiet) (queue_of s v (held_for v x.action) x.action) x.group

-- the same of each step of a past
abbrev pub AreUnderway : Source → (tries : ℕ) → List Step → Type 0
AreUnderway s tries [] = Unit {0}
AreUnderway s tries (x ∷ P) = IsUnderway s tries P x × AreUnderway s tries P

-- which of the steps are quiet
abbrev pub quiets : List Step → List Bool
quiets [] = []
quiets (x ∷ steps) = x.quiet ∷ quiets steps

-- how exchanges ended
abbrev pub outcomes : List Exchange → List ExchangeOutcome
outcomes [] = []
outcomes (x ∷ group) = x.outcome ∷ outcomes group

-- how the exchanges of all the steps ended, of which the newest comes first
abbrev pub all_outcomes : List Step → List ExchangeOutcome
all_outcomes [] = []
all_outcomes (x ∷ steps) = outcomes x.group ++ all_outcomes steps
