-- What is remembered of a history where the days before a day are forgotten.
--
-- `day` gives the day of a moment. Limits that were set stay, and retires, and each entry that is about D or a later
-- day: a limit by the day from which it is to hold, all else by the day of its transaction.
use Rattle.std.specs.Prelude.{◌≡◌, ◌⊎◌, ℕ, List, [], ◌∷◌, filter, Bool, true, false, not, ◌&&◌, ◌||◌, nat_le, Option, Some, None, is_some, is_none}
use Rattle.mq_request.specs.Same.{same_request}
use Rattle.mq_request.specs.declared.message.Id.{Id}
use Rattle.mq_request.specs.declared.message.Request.{Request}
use Rattle.mq_request.specs.declared.message.Request.TheVariants.{Reserve, Settle, Release, Limit, Usage}
use Rattle.mq_request.specs.declared.message.Request.TheVariants.{List as ListRequest, Retire}
use Rattle.mq_request.specs.declared.message.Reply.{Reply}
use Rattle.mq_request.specs.declared.message.Reply.TheVariants.{LimitSet}
use Rattle.mq_ledger.specs.declared.entry.Entry.{Entry}
use Rattle.mq_ledger.specs.Answer.{stored, known_by, reply, with_arrival}
use Rattle.mq_ledger.specs.Arrivals.{id_of, is_below}
use Rattle.mq_ledger.specs.History.{Transaction, requests, transaction, named, moment_of}
use Rattle.mq_ledger.specs.Day.{day_of}
use Rattle.mq_ledger.specs.Legal.{Book}

-- the day of a transaction: that of the entry that names it, or of the moment where none does
abbrev pub day_named : (ℕ → ℕ) → ℕ → Option Entry → ℕ
day_named day moment None = day moment
day_named day moment (Some e) = day (moment_of e.request)

-- the request is about D or a later day: by its transaction in H, its from-day, or the day that it asks for; a retire
-- is about all days
abbrev pub is_about : (ℕ → ℕ) → ℕ → List Entry → Request → Bool
is_about day D H (Reserve id txn moment login count) = nat_le D (day_named day moment (named H (transaction id txn)))
is_about day D H (Settle id txn moment login count) = nat_le D (day_named day moment (named H (transaction id txn)))
is_about day D H (Release id txn moment login) = nat_le D (day_named day moment (named H (transaction id txn)))
is_about day D H (Limit id from_day cap login) = nat_le D from_day
is_about day D H (Usage login d) = nat_le D d
is_about day D H (ListRequest d after) = nat_le D d
is_about day D H (Retire id) = true

-- a limit that was set
abbrev pub is_set : Request → Reply → Bool
is_set (Limit id from_day cap login) (LimitSet id') = true
is_set _ _ = false

-- the entry of H stays
abbrev pub stays : (ℕ → ℕ) → ℕ → List Entry → Entry → Bool
stays day D H e = is_about day D H e.request || is_set e.request e.reply

-- H without the days before D
abbrev pub remembered : (ℕ → ℕ) → ℕ → List Entry → List Entry
remembered day D H = filter (stays day D H) H

-- what is remembered of a book from day D on
abbrev pub remembered_book : ℕ → Book → Book
remembered_book D b = record { zone = b.zone; default = b.default; history = remembered (day_of b.zone) D b.history }

-- by the entry with the number of the request: it stays; where there is none, the request is about D or a later day
abbrev pub is_remembered : (ℕ → ℕ) → ℕ → List Entry → Request → Option Entry → Bool
is_remembered day D H r None = is_about day D H r
is_remembered day D H r (Some e) = stays day D H e

-- by the number of the request, where it has one: its run is given up, or it is no forgotten one
abbrev pub is_later_by : (ℕ → ℕ) → ℕ → List Entry → Request → Option Id → Bool
is_later_by day D H r None = is_about day D H r
is_later_by day D H r (Some id) = is_below (requests H) id || is_remembered day D H r (stored H id)

-- the request is about D or a later day, and its number isn't that of a forgotten entry; or its run is given up
abbrev pub is_later : (ℕ → ℕ) → ℕ → List Entry → Request → Bool
is_later day D H r = is_later_by day D H r (id_of r)

-- each arrival is so, over the history as it comes
abbrev pub AreLater : (ℕ → ℕ) → ℕ → ℕ → List Entry → List Request → Type 0
AreLater day default D H [] = Unit {0}
AreLater day default D H (r ∷ rs) = (is_later day D H r ≡ true) × AreLater day default D (with_arrival day default H r) rs

-- the request is about an earlier day, and isn't replied LimitSet, whatever its number
abbrev pub is_past : (ℕ → ℕ) → (default : ℕ) → ℕ → List Entry → Request → Bool
is_past day default D H r = not (is_about day D H r || is_set r (reply day default H r))

-- each arrival is later over both histories, as they come, or past over both, or its number is known to both
abbrev pub AreLaterOrPast : (ℕ → ℕ) → (default : ℕ) → ℕ → (H K : List Entry) → List Request → Type 0
AreLaterOrPast day default D H K [] = Unit {0}
AreLaterOrPast day default D H K (r ∷ rs) =
    (((is_later day D H r ≡ true) × (is_later day D K r ≡ true))
    ⊎ (((is_past day default D H r ≡ true) × (is_past day default D K r ≡ true))
    ⊎ ((known_by H (id_of r) ≡ true) × (known_by K (id_of r) ≡ true))))
    × AreLaterOrPast day default D (with_arrival day default H r) (with_arrival day default K r) rs

-- a reserve, settle or release with a moment before D, or a usage or list of an earlier day
abbrev pub names_earlier : (ℕ → ℕ) → ℕ → Request → Bool
names_earlier day D (Reserve id txn moment login count) = not (nat_le D (day moment))
names_earlier day D (Settle id txn moment login count) = not (nat_le D (day moment))
names_earlier day D (Release id txn moment login) = not (nat_le D (day moment))
names_earlier day D (Limit id from_day cap login) = false
names_earlier day D (Usage login d) = not (nat_le D d)
names_earlier day D (ListRequest d after) = not (nat_le D d)
names_earlier day D (Retire id) = false

-- no other request has the number of the request: its entry is this very one, or there is none
abbrev pub is_itself : Request → Option Entry → Bool
is_itself r None = true
is_itself r (Some e) = same_request r e.request

-- so it is under the number of the request; one without a number is always itself
abbrev pub is_itself_by : List Entry → Request → Option Id → Bool
is_itself_by H r None = true
is_itself_by H r (Some id) = is_itself r (stored H id)

-- an entry after G, which H begins with, was the first with this number
abbrev pub is_used_since : (G H : List Entry) → Option Id → Bool
is_used_since G H None = false
is_used_since G H (Some id) = is_some (stored H id) && is_none (stored G id)

-- an entry after G was the first of the transaction
abbrev pub is_heard_since : (G H : List Entry) → Transaction → Bool
is_heard_since G H t = is_some (named H t) && is_none (named G t)

-- a reserve, settle or release of a transaction that was first heard of after G
abbrev pub is_of_one_since : (G H : List Entry) → Request → Bool
is_of_one_since G H (Reserve id txn moment login count) = is_heard_since G H (transaction id txn)
is_of_one_since G H (Settle id txn moment login count) = is_heard_since G H (transaction id txn)
is_of_one_since G H (Release id txn moment login) = is_heard_since G H (transaction id txn)
is_of_one_since G H (Limit id from_day cap login) = false
is_of_one_since G H (Usage login d) = false
is_of_one_since G H (ListRequest d after) = false
is_of_one_since G H (Retire id) = false

-- The request is about an earlier day by its transaction, and by its own words where its transaction was known at the
-- forgetting, of G. It comes for the first time or again.
abbrev pub is_late : (ℕ → ℕ) → ℕ → (G H : List Entry) → Request → Bool
is_late day D G H r = ((names_earlier day D r || is_of_one_since G H r) && not (is_about day D H r))
    && is_itself_by H r (id_of r)

-- each arrival is later or late, over the history as it comes since the forgetting, of G, or its number was used since
abbrev pub AreLaterOrLateSince : (ℕ → ℕ) → (default : ℕ) → ℕ → (G H : List Entry) → List Request → Type 0
AreLaterOrLateSince day default D G H [] = Unit {0}
AreLaterOrLateSince day default D G H (r ∷ rs) = ((is_later day D H r ≡ true)
    ⊎ ((is_late day D G H r ≡ true) ⊎ (is_used_since G H (id_of r) ≡ true)))
    × AreLaterOrLateSince day default D G (with_arrival day default H r) rs

-- so it is since H
abbrev pub AreLaterOrLate : (ℕ → ℕ) → (default : ℕ) → ℕ → List Entry → List Request → Type 0
AreLaterOrLate day default D H A = AreLaterOrLateSince day default D H H A

-- where there is an entry, it stays
abbrev pub stays_if : (ℕ → ℕ) → ℕ → List Entry → Option Entry → Bool
stays_if day D H None = true
stays_if day D H (Some e) = stays day D H e

-- the number of the request, where it has one, isn't that of an entry that is forgotten of H
abbrev pub is_of_no_forgotten : (ℕ → ℕ) → ℕ → List Entry → Option Id → Bool
is_of_no_forgotten day D H None = true
is_of_no_forgotten day D H (Some id) = stays_if day D H (stored H id)
