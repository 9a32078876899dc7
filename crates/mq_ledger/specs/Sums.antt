-- What transactions hold and settled, by the login and day that they were named with.
use Rattle.std.specs.Prelude.{◌≡◌, ℕ, List, [], ◌∷◌, Bool, true, false, ◌==◌, ◌&&◌, if◌then◌else◌, Option, Some, None}
use Rattle.std.specs.Prelude.{is_some}
use Rattle.std.specs.List.{list_any}
use Rattle.mq_request.specs.declared.message.Request.{Request}
use Rattle.mq_request.specs.declared.message.Request.TheVariants.{Reserve, Settle, Release, Limit, Usage}
use Rattle.mq_request.specs.declared.message.Request.TheVariants.{List as ListRequest, Retire}
use Rattle.mq_request.specs.Same.{same_text}
use Rattle.mq_ledger.specs.declared.entry.Entry.{Entry}
use Rattle.mq_ledger.specs.History.{Transaction, same_transaction, named, held, settled_in}

-- the request is a reserve, settle or release of that login and day
abbrev pub is_for : (ℕ → ℕ) → List ℕ → ℕ → Request → Bool
is_for day l d (Reserve id txn moment login count) = same_text l login && (day moment == d)
is_for day l d (Settle id txn moment login count) = same_text l login && (day moment == d)
is_for day l d (Release id txn moment login) = same_text l login && (day moment == d)
is_for day l d (Limit id from_day cap login) = false
is_for day l d (Usage login day') = false
is_for day l d (ListRequest day' after) = false
is_for day l d (Retire id) = false

-- the entry that names a transaction gives it that login and day
abbrev pub names_for : (ℕ → ℕ) → List ℕ → ℕ → Option Entry → Bool
names_for day l d None = false
names_for day l d (Some e) = is_for day l d e.request

-- what the transaction holds, where it was named with that login and day
abbrev pub held_on : (ℕ → ℕ) → List Entry → List ℕ → ℕ → Transaction → ℕ
held_on day H l d t = if names_for day l d (named H t) then held H t else 0

-- what the transaction settled, where it was named with that login and day
abbrev pub settled_on : (ℕ → ℕ) → List Entry → List ℕ → ℕ → Transaction → ℕ
settled_on day H l d t = if names_for day l d (named H t) then settled_in H t else 0

-- no transaction comes twice
abbrev pub AreDistinct : List Transaction → Type 0
AreDistinct [] = Unit {0}
AreDistinct (t ∷ ts) = (list_any (same_transaction t) ts ≡ false) × AreDistinct ts

-- each transaction that has an entry is among them
abbrev pub HasAllNamed : List Entry → List Transaction → Type 0
HasAllNamed H ts = (t : Transaction) → is_some (named H t) ≡ true → list_any (same_transaction t) ts ≡ true
