-- What a past leaves, read off the whole list of its steps, of which the newest comes first.
use Rattle.std.specs.Prelude.{ℕ, ◌+◌, List, [], ◌∷◌, ◌++◌, Bool, true, false, ◌==◌, ◌&&◌, not, if◌then◌else◌, Option}
use Rattle.std.specs.Prelude.{None, Some, is_some, unwrap_or, filter, count_by}
use Rattle.std.specs.List.{filter_map, list_any}
use Rattle.mq_request.specs.Same.{same_request}
use Rattle.mq_request.specs.declared.message.Request.{Request}
use Rattle.mq_client.specs.Exchanges.{Exchange}
use Rattle.mq_client.specs.Past.{Source, Action, Ask, Close, Drain, Step, TransactionState, Never, Live, Closed, answer_of}
use Rattle.mq_client.specs.Past.{closing_of}
use Rattle.mq_track.specs.declared.closing.CloseEnd.{CloseEnd}
use Rattle.mq_client.specs.declared.recipient_answer.RecipientAnswer.{RecipientAnswer}
use Rattle.mq_client.specs.declared.recipient_answer.RecipientAnswer.TheVariants as asked
use Rattle.mq_client.specs.declared.held_transaction.HeldTransaction.{HeldTransaction}

-- an ask that made an exchange
pub record Asking : Type 0 where
  pub login : List ℕ
  pub moment : ℕ
  pub answer : RecipientAnswer

-- the action closes the transaction
abbrev pub closes : ℕ → Action → Bool
closes t (Ask txn moment login) = false
closes t (Close txn end) = txn == t
closes t Drain = false

-- the steps that follow the last close of a transaction
abbrev pub since_close : ℕ → List Step → List Step
since_close t [] = []
since_close t (x ∷ P) = if closes t x.action then [] else x ∷ since_close t P

-- an ask of the transaction, where the step is one that made an exchange
abbrev pub asking : ℕ → Action → List Exchange → Option Asking
asking t (Ask txn moment login) [] = None
asking t (Ask txn moment login) (x ∷ group) = if txn == t
    then Some (record { login = login; moment = moment; answer = answer_of (x ∷ group) }) else None
asking t (Close txn end) group = None
asking t Drain group = None

-- the asks of a transaction, with an exchange, that follow its last close
abbrev pub asks_of : ℕ → List Step → List Asking
asks_of t P = filter_map (λ x. asking t x.action x.group) (since_close t P)

-- the first of some asks, which stands last
abbrev pub first_of : Asking → List Asking → Asking
first_of a [] = a
first_of a (b ∷ more) = first_of b more

-- the answer lets a recipient through
abbrev pub is_granted : RecipientAnswer → Bool
is_granted asked.Granted = true
is_granted asked.Full = false
is_granted asked.Unavailable = false

-- a transaction is live where such asks of it are there: the first gives login and moment, and those that were
-- answered Granted were let through
abbrev pub live_by : List Asking → Option HeldTransaction
live_by [] = None
live_by (a ∷ more) = Some (record {
  login = (first_of a more).login;
  moment = (first_of a more).moment;
  granted = count_by (λ b. is_granted b.answer) (a ∷ more);
})

-- what the past says of a transaction that is live after it
abbrev pub live_in : List Step → ℕ → Option HeldTransaction
live_in P t = live_by (asks_of t P)

-- the server was asked
abbrev pub has_exchange : List Exchange → Bool
has_exchange [] = false
has_exchange (x ∷ group) = true

-- the step after the past takes a number: an ask with an exchange, or a close of a transaction then live
abbrev pub takes_number : List Step → Action → List Exchange → Bool
takes_number P (Ask txn moment login) group = has_exchange group
takes_number P (Close txn end) group = is_some (live_in P txn)
takes_number P Drain group = false

-- how many steps took a number: the n-th of them has number n
abbrev pub numbers_in : List Step → ℕ
numbers_in [] = 0
numbers_in (x ∷ P) = if takes_number P x.action x.group then numbers_in P + 1 else numbers_in P

-- a transaction that a close found live, under the number of the close
abbrev pub closed_by : ℕ → (number : ℕ) → Action → Option HeldTransaction → Option TransactionState
closed_by t number (Ask txn moment login) held = None
closed_by t number (Close txn end) None = None
closed_by t number (Close txn end) (Some h) = if txn == t then Some (Closed end number h) else None
closed_by t number Drain held = None

-- a transaction that isn't live, as the last close that found it live left it
abbrev pub closed_in : List Step → ℕ → TransactionState
closed_in [] t = Never
closed_in (x ∷ P) t = unwrap_or (closed_by t (numbers_in P + 1) x.action (live_in P t)) (closed_in P t)

-- how a transaction stands: live, or as its last close left it
abbrev pub live_or : Option HeldTransaction → TransactionState → TransactionState
live_or None before = before
live_or (Some h) before = Live h

-- how a transaction stands after the past
abbrev pub standing_in : List Step → ℕ → TransactionState
standing_in P t = live_or (live_in P t) (closed_in P t)

-- the request of the close of a transaction, under its number, where it was live
abbrev pub closing_under : Source → (number txn : ℕ) → CloseEnd → Option HeldTransaction → List Request
closing_under s number txn end None = []
closing_under s number txn end (Some h) = closing_of s number txn end h ∷ []

-- the request of an action after the past, where it closes a live transaction
abbrev pub closing_by : Source → List Step → Action → List Request
closing_by s P (Ask txn moment login) = []
closing_by s P (Close txn end) = closing_under s (numbers_in P + 1) txn end (live_in P txn)
closing_by s P Drain = []

-- the requests of all closes of transactions then live, in order
abbrev pub closings_in : Source → List Step → List Request
closings_in s [] = []
closings_in s (x ∷ P) = closings_in s P ++ closing_by s P x.action

-- an exchange of the request decided it
abbrev pub is_decided_by : List Exchange → Request → Bool
is_decided_by group request = list_any (λ x. same_request x.request request && is_some (x.decided)) group

-- an exchange of the past decided the request
abbrev pub is_decided_in : List Step → Request → Bool
is_decided_in P request = list_any (λ x. is_decided_by x.group request) P

-- those that no exchange decided
abbrev pub waiting_in : Source → List Step → List Request
waiting_in s P = filter (λ request. not (is_decided_in P request)) (closings_in s P)
