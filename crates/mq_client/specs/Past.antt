-- What a client did, and what stands after it. In a past the newest step comes first.
use Rattle.std.specs.Prelude.{◌≡◌, ℕ, ◌+◌, ◌-◌, ◌≤◌, List, [], ◌∷◌, ◌++◌, drop, length, Bool, true, false, ◌==◌, ◌&&◌}
use Rattle.std.specs.Prelude.{◌||◌, not, nat_lt, nat_le, if◌then◌else◌, MatchBool, Option, Some, None}
use Rattle.std.specs.Map.{lookup}
use Rattle.std.specs.BTreeMap.{is_at}
use Rattle.std.specs.Ordering.{nat_cmp}
use Rattle.mq_request.specs.Same.{same_text}
use Rattle.mq_request.specs.declared.message.Id.{Id}
use Rattle.mq_request.specs.declared.message.Request.{Request}
use Rattle.mq_request.specs.declared.message.Request.TheVariants.{Reserve, Settle, Release}
use Rattle.mq_request.specs.declared.message.Reply.{Reply}
use Rattle.mq_request.specs.declared.message.Reply.TheVariants as reply
use Rattle.mq_client.specs.Exchanges.{Exchange, AreTries, Sends, decisions, told_all}
use Rattle.mq_track.specs.declared.closing.CloseEnd.{CloseEnd}
use Rattle.mq_track.specs.declared.closing.CloseEnd.TheVariants as ending
use Rattle.mq_client.specs.declared.recipient_answer.RecipientAnswer.{RecipientAnswer}
use Rattle.mq_client.specs.declared.recipient_answer.RecipientAnswer.TheVariants as asked
use Rattle.mq_client.specs.declared.held_transaction.HeldTransaction.{HeldTransaction}
use Rattle.mq_client.specs.declared.spans.Spans.{Spans}
use Rattle.mq_link.specs.declared.link.ReportedExchange.{ReportedExchange}

-- who asks: a host, and a run of its filter
pub record Source : Type 0 where
  pub host : List ℕ
  pub run : ℕ

-- one recipient of a transaction is asked for, a transaction ends, or what waits is sent
pub data Action : Type 0 where
  Ask : (txn moment : ℕ) (login : List ℕ) → Action
  Close : (txn : ℕ) (end : CloseEnd) → Action
  Drain : Action

-- an action, with its exchanges, of which the newest comes first. A quiet one sends nothing: what it would send is held
-- back
pub record Step : Type 0 where
  pub action : Action
  pub group : List Exchange
  pub quiet : Bool

-- all steps of a run to the end of its input: the last one sends what waits
abbrev pub drained : List Exchange → List Step → List Step
drained group steps = record { action = Drain; group = group; quiet = false } ∷ steps

-- the answer to an ask, by the reply that decided it
abbrev pub answer_by : Option Reply → RecipientAnswer
answer_by (Some (reply.Granted id used)) = asked.Granted
answer_by (Some (reply.Full id used cap)) = asked.Full
answer_by _ = asked.Unavailable

-- the answer to an ask with these exchanges
abbrev pub answer_of : List Exchange → RecipientAnswer
answer_of [] = asked.Unavailable
answer_of (x ∷ group) = answer_by (x.decided)

-- an ask that was answered Granted lets one recipient through
abbrev pub let_through : RecipientAnswer → HeldTransaction → HeldTransaction
let_through asked.Granted h = record { login = h.login; moment = h.moment; granted = h.granted + 1 }
let_through asked.Full h = h
let_through asked.Unavailable h = h

-- a transaction: never asked for, live, or closed, by which end and under which number. With it stand its
-- login and moment, and how many of its recipients were let through
pub data TransactionState : Type 0 where
  Never : TransactionState
  Live : HeldTransaction → TransactionState
  Closed : (end : CloseEnd) (number : ℕ) → HeldTransaction → TransactionState

-- what a past leaves: each transaction, how many numbers are used, the requests that wait, in order, and the
-- live transactions
pub record View : Type 0 where
  pub standing : ℕ → TransactionState
  pub numbers : ℕ
  pub waiting : List Request
  pub live : List ℕ

-- what is known of a transaction while it is live
abbrev pub held_by : TransactionState → Option HeldTransaction
held_by Never = None
held_by (Live h) = Some h
held_by (Closed end number h) = None

-- a transaction from its first exchange on: the first ask gives login and moment
abbrev pub opened : ℕ → List ℕ → Option HeldTransaction → HeldTransaction
opened moment login None = record { login = login; moment = moment; granted = 0 }
opened moment login (Some h) = h

-- the id of a run's request under a number
abbrev pub id_of : Source → ℕ → Id
id_of s number = record { host = s.host; run = s.run; number = number }

-- the request of an ask: one recipient
abbrev pub reserve_of : Source → ℕ → ℕ → ℕ → List ℕ → Request
reserve_of s number txn moment login = Reserve (id_of s number) txn moment login 1

-- smtpd took the message
abbrev pub is_commit : CloseEnd → Bool
is_commit ending.Commit = true
is_commit ending.Rollback = false

-- the request that closes a transaction: a settle of what was let through, where it was committed and that is
-- at least one, and else a release
abbrev pub closing_of : Source → ℕ → ℕ → CloseEnd → HeldTransaction → Request
closing_of s number txn end h = if is_commit end && nat_le 1 h.granted then Settle (id_of s number) txn h.moment h.login h.granted
    else Release (id_of s number) txn h.moment h.login

-- each transaction as it stood, but this one as it stands now
abbrev pub set : ℕ → TransactionState → (ℕ → TransactionState) → ℕ → TransactionState
set txn now standing t = if txn == t then now else standing t

-- the live transactions with one that is asked for
abbrev pub with_asked : ℕ → Option HeldTransaction → List ℕ → List ℕ
with_asked txn None live = txn ∷ live
with_asked txn (Some h) live = live

-- the live transactions without one that is closed
abbrev pub without : ℕ → List ℕ → List ℕ
without txn [] = []
without txn (t ∷ live) = if t == txn then without txn live else t ∷ without txn live

-- an ask with no exchange changes nothing
abbrev pub after_ask : ℕ → ℕ → List ℕ → List Exchange → View → View
after_ask txn moment login [] v = v
after_ask txn moment login (x ∷ group) v = record {
  standing = set txn (Live (let_through (answer_of (x ∷ group))
      (opened moment login (held_by (v.standing txn))))) v.standing;
  numbers = v.numbers + 1;
  waiting = v.waiting;
  live = with_asked txn (held_by (v.standing txn)) v.live;
}

-- the close of a live transaction takes a number, and its request joins the end of those that wait; what was
-- decided waits no longer
abbrev pub after_close : Source → ℕ → CloseEnd → List Exchange → View → Option HeldTransaction → View
after_close s txn end group v None = v
after_close s txn end group v (Some h) = record {
  standing = set txn (Closed end (v.numbers + 1) h) v.standing;
  numbers = v.numbers + 1;
  waiting = drop (decisions group) (v.waiting ++ closing_of s (v.numbers + 1) txn end h ∷ []);
  live = without txn v.live;
}

-- what stands after an action with these exchanges
abbrev pub after : Source → View → Action → List Exchange → View
after s v (Ask txn moment login) group = after_ask txn moment login group v
after s v (Close txn end) group = after_close s txn end group v (held_by (v.standing txn))
after s v Drain group = record {
  standing = v.standing;
  numbers = v.numbers;
  waiting = drop (decisions group) v.waiting;
  live = v.live;
}

-- what a run's past leaves; before its first step nothing is live, used or waits
abbrev pub view : Source → List Step → View
view s [] = record { standing = λ t. Never; numbers = 0; waiting = []; live = [] }
view s (x ∷ P) = after s (view s P) x.action x.group

-- Which step may come next.

-- the transaction is held with another login or moment
abbrev pub is_other : HeldTransaction → ℕ → List ℕ → Bool
is_other h moment login = not (same_text h.login login) || not (h.moment == moment)

-- the unused numbers are fewer than one and one for the closing of each held transaction
abbrev pub lacks_numbers : ℕ → ℕ → Bool
lacks_numbers numbers held = nat_lt (4294967295 - numbers) (1 + held)

-- an ask that makes no exchange: of a held transaction that is another or has let 1,000 recipients through, of
-- one that isn't held where no place is left, or where numbers are lacking
abbrev pub refuses : Option HeldTransaction → (live numbers waiting moment : ℕ) → List ℕ → Bool
refuses (Some h) live numbers waiting moment login =
    is_other h moment login || (nat_le 1000 h.granted || lacks_numbers numbers live)
refuses None live numbers waiting moment login = nat_le 4096 (live + waiting) || lacks_numbers numbers (live + 1)

-- the exchanges that an action may have, by what stands before it: the transaction, where it is live, the live
-- ones, the numbers used and what waits
abbrev pub PlaysFrom : Source → (tries : ℕ) → Option HeldTransaction → (live numbers : ℕ) → List Request → Action → List Exchange
    → Type 0
PlaysFrom s tries held live numbers waiting (Ask txn moment login) group =
    MatchBool (refuses held live numbers (length waiting) moment login)
    (group ≡ [])
    ((decided : Option Reply) × AreTries tries (reserve_of s (numbers + 1) txn moment login) group decided)
PlaysFrom s tries None live numbers waiting (Close txn end) group = group ≡ []
PlaysFrom s tries (Some h) live numbers waiting (Close txn end) group =
    (left : List Request) × Sends tries (waiting ++ closing_of s (numbers + 1) txn end h ∷ []) group left
PlaysFrom s tries held live numbers waiting Drain group = (left : List Request) × Sends tries waiting group left

-- what is known of the transaction that an action names, while it is live
abbrev pub held_for : View → Action → Option HeldTransaction
held_for v (Ask txn moment login) = held_by (v.standing txn)
held_for v (Close txn end) = held_by (v.standing txn)
held_for v Drain = None

-- how often a step tries each request
abbrev pub tries_in : (tries : ℕ) (quiet : Bool) → ℕ
tries_in tries true = 0
tries_in tries false = tries

-- the step may come next
abbrev pub Plays : Source → (tries : ℕ) → List Step → Step → Type 0
Plays s tries P x = let v = view s P in PlaysFrom s (tries_in tries x.quiet) (held_for v x.action)
    (length v.live) v.numbers v.waiting x.action x.group

-- each step could come next when it came
abbrev pub IsPlayed : Source → (tries : ℕ) → List Step → Type 0
IsPlayed s tries [] = Unit {0}
IsPlayed s tries (x ∷ P) = Plays s tries P x × IsPlayed s tries P

-- A client, at the pasts that it may have.

-- a client as its callers see it: how often a request is tried, how long the filter holds back, the live transactions,
-- how many numbers are used, and what waits
pub record State : Type 0 where
  pub source : Source
  pub tries : ℕ
  pub spans : Spans
  pub held : List (ℕ × HeldTransaction)
  pub numbers : ℕ
  pub waiting : List Request

-- what a map of transactions has of one
abbrev pub find : List (ℕ × HeldTransaction) → ℕ → Option HeldTransaction
find held txn = lookup (is_at (nat_cmp txn)) held

-- the client's view is that of the past
pub record StandsAt (c : State) (P : List Step) : Type 0 where
  pub held : (txn : ℕ) → find c.held txn ≡ held_by ((view c.source P).standing txn)
  pub live : length c.held ≡ length (view c.source P).live
  pub numbers : c.numbers ≡ (view c.source P).numbers
  pub waiting : c.waiting ≡ (view c.source P).waiting

-- the client made a step: at whatever past it stood, the step may come next, and it stands there now
pub record Makes (old new : State) (x : Step) : Type 0 where
  pub source : new.source ≡ old.source
  pub tries : new.tries ≡ old.tries
  pub plays : (P : List Step) → StandsAt old P → Plays old.source old.tries P x
  pub stands : (P : List Step) → StandsAt old P → StandsAt new (x ∷ P)

-- each of some steps could come next when it came, after the past
abbrev pub ArePlayed : Source → (tries : ℕ) → (past steps : List Step) → Type 0
ArePlayed s tries P [] = Unit {0}
ArePlayed s tries P (x ∷ steps) = Plays s tries (steps ++ P) x × ArePlayed s tries P steps

-- the same of some steps, of which the newest comes first
pub record MakesAll (old new : State) (steps : List Step) : Type 0 where
  pub source : new.source ≡ old.source
  pub tries : new.tries ≡ old.tries
  pub plays : (P : List Step) → StandsAt old P → ArePlayed old.source old.tries P steps
  pub stands : (P : List Step) → StandsAt old P → StandsAt new (steps ++ P)

-- the exchanges of some steps as the link reports them, the oldest first
abbrev pub told_steps : List Step → List ReportedExchange
told_steps [] = []
told_steps (x ∷ steps) = told_steps steps ++ told_all x.group

-- few are live or waiting, and each live transaction has a number left for its closing
pub record IsBounded (v : View) : Type 0 where
  pub places : length v.live + length v.waiting ≤ 4096
  pub numbers : v.numbers + length v.live ≤ 4294967295
