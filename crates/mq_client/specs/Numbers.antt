-- Which request a number of a run was used for, and what a request says of its transaction. Of a past the newest step
-- comes first.
use Rattle.std.specs.Prelude.{◌≡◌, ◌⊎◌, ℕ, ◌+◌, ◌≤◌, List, [], ◌∷◌, ◌++◌, Bool, true, false, ◌==◌, if◌then◌else◌}
use Rattle.std.specs.Prelude.{Option, None, Some}
use Rattle.std.specs.Option.{option_map, option_or}
use Rattle.mq_request.specs.declared.message.Id.{Id}
use Rattle.mq_request.specs.declared.message.Request.{Request}
use Rattle.mq_request.specs.declared.message.Request.TheVariants.{Reserve, Settle, Release, Limit, Usage}
use Rattle.mq_request.specs.declared.message.Request.TheVariants.{List as ListRequest, Retire}
use Rattle.mq_client.specs.Exchanges.{Exchange}
use Rattle.mq_client.specs.Past.{Source, Action, Ask, Close, Drain, Step, TransactionState, Never, Live, Closed, View, view}
use Rattle.mq_client.specs.Past.{id_of, reserve_of, closing_of}
use Rattle.mq_client.specs.Reading.{live_in, numbers_in}
use Rattle.mq_track.specs.declared.closing.CloseEnd.TheVariants.{Commit}
use Rattle.mq_client.specs.declared.held_transaction.HeldTransaction.{HeldTransaction}

-- the id that a request carries
abbrev pub id_in : Request → Option Id
id_in (Reserve id txn moment login count) = Some id
id_in (Settle id txn moment login count) = Some id
id_in (Release id txn moment login) = Some id
id_in (Limit id from_day cap login) = Some id
id_in (Usage login day) = None
id_in (ListRequest day after) = None
id_in (Retire id) = Some id

-- the transaction that a request names
abbrev pub txn_in : Request → Option ℕ
txn_in (Reserve id txn moment login count) = Some txn
txn_in (Settle id txn moment login count) = Some txn
txn_in (Release id txn moment login) = Some txn
txn_in _ = None

-- all exchanges of a past
abbrev pub exchanges_in : List Step → List Exchange
exchanges_in [] = []
exchanges_in (x ∷ P) = x.group ++ exchanges_in P

-- the request of a step after the past, where it takes a number
abbrev pub request_by : Source → List Step → Action → List Exchange → Option Request
request_by s P (Ask txn moment login) [] = None
request_by s P (Ask txn moment login) (x ∷ group) = Some (reserve_of s (numbers_in P + 1) txn moment login)
request_by s P (Close txn end) group = option_map (closing_of s (numbers_in P + 1) txn end) (live_in P txn)
request_by s P Drain group = None

-- the request that a number was used for
abbrev pub request_under : Source → List Step → ℕ → Option Request
request_under s [] n = None
request_under s (x ∷ P) n = if numbers_in P + 1 == n
    then option_or (request_by s P x.action x.group) (request_under s P n) else request_under s P n

-- a used number was used for the request, which carries it
pub record IsNumbered (s : Source) (P : List Step) (q : Request) : Type 0 where
  pub number : ℕ
  pub used : number ≤ numbers_in P
  pub id : id_in q ≡ Some (id_of s number)
  pub under : request_under s P number ≡ Some q

-- a close by Commit found the transaction live, with that login and moment, and with so many let through
pub record WasCommitted (P : List Step) (txn moment : ℕ) (login : List ℕ) (count : ℕ) : Type 0 where
  pub later : List Step
  pub group : List Exchange
  pub quiet : Bool
  pub before : List Step
  pub held : HeldTransaction
  pub whole : P ≡ later ++ record { action = Close txn Commit; group = group; quiet = quiet } ∷ before
  pub live : live_in before txn ≡ Some held
  pub moment_is : held.moment ≡ moment
  pub login_is : held.login ≡ login
  pub count_is : held.granted ≡ count

-- a settle asks for what was let through
abbrev pub SettlesWhatWasLet : List Step → Request → Type 0
SettlesWhatWasLet P (Settle id txn moment login count) = WasCommitted P txn moment login count
SettlesWhatWasLet P _ = Unit {0}

-- a transaction that was closed, by whichever end
abbrev pub is_closed : TransactionState → Bool
is_closed Never = false
is_closed (Live h) = false
is_closed (Closed end number h) = true

-- an action asks for no transaction that was closed
abbrev pub AsksForNoClosed : View → Action → Type 0
AsksForNoClosed v (Ask txn moment login) = is_closed (v.standing txn) ≡ false
AsksForNoClosed v _ = Unit {0}

-- no step of a past did
abbrev pub NoneReturns : Source → List Step → Type 0
NoneReturns s [] = Unit {0}
NoneReturns s (x ∷ P) = AsksForNoClosed (view s P) x.action × NoneReturns s P

-- a request under a number suits its transaction: a reserve with its login and moment, or the one request of its close
abbrev pub Suits : Source → (n txn : ℕ) → TransactionState → Request → Type 0
Suits s n txn Never q = ⊥
Suits s n txn (Live h) q = q ≡ reserve_of s n txn h.moment h.login
Suits s n txn (Closed end number h) q = (q ≡ reserve_of s n txn h.moment h.login)
    ⊎ ((n ≡ number) × (q ≡ closing_of s n txn end h))
