-- What a ledger is asked for the log, and what that leaves of it.
use Rattle.std.specs.Prelude.{◌≡◌, ◌⊎◌, ⊤, ℕ, ◌+◌, List, [], ◌∷◌, ◌++◌, All, Option, None, Some, Result, Ok, Err}
use Rattle.mq_request.specs.declared.message.Reply.{Reply}
use Rattle.mq_request.specs.declared.message.Reply.TheVariants.{Usage as UsageReply}
use Rattle.mq_request.specs.declared.message.Request.{Request}
use Rattle.mq_request.specs.declared.message.Request.TheVariants.{Limit, Usage}
use Rattle.mq_ledger.specs.declared.entry.Entry.{Entry}
use Rattle.mq_ledger.specs.declared.ledger.LedgerFault.{LedgerFault}
use Rattle.mq_ledger.specs.declared.ledger.LedgerFault.TheVariants.{Memory, Store}
use Rattle.mq_ledger.specs.declared.ledger.ReportedCall.{ReportedCall}
use Rattle.mq_ledger.specs.Legal.{Book}
use Rattle.mq_ledger.specs.Limits.{cap}
use Rattle.mq_lemmas.specs.Told.{Tells}
use Rattle.mq_watch.specs.declared.nearing.Usage.{Usage as Used}

-- it asks what a login has used
abbrev pub IsUsage : Request → Type 0
IsUsage (Usage login day) = ⊤
IsUsage _ = ⊥

-- a question of the log
abbrev pub IsQuestion : ReportedCall → Type 0
IsQuestion call = IsUsage call.request

-- the calls that a ledger reports have grown by questions alone
pub record AsksOnly (old new : Option (List ReportedCall)) : Type 0 where
  pub questions : List ReportedCall
  pub tells : Tells old new questions
  pub all : All IsQuestion questions

-- they have grown by this call once, with questions alone before and after it
pub record CallsOnce (call : ReportedCall) (old new : Option (List ReportedCall)) : Type 0 where
  pub before : List ReportedCall
  pub after : List ReportedCall
  pub tells : Tells old new (before ++ call ∷ after)
  pub all_before : All IsQuestion before
  pub all_after : All IsQuestion after

-- a question and its answer
abbrev pub question : List ℕ → ℕ → Result Reply LedgerFault → ReportedCall
question login day answer = record { request = Usage login day; answer = answer }

-- what an answer to a question says: nothing where memory ran out
abbrev pub usage_in : Result Reply LedgerFault → Result (Option Used) LedgerFault
usage_in (Ok (UsageReply login day settled reserved cap)) = Ok (Some (record { used = settled + reserved; cap = cap }))
usage_in (Ok _) = Ok None
usage_in (Err Memory) = Ok None
usage_in (Err Store) = Err Store

-- there was no memory to ask the question, or the ledger had none to answer it
abbrev pub LacksMemory : List ℕ → ℕ → Option (List ReportedCall) → Option (List ReportedCall) → Type 0
LacksMemory login day old new = (new ≡ old) ⊎ Tells old new (question login day (Err Memory) ∷ [])

-- a question was put once, and this is what its answer says; or there was no memory to put it
abbrev pub IsAnswered : List ℕ → ℕ → Option (List ReportedCall) → Option (List ReportedCall) → Result (Option Used) LedgerFault → Type 0
IsAnswered login day old new said = ((new ≡ old) × (said ≡ Ok None))
    ⊎ ((answer : Result Reply LedgerFault) × Tells old new (question login day answer ∷ []) × (said ≡ usage_in answer))

-- a question found a failed store, and nothing but questions was asked
abbrev pub FailsAtQuestion : Option (List ReportedCall) → Option (List ReportedCall) → Type 0
FailsAtQuestion old new = (login : List ℕ) × (day : ℕ) × CallsOnce (question login day (Err Store)) old new

-- A request was put to a ledger once, and answered by that ledger's answer; or a question before it found a failed store,
-- which is the answer.
abbrev pub IsPut : Request → Result Reply LedgerFault → Option (List ReportedCall) → Option (List ReportedCall) → Type 0
IsPut request answer old new = CallsOnce (record { request = request; answer = answer }) old new
    ⊎ ((answer ≡ Err Store) × FailsAtQuestion old new)

-- the cap, over this history, of the login and day from which a limit is asked for; another request has none
abbrev pub IsCapBefore : ℕ → List Entry → Request → ℕ → Type 0
IsCapBefore default H (Limit id from_day asked login) n = n ≡ cap default H login from_day
IsCapBefore default H _ n = ⊥

-- no cap is known before a request: it isn't a limit, or there was no memory
abbrev pub LacksCap : Request → Option (List ReportedCall) → Option (List ReportedCall) → Type 0
LacksCap (Limit id from_day asked login) old new = LacksMemory login from_day old new
LacksCap _ old new = ⊤

-- What questions leave of a ledger: its zone and its default; and while its store keeps its premise its history stays as it
-- is, and it stays sound.
pub record IsAsked {S : Type 0} (told : S → Option (List ReportedCall)) (book : S → Book) (has_kept is_sound has_store : S → Type 0) (old new : S) : Type 0 where
  pub asked : AsksOnly (told old) (told new)
  pub zone : (book new).zone ≡ (book old).zone
  pub default : (book new).default ≡ (book old).default
  pub kept : has_kept new → has_kept old
  pub store : has_store new → has_store old
  pub sound : has_kept new → is_sound old → is_sound new
  pub history : has_kept new → is_sound old → (book new).history ≡ (book old).history
