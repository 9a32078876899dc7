-- Requests as they come to a ledger, and what each is answered.
use Rattle.std.specs.Prelude.{◌≡◌, List, [], ◌∷◌, ◌++◌, Bool, map, filter, if◌then◌else◌, Ok, Err}
use Rattle.mq_request.specs.declared.message.Request.{Request}
use Rattle.mq_request.specs.declared.message.Reply.{Reply}
use Rattle.mq_request.specs.declared.message.Reply.TheVariants.{Retry}
use Rattle.mq_ledger.specs.declared.entry.Entry.{Entry}
use Rattle.mq_ledger.specs.declared.ledger.LedgerFault.TheVariants.{Memory, Store}
use Rattle.mq_ledger.specs.declared.ledger.ReportedCall.{ReportedCall}
use Rattle.mq_ledger.specs.Answer.{reply, history_of}
use Rattle.mq_ledger.specs.Day.{day_of}
use Rattle.mq_ledger.specs.History.{requests}
use Rattle.mq_ledger.specs.Legal.{Book}

-- a request that came to a ledger, and whether the ledger took it: one for which it had no memory counts as lost
pub record Delivery : Type 0 where
  pub request : Request
  pub taken : Bool

-- the requests of deliveries
abbrev pub asked : List Delivery → List Request
asked ds = map (λ d. d.request) ds

-- the arrivals: the requests that the ledger took
abbrev pub arrivals : List Delivery → List Request
arrivals ds = asked (filter (λ d. d.taken) ds)

-- the history of a ledger that meant this book before these deliveries
abbrev pub history_after : Book → List Delivery → List Entry
history_after b ds = history_of (day_of b.zone) b.default (requests b.history ++ arrivals ds)

-- between these books some deliveries came, and nothing else: the later history is the one after them
abbrev pub HasGrown : Book → Book → Type 0
HasGrown old new = (came : List Delivery) × (new.history ≡ history_after old came)

-- the answer to a delivery that comes after earlier ones: the ledger's reply over the history after those, or
-- Retry where it is lost
abbrev pub answer_to : Book → List Delivery → Delivery → Reply
answer_to b earlier d = if d.taken then reply (day_of b.zone) b.default (history_after b earlier) d.request else Retry

-- what each delivery comes to by those before it, all after earlier ones
abbrev pub each_after : {A : Type 0} → (List Delivery → Delivery → A) → List Delivery → List Delivery → List A
each_after f earlier [] = []
each_after f earlier (d ∷ ds) = f earlier d ∷ each_after f (earlier ++ d ∷ []) ds

-- the answers to deliveries, each after the ones before it, all after earlier ones
abbrev pub answers_after : (List Delivery → Delivery → Reply) → List Delivery → List Delivery → List Reply
answers_after answer earlier ds = each_after answer earlier ds

-- the same where none came earlier
abbrev pub answers : (List Delivery → Delivery → Reply) → List Delivery → List Reply
answers answer ds = answers_after answer [] ds

-- the answers to the deliveries that the ledger took
abbrev pub taken_answers_after : (List Delivery → Delivery → Reply) → List Delivery → List Delivery → List Reply
taken_answers_after answer earlier [] = []
taken_answers_after answer earlier (d ∷ ds) =
    if d.taken then answer earlier d ∷ taken_answers_after answer (earlier ++ d ∷ []) ds
    else taken_answers_after answer (earlier ++ d ∷ []) ds

-- the same where none came earlier
abbrev pub taken_answers : (List Delivery → Delivery → Reply) → List Delivery → List Reply
taken_answers answer ds = taken_answers_after answer [] ds

-- the call of `apply` that brought a delivery this answer: Retry where the ledger answered that it had no memory
abbrev pub call : Delivery → Reply → ReportedCall
call d answer = record { request = d.request; answer = if d.taken then Ok answer else Err Memory }

-- the call at which the ledger's store failed
abbrev pub failed_call : Request → ReportedCall
failed_call request = record { request = request; answer = Err Store }

-- the calls of deliveries, each after the ones before it
abbrev pub calls : (List Delivery → Delivery → Reply) → List Delivery → List ReportedCall
calls answer ds = each_after (λ earlier d. call d (answer earlier d)) [] ds
