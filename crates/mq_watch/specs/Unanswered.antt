-- Why a request gets no reply of the ledger's, and how a server answers it.
use Rattle.std.specs.Prelude.{⊤, Result, Ok, Err}
use Rattle.mq_request.specs.declared.message.Reply.{Reply}
use Rattle.mq_ledger.specs.declared.ledger.LedgerFault.{LedgerFault}
use Rattle.mq_ledger.specs.declared.ledger.LedgerFault.TheVariants.{Memory}
use Rattle.mq_watch.specs.declared.unanswered.Unanswered.{Unanswered}
use Rattle.mq_watch.specs.declared.unanswered.Unanswered.TheVariants.{Forbidden, Ahead, Fault}

-- what isn't put to the ledger is answered as where memory runs out
abbrev pub fault_of : Unanswered → LedgerFault
fault_of Forbidden = Memory
fault_of Ahead = Memory
fault_of (Fault fault) = fault

-- an answer as a server gives it
abbrev pub answer_of : Result Reply Unanswered → Result Reply LedgerFault
answer_of (Ok reply) = Ok reply
answer_of (Err cause) = Err (fault_of cause)

-- the ledger couldn't take it, to which it was put
abbrev pub IsFault : Unanswered → Type 0
IsFault (Fault fault) = ⊤
IsFault _ = ⊥
