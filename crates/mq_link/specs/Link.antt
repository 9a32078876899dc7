-- The exchanges that a link reports.
use Rattle.std.specs.Prelude.{◌≡◌, ℕ, List, ◌++◌, ⊤, Option, None, Some, Result, Ok, Err}
use Rattle.mq_request.specs.declared.message.Reply.{Reply}
use Rattle.mq_frame.specs.Spelling.{SpellsReply}
use Rattle.mq_link.specs.declared.link.LinkFault.{LinkFault}
use Rattle.mq_link.specs.declared.link.ExchangeOutcome.{ExchangeOutcome}
use Rattle.mq_link.specs.declared.link.ExchangeOutcome.TheVariants.{Answered, Faulted}
use Rattle.mq_link.specs.declared.link.ReportedExchange.{ReportedExchange}

-- how an exchange ended that answered this, with this reply body
abbrev pub outcome_of : {X : Type 0} → Result X LinkFault → List ℕ → ExchangeOutcome
outcome_of (Ok x) body = Answered body
outcome_of (Err fault) body = Faulted fault

-- an exchange that ended so brought a body that spells the reply
abbrev pub Brings : ExchangeOutcome → Reply → Type 0
Brings (Answered body) reply = SpellsReply body reply
Brings (Faulted fault) reply = ⊥
