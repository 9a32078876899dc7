-- The reply to a request whose number has a row.
use Rattle.std.specs.Prelude.{◌≡◌, ℕ, List, Bool, true, false}
use Rattle.mq_request.specs.declared.message.Id.{Id}
use Rattle.mq_request.specs.declared.message.Request.{Request}
use Rattle.mq_request.specs.declared.message.Reply.{Reply}
use Rattle.mq_request.specs.declared.message.Reply.TheVariants.{Conflict}
use Rattle.mq_request.specs.Same.{same_request}
use Rattle.mq_frame.specs.Spelling.{SpellsRequest, SpellsReply}
use Rattle.mq_rows.specs.declared.record.AnswerRecord.{AnswerRecord}

-- the reply that the body spells where the request is the same, else Conflict
abbrev pub IsKept : Bool → Id → List ℕ → Reply → Type 0
IsKept true id body reply = SpellsReply body reply
IsKept false id body reply = reply ≡ Conflict id

-- so it is for the request that the row spells
abbrev pub IsRepeatOf : AnswerRecord → Id → Request → Reply → Type 0
IsRepeatOf row id r reply = (q : Request) → SpellsRequest row.request q → IsKept (same_request r q) id row.reply reply
