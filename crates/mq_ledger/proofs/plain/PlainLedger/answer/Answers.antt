use Rattle.std.proofs.Common.{◌∙◌}
use Rattle.std.proofs.lemmas.Result.{IfOk-weaker}
use Rattle.mq_ledger.proofs.plain.PlainLedger.answer.Goals as goal

pub returns-in-Reserve : goal.returns-in-Reserve
returns-in-Reserve c = rw c.in-Reserve.is (IfOk-weaker c.to_reply.result _ _ (λ reply spelled. spelled ∙ c.answer_reserve.ensures) c.to_reply.ensures)

pub returns-in-Usage : goal.returns-in-Usage
returns-in-Usage c = rw c.in-Usage.is c.answer_usage.ensures
