use Rattle.std.proofs.Common.{[], sym, ◌++◌, ◌∙◌}
use Rattle.mq_server.proofs.Deliveries.{history_none, history_more}
use Rattle.mq_server.proofs.laws.more_deliveries.Goals as goal

pub returns-clause-none : goal.returns-clause-none
returns-clause-none c = λ b legal. ([], sym (history_none b legal))

pub returns-clause-more : goal.returns-clause-more
returns-clause-more c = λ b k n legal zone default before after.
    (before.0 ++ after.0, after.1 ∙ history_more b k before.0 after.0 (record { zone = zone; default = default; legal = legal; history = before.1 }))
