use Rattle.mq_words.proofs.MatchSteps.{meant_by, rows_met}
use Rattle.mq_words.proofs.words.asked_by.Goals as goal

pub returns-in-Some-clause-meant : goal.returns-in-Some-clause-meant
returns-in-Some-clause-meant c = meant_by _ _ _ c.arguments_of.result (rows_met _ _ _ c.in-Some.ensures.name c.in-Some.ensures.rows) c.arguments_of.ensures.meant
