use Rattle.mq_watch.proofs.Questions.{usage_said}
use Rattle.mq_watch.proofs.asking.ask_usage.Goals as goal

pub returns-clause-usage : goal.returns-clause-usage
returns-clause-usage g c = λ kept sound.
    rw (c.usage_in.ensures, ← c.in-Ok.ensures.cases) (usage_said c.apply.result _ _ _ _ _ (rw c.usage_request.ensures at (c.apply.ensures.reply kept sound)))
