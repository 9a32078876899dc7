use Rattle.mq_rows.proofs.Words.{answer}
use Rattle.mq_rows.proofs.Limits.{limits_lead}
use Rattle.mq_rows.proofs.laws.limits_follow.Goals as goal

pub returns : goal.returns
returns c = λ day default H t r f. limits_lead H (c.one_more_limit.ensures.set_cap H) day t r (answer day default H r) f
