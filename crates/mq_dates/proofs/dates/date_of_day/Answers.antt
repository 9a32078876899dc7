use Rattle.std.proofs.lemmas.Result.{IfOk-weaker}
use Rattle.mq_dates.proofs.dates.date_of_day.Goals as goal

pub returns : goal.returns
returns c = IfOk-weaker c.text_of.result _ _ (λ text is. (c.date_of.result, c.date_of.ensures, is)) c.text_of.ensures
