use Rattle.mq_forget.proofs.Replying.{old_reply}
use Rattle.mq_forget.proofs.laws.retired_numbers_stay_so.Goals as goal

pub returns : goal.returns
returns c = old_reply
