use Rattle.mq_client.proofs.HoldingNone.{without_pause, without_hold, none_quiet}
use Rattle.mq_client.proofs.laws.without_spans.Goals as goal

pub returns : goal.returns
returns c = record { pause = without_pause; hold = without_hold; none_quiet = none_quiet }
