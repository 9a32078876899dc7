use Rattle.mq_remote.proofs.ShareSteps.{share_unsent}
use Rattle.mq_remote.proofs.subcommands.shares.set_share.Goals as goal

pub returns-in_default : goal.returns-in_default
returns-in_default g c = share_unsent _ _ _ _ _
