use Rattle.mq_remote.proofs.ShareSteps.{gone_on}
use Rattle.mq_remote.proofs.subcommands.shares.go_on.Goals as goal

pub returns-in_default : goal.returns-in_default
returns-in_default g c = gone_on _ _ _ _ _ c.args.rule _ _ _ c.in_default.not-Refused c.share_others.ensures
