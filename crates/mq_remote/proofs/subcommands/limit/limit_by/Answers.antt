use Rattle.std.proofs.Common.{map, subst, sym}
use Rattle.mq_process.specs.declared.arguments.LimitArgument.{LimitArgument}
use Rattle.mq_remote.specs.declared.subcommands.shares.ShareRule.TheVariants.{Default}
use Rattle.mq_remote.specs.Asked.{LimitsBy}
use Rattle.mq_remote.proofs.ShareSteps.{shared_so}
use Rattle.mq_remote.proofs.subcommands.limit.limit_by.Goals as goal

pub returns-in_ok-check_few-in-Default : goal.returns-in_ok-check_few-in-Default
returns-in_ok-check_few-in-Default g c =
    let shared = c.shared_of-shared.ensures in
    subst (λ (cap : LimitArgument). LimitsBy g.D.Dial.leads g.D.Link.Link.told c.args.task.is_given c.args.task.setter.now c.args.task.day cap (map (λ s. s.now) c.args.words.now)
    (map (λ s. s.now) c.args.servers.now) c.share_among.result) (sym c.in-Default.is)
    (shared_so _ _ _ _ _ _ _ _ Default _ _ shared.order shared.setter shared.day c.share_among.ensures)
