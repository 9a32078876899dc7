use Rattle.std.proofs.Common.{◌≤◌, ◌*◌, ◌+◌, ℕ, drop, map}
use Rattle.mq_process.specs.Refusals.{HasNoAddress}
use Rattle.mq_remote.specs.Shares.{SharesAt, SharesEach}
use Rattle.mq_remote.proofs.subcommands.shares.share_each.Given as goal

-- what asking the others leads to is what asking all leads to, and no share is above 1,000,000
abbrev pub invariant-loop-server : goal.invariant-loop-server
invariant-loop-server g l =
    (HasNoAddress (map (λ s. s.now) (drop l.server-index l.servers)) → ⊥)
    × (l.total.sum ≤ 1000000 * (l.server-index + 1))
    × ((status sum : ℕ)
    → SharesEach (SharesAt g.D.Dial.leads g.D.Link.Link.told l.task.order l.task.setter.now l.task.day l.rule) status sum
    (map (λ s. s.now) (drop l.server-index l.servers)) l.total.status l.total.sum
    → SharesEach (SharesAt g.D.Dial.leads g.D.Link.Link.told l.task.order l.task.setter.now l.task.day l.rule) status sum
    (map (λ s. s.now) l.servers) l.fn.so_far.status l.fn.so_far.sum)
