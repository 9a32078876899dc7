use Rattle.std.proofs.Common.{◌≤◌, ◌<◌, length, rules}
use Rattle.mq_process.proofs.ServerSteps.{others_have_none}
use Rattle.mq_remote.proofs.ShareSteps.{bounded_more, shares_more, shares_none}
use Rattle.mq_remote.proofs.subcommands.shares.share_each.Goals as goal

pub loop-server-init : goal.loop-server-init
loop-server-init g c = (c.requires.servers, c.requires.room, λ status sum asked. asked)

pub loop-server-preserved : goal.loop-server-preserved
loop-server-preserved g c =
    let below : c.loop-server.server-index < length c.args.servers.now = c.loop-server-test.true in (
      others_have_none _ _ _ c.in-Ok.address below c.in-Ok.ensures c.loop-server.invariant.0,
      bounded_more _ _ _ _ c.loop-server.invariant.1 c.share_at-end.ensures.in_range c.add.ensures.sum,
      λ status sum others. c.loop-server.invariant.2 status sum
          (shares_more _ _ _ _ others c.share_at-end.result _ _ _ c.in-Ok.address below c.in-Ok.ensures c.share_at-end.ensures.shares c.add.ensures.status c.add.ensures.sum),
    )

pub returns : goal.returns
returns g c =
    let all : length c.args.servers.now ≤ c.loop-server.server-index = search rules in
    c.loop-server.invariant.2 _ _ (shares_none _ _ _ _ _ all)
