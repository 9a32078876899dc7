use Rattle.std.proofs.Common.{◌≡◌, ◌<◌, ◌≤◌, [], length, map, rules, subst}
use Rattle.mq_process.specs.Refusals.{HasNoAddress}
use Rattle.mq_process.proofs.ServerSteps.{others_have_none}
use Rattle.mq_remote.specs.Stops.{StopsEach, StopsIn}
use Rattle.mq_remote.proofs.StopSteps.{left_has_none, stops_more, stops_none}
use Rattle.mq_remote.proofs.subcommands.stopping.stop_each.Goals as goal

pub loop-server-init : goal.loop-server-init
loop-server-init g c =
    let t = c.args.task in
    let none : c.new.result.items ≡ [] = search rules in (
      c.requires.servers,
      λ some. subst (λ l. HasNoAddress (map (λ s. s.now) l)) none some,
      λ status left asked. subst (λ l. StopsEach (StopsIn g.D.Dial.leads g.D.Link.Link.told t.setter.now t.order t.is_alone c.args.is_later) status left
          (map (λ s. s.now) c.args.servers.now) c.args.so_far (map (λ s. s.now) l)) none asked,
    )

pub loop-server-preserved : goal.loop-server-preserved
loop-server-preserved g c =
    let below : c.loop-server.server-index < length c.args.servers.now = c.loop-server-test.true in (
      others_have_none _ _ _ c.in-Ok.address below c.in-Ok.ensures c.loop-server.invariant.0,
      left_has_none _ _ _ _ _ _ c.in-Ok.address c.in-Ok.ensures c.add.ensures c.loop-server.invariant.1,
      λ status left others. c.loop-server.invariant.2 status left
          (stops_more _ _ _ _ others c.stop_in-end.result _ _ _ c.in-Ok.address below c.in-Ok.ensures c.stop_in-end.ensures c.add.ensures),
    )

pub returns-clause-each : goal.returns-clause-each
returns-clause-each g c =
    let all : length c.args.servers.now ≤ c.loop-server.server-index = search rules in
    c.loop-server.invariant.2 _ _ (stops_none _ _ _ _ _ all)

pub returns-clause-left : goal.returns-clause-left
returns-clause-left g c = c.loop-server.invariant.1
