use Rattle.std.proofs.Common.{◌≡◌, ◌<◌, ◌≤◌, length, true, of_calls, rules, ◌==◌}
use Rattle.mq_process.proofs.ServerSteps.{asks_more, asks_none, others_have_none}
use Rattle.mq_process.proofs.servers.ask_in_turn.Goals as goal
use Rattle.mq_process.proofs.servers.ask_in_turn.Goals.{then-is_bare, else-is_bare}

pub loop-server-init : goal.loop-server-init
loop-server-init g c = (c.requires.callable, c.requires.addresses, λ last status asked. asked)

pub loop-server-preserved : goal.loop-server-preserved
loop-server-preserved g c =
    let below : c.loop-server.server-index < length c.args.servers.now = c.loop-server-test.true in
    let alone : c.args.is_bare ≡ true → c.if-is_bare.told ≡ 0 =
    elim c.if-is_bare.branch [
      | then-is_bare w ↦ λ is. w.told-is
      | else-is_bare w ↦ λ is. absurd (search rules)
    ] in (
      search of_calls,
      others_have_none _ _ _ c.in-Ok.address below c.in-Ok.ensures c.loop-server.invariant.1,
      λ last status others. c.loop-server.invariant.2 last status
          (asks_more _ _ _ others c.loop-server.ask c.loop-server.status c.if-is_bare.told c.ask-said.result c.max-ended.result _ c.in-Ok.address below c.in-Ok.ensures alone c.max-ended.ensures (search rules) (_, _, c.ask-said.ensures)),
    )

pub returns : goal.returns
returns g c =
    let all : length c.args.servers.now ≤ c.loop-server.server-index = search rules in
    (c.loop-server.ask, c.loop-server.invariant.2 _ _ (asks_none _ _ _ _ _ _ all))
