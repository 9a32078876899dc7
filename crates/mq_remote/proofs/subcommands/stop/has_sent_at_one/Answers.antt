use Rattle.std.proofs.Common.{◌≡◌, ◌<◌, ◌≤◌, ◌+◌, Bool, drop, false, is_some, length, map, rules, subst, true}
use Rattle.mq_command.specs.declared.stop.SentLately.{SentLately}
use Rattle.mq_process.proofs.ServerSteps.{others_have_none}
use Rattle.mq_remote.specs.Stops.{AsksUse, UseAt}
use Rattle.mq_remote.specs.declared.subcommands.stopping.TheConstants.{SHORT}
use Rattle.mq_remote.proofs.StopSteps.{use_no, use_none, use_silent, use_untaken, use_yes}
use Rattle.mq_remote.proofs.subcommands.stop.has_sent_at_one.Goals as goal
use Rattle.mq_remote.proofs.subcommands.stop.has_sent_at_one.Goals.{in-No, in-NotTaken, in-Unanswered}

pub returns-in-Yes : goal.returns-in-Yes
returns-in-Yes g c =
    let below : c.loop-server.server-index < length c.args.servers.now = c.loop-server-test.true in
    c.loop-server.invariant.1 true (use_yes _ _ _ _ c.in-Ok.address below c.in-Ok.ensures
    (subst (λ (s : SentLately). UseAt g.D.Dial.leads g.D.Link.Link.told c.args.setter.now.login c.args.day SHORT c.in-Ok.address s) c.in-Yes.is c.ask_use.ensures))

pub loop-server-preserved : goal.loop-server-preserved
loop-server-preserved g c =
    let k = c.loop-server.server-index in
    let below : k < length c.args.servers.now = c.loop-server-test.true in
    let next : (meant : Bool) → AsksUse (UseAt g.D.Dial.leads g.D.Link.Link.told c.args.setter.now.login c.args.day SHORT) (map (λ s. s.now) (drop (k + 1) c.args.servers.now)) (is_some c.match-ask_use.silent) meant
    → AsksUse (UseAt g.D.Dial.leads g.D.Link.Link.told c.args.setter.now.login c.args.day SHORT) (map (λ s. s.now) (drop k c.args.servers.now)) (is_some c.loop-server.silent) meant =
    elim c.match-ask_use.branch [
      | in-No w ↦ λ meant others. use_no _ _ _ _
          (subst (λ o. AsksUse (UseAt g.D.Dial.leads g.D.Link.Link.told c.args.setter.now.login c.args.day SHORT) (map (λ s. s.now) (drop (k + 1) c.args.servers.now)) (is_some o) meant) w.silent-is others)
          _ c.in-Ok.address below c.in-Ok.ensures
          (subst (λ (s : SentLately). UseAt g.D.Dial.leads g.D.Link.Link.told c.args.setter.now.login c.args.day SHORT c.in-Ok.address s) w.in-No.is c.ask_use.ensures)
      | in-NotTaken w ↦ λ meant others. use_untaken _ _ _ _
          (subst (λ o. AsksUse (UseAt g.D.Dial.leads g.D.Link.Link.told c.args.setter.now.login c.args.day SHORT) (map (λ s. s.now) (drop (k + 1) c.args.servers.now)) (is_some o) meant) w.silent-is others)
          _ c.in-Ok.address below c.in-Ok.ensures
          (subst (λ (s : SentLately). UseAt g.D.Dial.leads g.D.Link.Link.told c.args.setter.now.login c.args.day SHORT c.in-Ok.address s) w.in-NotTaken.is c.ask_use.ensures)
      | in-Unanswered w ↦ λ meant others. use_silent _ _ _ _
          (subst (λ o. AsksUse (UseAt g.D.Dial.leads g.D.Link.Link.told c.args.setter.now.login c.args.day SHORT) (map (λ s. s.now) (drop (k + 1) c.args.servers.now)) (is_some o) meant) w.silent-is others)
          _ c.in-Ok.address below c.in-Ok.ensures
          (subst (λ (s : SentLately). UseAt g.D.Dial.leads g.D.Link.Link.told c.args.setter.now.login c.args.day SHORT c.in-Ok.address s) w.in-Unanswered.is c.ask_use.ensures)
    ] in
    (others_have_none _ _ _ c.in-Ok.address below c.in-Ok.ensures c.loop-server.invariant.0, λ meant others. c.loop-server.invariant.1 meant (next meant others))

pub returns-in-Some : goal.returns-in-Some
returns-in-Some g c =
    let all : length c.args.servers.now ≤ c.loop-server.server-index = search rules in
    let some : is_some c.loop-server.silent ≡ true = search rules in
    c.loop-server.invariant.1 true (subst (λ (b : Bool). AsksUse (UseAt g.D.Dial.leads g.D.Link.Link.told c.args.setter.now.login c.args.day SHORT)
    (map (λ s. s.now) (drop c.loop-server.server-index c.args.servers.now)) (is_some c.loop-server.silent) b) some (use_none _ _ _ _ all))

pub returns-in-None : goal.returns-in-None
returns-in-None g c =
    let all : length c.args.servers.now ≤ c.loop-server.server-index = search rules in
    let none : is_some c.loop-server.silent ≡ false = search rules in
    c.loop-server.invariant.1 false (subst (λ (b : Bool). AsksUse (UseAt g.D.Dial.leads g.D.Link.Link.told c.args.setter.now.login c.args.day SHORT)
    (map (λ s. s.now) (drop c.loop-server.server-index c.args.servers.now)) (is_some c.loop-server.silent) b) none (use_none _ _ _ _ all))
