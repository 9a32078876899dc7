use Rattle.std.proofs.Common.{[], ap, map, take, ◌++◌, ◌+◌, ◌∙◌, ◌∷◌, ◌≡◌}
use Rattle.std.proofs.lemmas.List.{map-append, take_more}
use Rattle.std.specs.Net.Grammar.{IsSocketText}
use Rattle.mq_remote.proofs.TotalSteps.{in_step_push}
use Rattle.mq_remote.proofs.subcommands.sums.addresses_of.Goals as goal

pub loop-server-preserved : goal.loop-server-preserved
loop-server-preserved g c =
    let servers = c.args.servers.now in
    let at = c.loop-server.server-index in
    let more : map (λ s. s.now) (take (at + 1) servers) ≡ map (λ s. s.now) (take at servers) ++ _ ∷ [] = ap (map (λ s. s.now)) (take_more servers at _ c.loop-server-test.true) ∙ map-append _ _ _ in
    in_step_push IsSocketText _ _ _ _ _ _ c.loop-server.invariant c.in_ok-address_of.ensures more c.in_ok-push.ensures.items
