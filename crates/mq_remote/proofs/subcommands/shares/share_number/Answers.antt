use Rattle.std.proofs.Common.{◌≡◌, ◌-◌, Some, arith, drop, length, take}
use Rattle.std.proofs.lemmas.Grind.{common_steps}
use Rattle.mq_remote.proofs.ShareSteps.{number_shared}
use Rattle.mq_remote.proofs.subcommands.shares.share_number.Goals as goal

pub returns-in-Some-default_at : goal.returns-in-Some-default_at
returns-in-Some-default_at g c =
    let s = c.args.servers.now in
    let rest : take (length s - 1) (drop 1 s) ≡ drop 1 s = grind (arith, common_steps) in
    number_shared _ _ _ _ _ c.args.number s _ (take (length s - 1) (drop 1 s)) _ (Some c.in-Some-default_at.first) _
    c.in-Some.ensures.value rest c.in-Ok.ensures c.in-Some-default_at.ensures.default c.share_from.ensures
