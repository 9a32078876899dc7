use Rattle.std.proofs.Common.{Err, sym, ◌∙◌}
use Rattle.mq_program.proofs.RefusalSteps.{zone_refused}
use Rattle.mq_program.proofs.replaying.replay.Goals as goal

pub returns-in-Ok : goal.returns-in-Ok
returns-in-Ok g c =
    zone_refused c.args.given.rule c.args.given.east c.args.given.west c.zone_of.result c.replay_input.result c.zone_of.ensures (λ fault is. absurd (let e = sym c.in-Ok.is ∙ is in cc))

pub returns-in-Err : goal.returns-in-Err
returns-in-Err g c =
    zone_refused c.args.given.rule c.args.given.east c.args.given.west c.zone_of.result (Err c.in-Err.fault) c.zone_of.ensures (λ fault is. let e = sym c.in-Err.is ∙ is in cc)
