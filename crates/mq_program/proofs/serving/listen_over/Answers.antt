use Rattle.std.proofs.Common.{Err, refl}
use Rattle.sqlite.specs.Held.{state}
use Rattle.mq_program.specs.declared.fault.ProgramFault.TheVariants.{Audit}
use Rattle.mq_program.proofs.ServingSteps.{sound_on, served_on, still_served}
use Rattle.mq_program.proofs.serving.listen_over.Goals as goal

pub returns-in-Err-clause-sound : goal.returns-in-Err-clause-sound
returns-in-Err-clause-sound g c kept sound =
    let old = c.args.ledger in
    let new = c.days_at_start.new.ledger in
    let (zone_is, default_is) = c.days_at_start.ensures.lent in
    sound_on old.zone old.zone new.zone old.default old.default new.default refl refl zone_is default_is (state g.S.Store new.connection) (c.days_at_start.ensures.sound kept sound)

pub returns-in-Err-clause-serves : goal.returns-in-Err-clause-serves
returns-in-Err-clause-serves g c kept sound =
    let old = c.args.ledger in
    still_served old.zone old.default (g.W.Network.wire c.args.network.now) (state g.S.Store old.connection).now (state g.S.Store c.days_at_start.new.ledger.connection).now (Err (Audit c.in-Err.fault)) c.in-Err.fault refl (c.nothing_is_served.ensures _) sound.legal (c.days_at_start.ensures.same kept)

pub returns-in-Ok-clause-sound : goal.returns-in-Ok-clause-sound
returns-in-Ok-clause-sound g c kept sound =
    let old = c.args.ledger in
    let mid = c.days_at_start.new.ledger in
    let new = c.begin.result.ledger in
    let (zone_is, default_is) = c.days_at_start.ensures.lent in
    sound_on old.zone mid.zone mid.zone old.default mid.default mid.default zone_is default_is refl refl (state g.S.Store new.connection)
    (c.begin.ensures.sound kept (c.days_at_start.ensures.sound (c.begin.ensures.kept kept) sound))

pub returns-in-Ok-clause-serves : goal.returns-in-Ok-clause-serves
returns-in-Ok-clause-serves g c kept sound =
    let old = c.args.ledger in
    let mid = c.days_at_start.new.ledger in
    let new = c.begin.result.ledger in
    let (zone_is, default_is) = c.days_at_start.ensures.lent in
    let kept_then = c.begin.ensures.kept kept in
    served_on old.zone mid.zone mid.zone old.default mid.default mid.default zone_is default_is refl refl
    c.begin.result.outcome (g.W.Network.wire c.args.network.now) (g.W.Network.wire c.begin.new.network) (state g.S.Store old.connection).now (state g.S.Store mid.connection).now (state g.S.Store new.connection).now (c.days_at_start.ensures.same kept_then)
    (c.begin.ensures.serves kept (c.days_at_start.ensures.sound kept_then sound))
