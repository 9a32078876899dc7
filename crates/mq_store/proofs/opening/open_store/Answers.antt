use Rattle.std.proofs.Common.{Err, Ok, inl}
use Rattle.mq_store.proofs.Words.{HasCleanDisk, state}
use Rattle.mq_store.specs.Opening.{IsFound, IsFoundOf}
use Rattle.mq_store.proofs.OpenChecks.{opens_behind, refuses_behind}
use Rattle.mq_store.proofs.opening.open_store.Goals as goal

pub returns-in-Err-clause-refuses : goal.returns-in-Err-clause-refuses
returns-in-Err-clause-refuses g c clean = inl (c.in-Err.ensures.found clean, c.in-Err.ensures.spares clean)

pub returns-in-Err-clause-exact_err : goal.returns-in-Err-clause-exact_err
returns-in-Err-clause-exact_err g c clean s rule has = inl (c.in-Err.ensures.exact clean s rule has, c.in-Err.ensures.spares clean)

pub returns-in-Ok-bring_up-clause-opens : goal.returns-in-Ok-bring_up-clause-opens
returns-in-Ok-bring_up-clause-opens g c clean =
    let sure : HasCleanDisk (state g.S.Store c.check_ledger.new.connection) = c.bring_up.ensures.clean clean in
    opens_behind {X = Unit {0}} (IsFound g.S.Store c.args.zone c.args.default c.args.connection.now c.bring_up.new.connection) c.in-Ok.known.version
    (state g.S.Store c.args.connection.now) (state g.S.Store c.check_ledger.new.connection) (state g.S.Store c.bring_up.new.connection) (c.in-Ok.ensures.found sure) (c.in-Ok.ensures.spares sure) (Ok (tt {0})) (c.in-Ok-bring_up.ensures.open clean) (c.in-Ok-bring_up.ensures.up clean)

pub returns-in-Err-bring_up-clause-refuses : goal.returns-in-Err-bring_up-clause-refuses
returns-in-Err-bring_up-clause-refuses g c clean =
    let sure : HasCleanDisk (state g.S.Store c.check_ledger.new.connection) = c.bring_up.ensures.clean clean in
    refuses_behind {X = Unit {0}} (IsFound g.S.Store c.args.zone c.args.default c.args.connection.now c.bring_up.new.connection) c.in-Ok.known.version
    (state g.S.Store c.args.connection.now) (state g.S.Store c.check_ledger.new.connection) (state g.S.Store c.bring_up.new.connection) (c.in-Ok.ensures.found sure) (c.in-Ok.ensures.spares sure) (Err c.in-Err-bring_up.fault) (c.bring_up.ensures.was_open clean) (c.in-Err-bring_up.ensures.err clean)

pub returns-in-Ok-bring_up-clause-exact : goal.returns-in-Ok-bring_up-clause-exact
returns-in-Ok-bring_up-clause-exact g c clean s rule has =
    let sure : HasCleanDisk (state g.S.Store c.check_ledger.new.connection) = c.bring_up.ensures.clean clean in
    opens_behind {X = Unit {0}} (IsFoundOf c.args.zone c.args.default (state g.S.Store c.args.connection.now).now s rule) c.in-Ok.known.version
    (state g.S.Store c.args.connection.now) (state g.S.Store c.check_ledger.new.connection) (state g.S.Store c.bring_up.new.connection) (c.in-Ok.ensures.exact sure s rule has) (c.in-Ok.ensures.spares sure) (Ok (tt {0})) (c.in-Ok-bring_up.ensures.open clean) (c.in-Ok-bring_up.ensures.up clean)

pub returns-in-Err-bring_up-clause-exact_err : goal.returns-in-Err-bring_up-clause-exact_err
returns-in-Err-bring_up-clause-exact_err g c clean s rule has =
    let sure : HasCleanDisk (state g.S.Store c.check_ledger.new.connection) = c.bring_up.ensures.clean clean in
    refuses_behind {X = Unit {0}} (IsFoundOf c.args.zone c.args.default (state g.S.Store c.args.connection.now).now s rule) c.in-Ok.known.version
    (state g.S.Store c.args.connection.now) (state g.S.Store c.check_ledger.new.connection) (state g.S.Store c.bring_up.new.connection) (c.in-Ok.ensures.exact sure s rule has) (c.in-Ok.ensures.spares sure) (Err c.in-Err-bring_up.fault) (c.bring_up.ensures.was_open clean) (c.in-Err-bring_up.ensures.err clean)
