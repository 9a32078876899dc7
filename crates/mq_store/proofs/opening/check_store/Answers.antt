use Rattle.std.proofs.Common.{Err, None, Ok, Some, ap, refl, subst, sym}
use Rattle.mq_store.proofs.Words.{Database, HasCleanDisk, state}
use Rattle.mq_store.specs.Opening.{known_version, HoldsKnown, IsOf}
use Rattle.mq_store.proofs.OpenFaults.{read_some, read_none, read_err}
use Rattle.mq_store.proofs.opening.check_store.Goals as goal

pub returns-in-Ok-Some-clause-judged : goal.returns-in-Ok-Some-clause-judged
returns-in-Ok-Some-clause-judged g c clean =
    let sure : HasCleanDisk (state g.S.Store c.read_setting.new.connection) = c.check_setting.ensures.clean clean in
    record { read = Ok (Some c.in-Ok-Some.setting); between = c.read_setting.new.connection; is_read = rw (← c.in-Ok-Some.field-0-is) (c.in-Ok-Some.ensures.read sure); judged = c.check_setting.ensures.judged clean }

pub returns-in-Ok-Some-clause-exact : goal.returns-in-Ok-Some-clause-exact
returns-in-Ok-Some-clause-exact g c clean s rule has =
    let sure : HasCleanDisk (state g.S.Store c.read_setting.new.connection) = c.check_setting.ensures.clean clean in
    let shown = read_some s c.in-Ok-Some.field-0 c.in-Ok-Some.setting (c.in-Ok-Some.ensures.row sure s has.setting) c.in-Ok-Some.field-0-is in
    let same = (c.in-Ok-Some.ensures.spares sure).now (c.in-Ok-Some.ensures.open sure) in
    subst (λ (db : Database). IsOf c.args.zone c.args.default db.schema s rule c.check_setting.result) same
    (c.check_setting.ensures.exact clean s rule shown (subst (λ db. HoldsKnown (known_version s.version) db rule) (sym same) has.later))

pub returns-in-Ok-None-clause-judged : goal.returns-in-Ok-None-clause-judged
returns-in-Ok-None-clause-judged g c clean =
    record { read = Ok None; between = c.read_setting.new.connection; is_read = rw (← c.in-Ok-None.field-0-is) (c.in-Ok-None.ensures.read clean); judged = (refl, refl) }

pub returns-in-Ok-None-clause-exact : goal.returns-in-Ok-None-clause-exact
returns-in-Ok-None-clause-exact g c clean s rule has =
    absurd (read_none s c.in-Ok-None.field-0 (c.in-Ok-None.ensures.row clean s has.setting) c.in-Ok-None.field-0-is)

pub returns-in-Err-clause-judged : goal.returns-in-Err-clause-judged
returns-in-Err-clause-judged g c clean =
    record { read = Err c.in-Err.error; between = c.read_setting.new.connection; is_read = c.in-Err.ensures.read clean; judged = (refl, ap Err c.fault_of.ensures) }

pub returns-in-Err-clause-exact : goal.returns-in-Err-clause-exact
returns-in-Err-clause-exact g c clean s rule has =
    subst (λ f. IsOf c.args.zone c.args.default (state g.S.Store c.args.connection.now).now.schema s rule (Err f)) (sym c.fault_of.ensures)
    (read_err c.args.zone c.args.default (state g.S.Store c.args.connection.now).now.schema s rule c.in-Err.error (c.in-Err.ensures.row clean s has.setting))
