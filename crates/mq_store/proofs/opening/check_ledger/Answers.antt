use Rattle.std.proofs.Common.{Err, FitsSigned, Ok, ap, arith, inl, of_z, refl, rules, subst, sym, to_z, w64, ◌≡◌}
use Rattle.mq_store.proofs.Words.{HasCleanDisk, Sound, state}
use Rattle.std.proofs.lemmas.Int.{ints}
use Rattle.mq_store.specs.declared.fault.OpenFault.TheVariants.{Damaged}
use Rattle.mq_store.specs.Auditing.{IsAuditIn}
use Rattle.mq_store.specs.Opening.{audit_fault, if_none, IsOf, IsSettled}
use Rattle.mq_store.proofs.OpenChecks.{audited_behind}
use Rattle.mq_store.proofs.opening.check_ledger.Goals as goal

pub returns-in-Ok-Sound-clause-found : goal.returns-in-Ok-Sound-clause-found
returns-in-Ok-Sound-clause-found g c clean =
    let sure : HasCleanDisk (state g.S.Store c.check_store.new.connection) = c.audit_store.ensures.clean clean in
    audited_behind c.args.zone c.args.default (state g.S.Store c.args.connection.now) (state g.S.Store c.check_store.new.connection) (IsSettled g.S.Store c.args.zone c.args.default c.args.connection.now c.audit_store.new.connection) c.in-Ok.version
    (Ok c.in-Ok-Sound.field-0) (Ok c.in-Ok.version) (rw c.in-Ok-Sound.field-0-is refl) (c.check_store.new.connection, c.in-Ok.ensures.judged sure) (c.in-Ok.ensures.spares sure) (c.in-Ok-Sound.ensures.open clean) (c.in-Ok-Sound.ensures.audited clean)

pub returns-in-Ok-Sound-clause-exact : goal.returns-in-Ok-Sound-clause-exact
returns-in-Ok-Sound-clause-exact g c clean s rule has =
    let sure : HasCleanDisk (state g.S.Store c.check_store.new.connection) = c.audit_store.ensures.clean clean in
    audited_behind c.args.zone c.args.default (state g.S.Store c.args.connection.now) (state g.S.Store c.check_store.new.connection) (IsOf c.args.zone c.args.default (state g.S.Store c.args.connection.now).now.schema s rule) c.in-Ok.version
    (Ok c.in-Ok-Sound.field-0) (Ok c.in-Ok.version) (rw c.in-Ok-Sound.field-0-is refl) (c.in-Ok.ensures.exact sure s rule has) (c.in-Ok.ensures.spares sure) (c.in-Ok-Sound.ensures.open clean) (c.in-Ok-Sound.ensures.audited clean)

pub returns-in-Ok-Wrong-clause-found : goal.returns-in-Ok-Wrong-clause-found
returns-in-Ok-Wrong-clause-found g c clean =
    let sure : HasCleanDisk (state g.S.Store c.check_store.new.connection) = c.audit_store.ensures.clean clean in
    let fits : FitsSigned w64 c.in-Ok-Wrong.day = search rules in
    let exact : to_z w64 (of_z w64 c.in-Ok-Wrong.day) ≡ c.in-Ok-Wrong.day = omega (arith, ints) in
    rw exact (audited_behind c.args.zone c.args.default (state g.S.Store c.args.connection.now) (state g.S.Store c.check_store.new.connection) (IsSettled g.S.Store c.args.zone c.args.default c.args.connection.now c.audit_store.new.connection) c.in-Ok.version
    (Ok c.in-Ok-Wrong.field-0) (Err (Damaged c.in-Ok-Wrong.login c.in-Ok-Wrong.day)) (sym (ap (λ a. if_none c.in-Ok.version (audit_fault (Ok a))) c.in-Ok-Wrong.field-0-is)) (c.check_store.new.connection, c.in-Ok.ensures.judged sure) (c.in-Ok.ensures.spares sure) (c.in-Ok-Wrong.ensures.open clean) (c.in-Ok-Wrong.ensures.audited clean))

pub returns-in-Ok-Wrong-clause-exact : goal.returns-in-Ok-Wrong-clause-exact
returns-in-Ok-Wrong-clause-exact g c clean s rule has =
    let sure : HasCleanDisk (state g.S.Store c.check_store.new.connection) = c.audit_store.ensures.clean clean in
    let fits : FitsSigned w64 c.in-Ok-Wrong.day = search rules in
    let exact : to_z w64 (of_z w64 c.in-Ok-Wrong.day) ≡ c.in-Ok-Wrong.day = omega (arith, ints) in
    rw exact (audited_behind c.args.zone c.args.default (state g.S.Store c.args.connection.now) (state g.S.Store c.check_store.new.connection) (IsOf c.args.zone c.args.default (state g.S.Store c.args.connection.now).now.schema s rule) c.in-Ok.version
    (Ok c.in-Ok-Wrong.field-0) (Err (Damaged c.in-Ok-Wrong.login c.in-Ok-Wrong.day)) (sym (ap (λ a. if_none c.in-Ok.version (audit_fault (Ok a))) c.in-Ok-Wrong.field-0-is)) (c.in-Ok.ensures.exact sure s rule has) (c.in-Ok.ensures.spares sure) (c.in-Ok-Wrong.ensures.open clean) (c.in-Ok-Wrong.ensures.audited clean))

pub returns-in-Err-clause-found : goal.returns-in-Err-clause-found
returns-in-Err-clause-found g c clean = inl (c.in-Err.ensures.judged clean)

pub returns-in-Err-clause-exact : goal.returns-in-Err-clause-exact
returns-in-Err-clause-exact g c clean s rule has = inl (c.in-Err.ensures.exact clean s rule has)

pub returns-in-Err-audit_store-clause-found : goal.returns-in-Err-audit_store-clause-found
returns-in-Err-audit_store-clause-found g c clean =
    let sure : HasCleanDisk (state g.S.Store c.check_store.new.connection) = c.audit_store.ensures.clean clean in
    audited_behind c.args.zone c.args.default (state g.S.Store c.args.connection.now) (state g.S.Store c.check_store.new.connection) (IsSettled g.S.Store c.args.zone c.args.default c.args.connection.now c.audit_store.new.connection) c.in-Ok.version
    (Err c.in-Err-audit_store.refused) _ (ap Err c.open_fault.ensures) (c.check_store.new.connection, c.in-Ok.ensures.judged sure) (c.in-Ok.ensures.spares sure) tt tt

pub returns-in-Err-audit_store-clause-exact : goal.returns-in-Err-audit_store-clause-exact
returns-in-Err-audit_store-clause-exact g c clean s rule has =
    let sure : HasCleanDisk (state g.S.Store c.check_store.new.connection) = c.audit_store.ensures.clean clean in
    audited_behind c.args.zone c.args.default (state g.S.Store c.args.connection.now) (state g.S.Store c.check_store.new.connection) (IsOf c.args.zone c.args.default (state g.S.Store c.args.connection.now).now.schema s rule) c.in-Ok.version
    (Err c.in-Err-audit_store.refused) _ (ap Err c.open_fault.ensures) (c.in-Ok.ensures.exact sure s rule has) (c.in-Ok.ensures.spares sure) tt tt

pub returns-in-Ok-Sound-clause-counts : goal.returns-in-Ok-Sound-clause-counts
returns-in-Ok-Sound-clause-counts g c clean =
    let sure : HasCleanDisk (state g.S.Store c.check_store.new.connection) = c.audit_store.ensures.clean clean in
    let same = (c.in-Ok.ensures.spares sure).now (c.in-Ok-Sound.ensures.open clean) in
    subst (λ db. IsAuditIn c.args.zone c.args.default db (Sound c.in-Ok-Sound.days c.in-Ok-Sound.transactions)) same
    (rw c.in-Ok-Sound.field-0-is at (c.in-Ok-Sound.ensures.audited clean))
