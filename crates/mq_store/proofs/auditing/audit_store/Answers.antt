use Rattle.std.proofs.Common.{Err, IfOk, Ok, OnOk, Result, ℕ}
use Rattle.mq_store.proofs.Words.{Audit, Database, Figures, HasAuditTables, HasFigures, IfOk-weaker, Zone, state}
use Rattle.mq_store.specs.Auditing.{IsAuditOfAll, IsAuditIn}
use Rattle.mq_store.proofs.auditing.audit_store.Goals as goal

-- an answer is one of rows that have figures, where the store was open when it was given
with_figures : {E : Type 0} (zone : Zone) (default : ℕ) (db : Database) (IsOpen : Type 0) (outcome : Result Audit E) → (IsOpen → HasAuditTables db.schema → (f : Figures) × HasFigures db f)
    → OnOk outcome IsOpen → IfOk outcome (IsAuditOfAll zone default db) → IfOk outcome (IsAuditIn zone default db)
with_figures zone default db IsOpen (Ok a) figures is_open all = record { of_all = all; there = figures is_open }
with_figures zone default db IsOpen (Err e) figures is_open all = tt

pub returns-clause-audited : goal.returns-clause-audited
returns-clause-audited g c clean =
    let old = state g.S.Store c.args.connection.now in
    with_figures c.args.zone c.args.default old.now _ c.audit_by.result (λ is_open. c.rows_have_figures.ensures old.now (c.schema-sound.ensures.live is_open).0) (c.audit_by.ensures.open clean)
    (IfOk-weaker c.audit_by.result _ (IsAuditOfAll c.args.zone c.args.default old.now) (λ a all. all c.args.zone c.args.default c.new-books.ensures) (c.audit_by.ensures.audited clean))
