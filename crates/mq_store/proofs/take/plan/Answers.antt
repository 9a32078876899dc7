use Rattle.std.proofs.Common.{ap, length, subst, sym, true≢false, ◌<◌, ◌∙◌, ◌≡◌}
use Rattle.mq_store.proofs.Words.{HasLedger, SettingRecord, state, was_clean}
use Rattle.mq_store.specs.Causes.{StopsNew}
use Rattle.mq_store.proofs.Causes.{of_stored, stops_by}
use Rattle.mq_store.proofs.take.plan.Goals as goal

pub returns-clause-planned : goal.returns-clause-planned
returns-clause-planned g c clean = λ H b none.
    let mid = was_clean c.find.ensures.leaves clean in
    let same = c.in_ok-arrivals.ensures.same mid in
    let holds = subst (λ db. HasLedger db b.has.tables) (sym same.0.now_is) b.has.holds in
    let law = c.new_numbers_are_planned.ensures.planned c.args.zone c.args.default H c.args.request.now c.args.id.now b.has.tables c.in_ok-found.found b.legal b.has.rows c.requires.in_range c.requires.number none (λ keyed. c.in_ok-found.ensures.found clean b.has.tables (holds, b.has.current) keyed) in
    let counted = c.in_ok-arrivals.ensures.found mid b.has.tables b.has.holds in
    rw (c.in_ok-decide.ensures.plan, counted) law

pub returns-in_err-decide-clause-cause : goal.returns-in_err-decide-clause-cause
returns-in_err-decide-clause-cause g c clean =
    stops_by c.in_err-decide.field-0.0 c.from_residual-in_err-decide.result (StopsNew c.args.zone c.args.default c.args.id.now (state g.S.Store c.args.tx.now.conn.now).now) c.from_residual-in_err-decide.ensures.1 (λ H b new.
    let mid = was_clean c.find.ensures.leaves clean in
    let same = c.in_ok-arrivals.ensures.same mid in
    let holds = subst (λ db. HasLedger db b.has.tables) (sym same.0.now_is) b.has.holds in
    let count : c.in_ok-arrivals.arrivals ≡ length H = c.in_ok-arrivals.ensures.found mid b.has.tables b.has.holds ∙ ap (λ (s : SettingRecord). s.arrivals) b.has.rows.setting.row in
    of_stored H c.in_err-decide.field-0.0 (λ store few.
    let fits = c.new_numbers_are_planned.ensures.found c.args.zone c.args.default H c.args.request.now c.args.id.now b.has.tables c.in_ok-found.found b.legal b.has.rows c.requires.in_range c.requires.number new (λ keyed. c.in_ok-found.ensures.found clean b.has.tables (holds, b.has.current) keyed) in
    true≢false (sym fits ∙ c.in_err-decide.ensures.store store (subst (λ n. n < 4611686018427387904) (sym count) few))))
