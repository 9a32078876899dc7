use Rattle.std.proofs.Common.{subst, sym}
use Rattle.mq_store.proofs.Words.{HasLedger, appended, day_of, leaves_both, was_clean}
use Rattle.mq_store.specs.Taking.{book_of}
use Rattle.mq_store.proofs.take.take_new.Goals as goal

pub returns-clause-applied : goal.returns-clause-applied
returns-clause-applied g c clean = λ H b none.
    let mid = was_clean c.write_plan.ensures.leaves clean in
    let stays = c.in_ok-plan.ensures.stays mid in
    let holds = subst (λ db. HasLedger db b.has.tables) (sym stays.now) b.has.holds in
    let planned = c.in_ok-plan.ensures.planned mid H b none in
    let rows = c.in_ok-write_plan.ensures.written clean (book_of c.args.zone c.args.default (appended (day_of c.args.zone) c.args.default H c.args.request.now)) b.has.tables holds b.has.current planned.1 in (
      planned.0,
      c.arrivals_are_applied.ensures.new c.args.zone c.args.default H c.args.request.now c.args.id.now _ b.legal c.requires.in_range c.requires.number none rows,
    )

pub returns-in_err-write_plan-clause-leaves : goal.returns-in_err-write_plan-clause-leaves
returns-in_err-write_plan-clause-leaves g c = leaves_both c.plan.ensures.leaves c.write_plan.ensures.leaves
