use Rattle.std.proofs.Common.{List, subst}
use Rattle.sqlite.specs.Held.{state}
use Rattle.mq_store.specs.Limits.{AreLimitsIn, AreSet}
use Rattle.mq_store.specs.Soundness.{book_in}
use Rattle.mq_rows.specs.declared.audited.LimitFigures.{LimitFigures}
use Rattle.mq_program.specs.Listing.{IsLimitsText}
use Rattle.mq_program.proofs.ListingSteps.{all_in_order, front_printed, set_in_order, such_printed}
use Rattle.mq_program.proofs.listing.list_limits.Goals as goal

pub returns-clause-listed : goal.returns-clause-listed
returns-clause-listed g c kept =
    let db = (state g.S.Store c.args.ledger.now.connection).now in
    let limits = c.put_in_order.new.limits.items in
    such_printed (AreLimitsIn db) c.args.form limits _ _ _ _ _ (all_in_order db c.in_ok-limits.limits.items limits (c.in_ok-limits.ensures.found kept) c.put_in_order.ensures.same)
    c.put_in_order.ensures.sorted c.as_slice-2.ensures.value (subst (λ (ls : List LimitFigures). IsLimitsText c.args.form ls c.in_ok-text.text.items) c.as_slice.ensures.value c.in_ok-text.ensures) c.print.ensures.whole

pub returns-clause-set : goal.returns-clause-set
returns-clause-set g c kept sound =
    let l = c.args.ledger.now in
    let H = (book_in l.zone l.default (state g.S.Store l.connection).now).history in
    let limits = c.put_in_order.new.limits.items in
    such_printed (AreSet H) c.args.form limits _ _ _ _ _ (set_in_order H c.in_ok-limits.limits.items limits (c.in_ok-limits.ensures.set kept sound) c.put_in_order.ensures.same)
    c.put_in_order.ensures.sorted c.as_slice-2.ensures.value (subst (λ (ls : List LimitFigures). IsLimitsText c.args.form ls c.in_ok-text.text.items) c.as_slice.ensures.value c.in_ok-text.ensures) c.print.ensures.whole

pub returns-clause-front : goal.returns-clause-front
returns-clause-front g c kept =
    let db = (state g.S.Store c.args.ledger.now.connection).now in
    let limits = c.put_in_order.new.limits.items in
    front_printed (AreLimitsIn db) c.args.form limits _ _ _ _ _ (all_in_order db c.in_ok-limits.limits.items limits (c.in_ok-limits.ensures.found kept) c.put_in_order.ensures.same)
    c.put_in_order.ensures.sorted c.as_slice-2.ensures.value (subst (λ (ls : List LimitFigures). IsLimitsText c.args.form ls c.in_ok-text.text.items) c.as_slice.ensures.value c.in_ok-text.ensures) c.print.ensures.front
