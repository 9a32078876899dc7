use Rattle.std.proofs.Common.{subst, sym, true≢false, ◌∙◌}
use Rattle.mq_store.proofs.Words.{HasLedger, state, was_clean}
use Rattle.mq_store.specs.Causes.{StopsReading}
use Rattle.mq_store.proofs.Causes.{of_rows, stops_by}
use Rattle.mq_store.proofs.listing.reply_to_usage.Goals as goal

pub returns-clause-replied : goal.returns-clause-replied
returns-clause-replied g c clean = λ zone H b.
    let mid = was_clean c.find_governing.ensures.leaves clean in
    let same = c.in_ok-usage.ensures.same mid in
    let holds = subst (λ db. HasLedger db b.has.tables) (sym same.0.now_is) b.has.holds in
    c.in_ok-usage_reply.ensures.reply
    ∙ c.reads_are_answered.ensures.usage zone c.args.default H _ b c.args.login.now c.args.day c.in_ok-usage.usage c.in_ok-governing.governing
    (c.in_ok-usage.ensures.found mid b.has.tables b.has.holds) (c.in_ok-governing.ensures.found clean b.has.tables holds)

pub returns-in_err-usage_reply-clause-cause : goal.returns-in_err-usage_reply-clause-cause
returns-in_err-usage_reply-clause-cause g c clean =
    stops_by c.in_err-usage_reply.field-0.0 c.from_residual-in_err-usage_reply.result (StopsReading c.args.default (state g.S.Store c.args.tx.now.conn.now).now) c.from_residual-in_err-usage_reply.ensures.1 (λ zone H b.
    let mid = was_clean c.find_governing.ensures.leaves clean in
    let same = c.in_ok-usage.ensures.same mid in
    let holds = subst (λ db. HasLedger db b.has.tables) (sym same.0.now_is) b.has.holds in
    let fit = c.reads_are_in_range.ensures.usage zone c.args.default H _ b c.args.login.now c.args.day c.in_ok-usage.usage c.in_ok-governing.governing
    (c.in_ok-usage.ensures.found mid b.has.tables b.has.holds) (c.in_ok-governing.ensures.found clean b.has.tables holds) in
    of_rows H c.in_err-usage_reply.field-0.0 (λ store. true≢false (sym fit ∙ c.in_err-usage_reply.ensures.store store)))
