use Rattle.std.proofs.Common.{false, rules, subst, sym, ℕ, ◌∙◌, ◌≡◌}
use Rattle.mq_store.proofs.Words.{Database, HasLedger, Zone, is_below, requests, state, was_clean}
use Rattle.mq_store.specs.Causes.{StopsOver}
use Rattle.mq_store.proofs.Causes.{of_rows, stops_by}
use Rattle.mq_store.proofs.take.known_reply.Goals as goal

pub returns-in-None-clause-known : goal.returns-in-None-clause-known
returns-in-None-clause-known g c clean = λ zone default H b.
    let mid = was_clean c.find_answer.ensures.leaves clean in
    let stays = c.in_ok-retired.ensures.stays mid in
    let unretired : c.in_ok-retired.retired ≡ false = search rules in
    let above : is_below (requests H) c.args.id.now ≡ false = sym (c.in_ok-retired.ensures.below mid zone default H b) ∙ unretired in
    let holds = subst (λ (db : Database). HasLedger db b.has.tables) (sym stays.now) b.has.holds in
    c.numbers_are_known.ensures.new zone default H c.args.request.now c.args.id.now _ b c.requires.in_range c.requires.number above (rw c.in-None.is at (c.in_ok-row.ensures.found clean b.has.tables holds))

pub returns-in_ok-stored_reply-in-Some-clause-known : goal.returns-in_ok-stored_reply-in-Some-clause-known
returns-in_ok-stored_reply-in-Some-clause-known g c clean = λ zone default H b.
    let mid = was_clean c.find_answer.ensures.leaves clean in
    let stays = c.in_ok-retired.ensures.stays mid in
    let unretired : c.in_ok-retired.retired ≡ false = search rules in
    let above : is_below (requests H) c.args.id.now ≡ false = sym (c.in_ok-retired.ensures.below mid zone default H b) ∙ unretired in
    let holds = subst (λ (db : Database). HasLedger db b.has.tables) (sym stays.now) b.has.holds in
    c.numbers_are_known.ensures.known zone default H c.args.request.now c.args.id.now _ b c.in-Some.row c.in_ok-stored_reply-in-Some.field-0 c.requires.in_range c.requires.number above (rw c.in-Some.is at (c.in_ok-row.ensures.found clean b.has.tables holds)) c.in_ok-stored_reply-in-Some.ensures.reply

pub returns-in_err-stored_reply-in-Some-clause-cause : goal.returns-in_err-stored_reply-in-Some-clause-cause
returns-in_err-stored_reply-in-Some-clause-cause g c clean =
    stops_by c.in_err-stored_reply-in-Some.field-0.0 c.from_residual-in_err-stored_reply-in-Some.result (λ refused. (zone : Zone) (default : ℕ) → StopsOver zone default (state g.S.Store c.args.tx.now.conn.now).now refused)
    c.from_residual-in_err-stored_reply-in-Some.ensures.1 (λ zone default H b.
    let mid = was_clean c.find_answer.ensures.leaves clean in
    let stays = c.in_ok-retired.ensures.stays mid in
    let unretired : c.in_ok-retired.retired ≡ false = search rules in
    let above : is_below (requests H) c.args.id.now ≡ false = sym (c.in_ok-retired.ensures.below mid zone default H b) ∙ unretired in
    let holds = subst (λ (db : Database). HasLedger db b.has.tables) (sym stays.now) b.has.holds in
    let spelled = c.numbers_are_known.ensures.spelled zone default H c.args.request.now c.args.id.now _ b c.in-Some.row c.requires.in_range c.requires.number above (rw c.in-Some.is at (c.in_ok-row.ensures.found clean b.has.tables holds)) in
    of_rows H c.in_err-stored_reply-in-Some.field-0.0 (λ store. c.in_err-stored_reply-in-Some.ensures.store store spelled.0 spelled.1 spelled.2 spelled.3))
