use Rattle.std.proofs.Common.{◌≡◌, Some, None, arith, subst}
use Rattle.mq_frame.specs.Owned.{RequestHoldsBytes}
use Rattle.mq_frame.specs.Parts.{shown_request}
use Rattle.mq_frame.specs.Reading.{request_at}
use Rattle.mq_frame.proofs.Bodies.{request_at_spelled, request_at_read}
use Rattle.mq_frame.proofs.decode.decode_request.Goals as goal

pub returns-in_err-own_request-in-Some-clause-memory : goal.returns-in_err-own_request-in-Some-clause-memory
returns-in_err-own_request-in-Some-clause-memory c = λ _. (_, request_at_spelled c.args.body.now _ (λ i. omega (arith, c.type_inv.body i)) c.in-Some.ensures)

pub returns-in_err-own_request-in-Some-clause-bad : goal.returns-in_err-own_request-in-Some-clause-bad
returns-in_err-own_request-in-Some-clause-bad c = λ none. absurd (none _ (request_at_spelled c.args.body.now _ (λ i. omega (arith, c.type_inv.body i)) c.in-Some.ensures))

pub returns-in-None-clause-only : goal.returns-in-None-clause-only
returns-in-None-clause-only c = λ r s.
    let read : request_at c.args.body.now ≡ Some r = request_at_read c.args.body.now r s in
    let none : request_at c.args.body.now ≡ None = c.in-None.ensures in
    absurd cc

pub returns-in_ok-own_request-in-Some-clause-found : goal.returns-in_ok-own_request-in-Some-clause-found
returns-in_ok-own_request-in-Some-clause-found c = rw c.in_ok-own_request-in-Some.ensures.ok (request_at_spelled c.args.body.now _ (λ i. omega (arith, c.type_inv.body i)) c.in-Some.ensures)

pub returns-in_ok-own_request-in-Some-clause-only : goal.returns-in_ok-own_request-in-Some-clause-only
returns-in_ok-own_request-in-Some-clause-only c = λ r s.
    let read : request_at c.args.body.now ≡ Some r = request_at_read c.args.body.now r s in
    let got = c.in-Some.ensures in
    let own = c.in_ok-own_request-in-Some.ensures.ok in
    cc

pub returns-in_ok-own_request-in-Some-clause-bad : goal.returns-in_ok-own_request-in-Some-clause-bad
returns-in_ok-own_request-in-Some-clause-bad c = λ none. absurd (none _ (request_at_spelled c.args.body.now _ (λ i. omega (arith, c.type_inv.body i)) c.in-Some.ensures))

pub returns-in_err-own_request-in-Some-clause-full : goal.returns-in_err-own_request-in-Some-clause-full
returns-in_err-own_request-in-Some-clause-full c = λ _ r s.
    let read : request_at c.args.body.now ≡ Some r = request_at_read c.args.body.now r s in
    let got = c.in-Some.ensures in
    let same : shown_request c.in-Some.parts ≡ r = cc in
    subst RequestHoldsBytes same c.in_err-own_request-in-Some.ensures.full
