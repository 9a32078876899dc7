use Rattle.std.proofs.Common.{◌≡◌, Some, None, arith, subst}
use Rattle.mq_frame.specs.Owned.{ReplyHoldsBytes}
use Rattle.mq_frame.specs.Parts.{shown_reply}
use Rattle.mq_frame.specs.Reading.{reply_at}
use Rattle.mq_frame.proofs.Bodies.{reply_at_spelled, reply_at_read}
use Rattle.mq_frame.proofs.decode.decode_reply.Goals as goal

pub returns-in_err-own_reply-in-Some-clause-memory : goal.returns-in_err-own_reply-in-Some-clause-memory
returns-in_err-own_reply-in-Some-clause-memory c = λ _. (_, reply_at_spelled c.args.body.now _ (λ i. omega (arith, c.type_inv.body i)) c.in-Some.ensures)

pub returns-in_err-own_reply-in-Some-clause-bad : goal.returns-in_err-own_reply-in-Some-clause-bad
returns-in_err-own_reply-in-Some-clause-bad c = λ none. absurd (none _ (reply_at_spelled c.args.body.now _ (λ i. omega (arith, c.type_inv.body i)) c.in-Some.ensures))

pub returns-in-None-clause-only : goal.returns-in-None-clause-only
returns-in-None-clause-only c = λ r s.
    let read : reply_at c.args.body.now ≡ Some r = reply_at_read c.args.body.now r s in
    let none : reply_at c.args.body.now ≡ None = c.in-None.ensures in
    absurd cc

pub returns-in_ok-own_reply-in-Some-clause-found : goal.returns-in_ok-own_reply-in-Some-clause-found
returns-in_ok-own_reply-in-Some-clause-found c = rw c.in_ok-own_reply-in-Some.ensures.ok (reply_at_spelled c.args.body.now _ (λ i. omega (arith, c.type_inv.body i)) c.in-Some.ensures)

pub returns-in_ok-own_reply-in-Some-clause-only : goal.returns-in_ok-own_reply-in-Some-clause-only
returns-in_ok-own_reply-in-Some-clause-only c = λ r s.
    let read : reply_at c.args.body.now ≡ Some r = reply_at_read c.args.body.now r s in
    let got = c.in-Some.ensures in
    let own = c.in_ok-own_reply-in-Some.ensures.ok in
    cc

pub returns-in_ok-own_reply-in-Some-clause-bad : goal.returns-in_ok-own_reply-in-Some-clause-bad
returns-in_ok-own_reply-in-Some-clause-bad c = λ none. absurd (none _ (reply_at_spelled c.args.body.now _ (λ i. omega (arith, c.type_inv.body i)) c.in-Some.ensures))

pub returns-in_err-own_reply-in-Some-clause-full : goal.returns-in_err-own_reply-in-Some-clause-full
returns-in_err-own_reply-in-Some-clause-full c = λ _ r s.
    let read : reply_at c.args.body.now ≡ Some r = reply_at_read c.args.body.now r s in
    let got = c.in-Some.ensures in
    let same : shown_reply c.in-Some.parts ≡ r = cc in
    subst ReplyHoldsBytes same c.in_err-own_reply-in-Some.ensures.full
