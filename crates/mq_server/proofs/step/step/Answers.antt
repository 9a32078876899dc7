use Rattle.std.proofs.Common.{Ok, Some}
use Rattle.mq_server.proofs.Heads.{Answers, a_frame}
use Rattle.mq_server.proofs.Stepping.{added, unanswered}
use Rattle.mq_server.proofs.step.step.Goals as goal

pub returns-in-Ok-Some-answer_body-clause-steps : goal.returns-in-Ok-Some-answer_body-clause-steps
returns-in-Ok-Some-answer_body-clause-steps g c = λ kept sound.
    let answer : Answers c.args.feed.now (Ok (Some c.in-Ok-Some.body.now)) = rw c.in-Ok-Some.field-0-is at c.in-Ok-Some.ensures.answer in
    let stands = a_frame c.args.feed.now c.next_body.follows.lender-at-none c.in-Ok-Some.body.now c.requires answer c.next_body.follows.holds-at-none in
    let told = rw c.in-Ok-Some-answer_body.field-0-is at c.in-Ok-Some-answer_body.ensures.answers kept sound in
    added (g.L.Ledger.book c.args.ledger.now) _ _ c.args.is_closed c.args.feed.now.rest c.args.replies.now.items c.in-Ok-Some.body.now _ _ c.in-Ok-Some-answer_body.reply _ c.add.result stands told c.add.ensures.added

pub returns-in-Err-answer_body-clause-steps : goal.returns-in-Err-answer_body-clause-steps
returns-in-Err-answer_body-clause-steps g c = λ kept sound.
    let answer : Answers c.args.feed.now (Ok (Some c.in-Ok-Some.body.now)) = rw c.in-Ok-Some.field-0-is at c.in-Ok-Some.ensures.answer in
    let stands = a_frame c.args.feed.now c.next_body.follows.lender-at-none c.in-Ok-Some.body.now c.requires answer c.next_body.follows.holds-at-none in
    unanswered (g.L.Ledger.book c.args.ledger.now) _ _ c.args.is_closed c.args.feed.now.rest c.args.replies.now.items c.in-Ok-Some.body.now _ _ c.in-Err-answer_body.fault stands (c.in-Err-answer_body.ensures.answers kept sound)
