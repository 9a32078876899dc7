use Rattle.mq_frame.specs.Parts.{shown_reply}
use Rattle.mq_client.proofs.Words.{deciding}
use Rattle.mq_client.proofs.Telling.{decision_by}
use Rattle.mq_client.proofs.verdict.verdict_in.Goals as goal

pub returns-in-Some : goal.returns-in-Some
returns-in-Some c =
    let q = c.args.request.now in
    let found = shown_reply c.in-Some.reply in
    (deciding q found, decision_by q c.args.body.now found c.in-Some.ensures.found c.in-Some.ensures.only, c.verdict_of.ensures)
