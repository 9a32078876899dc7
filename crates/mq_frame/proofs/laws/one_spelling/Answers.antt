use Rattle.mq_frame.proofs.LawsLemmas.{one_request, one_reply, one_request_frame, one_reply_frame}
use Rattle.mq_frame.proofs.laws.one_spelling.Goals as goal

pub returns-clause-one_request : goal.returns-clause-one_request
returns-clause-one_request c = one_request

pub returns-clause-one_reply : goal.returns-clause-one_reply
returns-clause-one_reply c = one_reply

pub returns-clause-one_request_frame : goal.returns-clause-one_request_frame
returns-clause-one_request_frame c = one_request_frame

pub returns-clause-one_reply_frame : goal.returns-clause-one_reply_frame
returns-clause-one_reply_frame c = one_reply_frame
