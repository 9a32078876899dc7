use Rattle.mq_frame.proofs.LawsLemmas.{request_length, reply_length}
use Rattle.mq_frame.proofs.laws.body_lengths.Goals as goal

pub returns-clause-request : goal.returns-clause-request
returns-clause-request c = request_length

pub returns-clause-reply : goal.returns-clause-reply
returns-clause-reply c = reply_length
