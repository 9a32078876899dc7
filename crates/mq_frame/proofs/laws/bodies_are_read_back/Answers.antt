use Rattle.std.proofs.Common.{refl}
use Rattle.mq_frame.specs.Spelling.{request_body, reply_body}
use Rattle.mq_frame.proofs.Bodies.{request_at_read, reply_at_read}
use Rattle.mq_frame.proofs.LawsLemmas.{frame_body}
use Rattle.mq_frame.proofs.laws.bodies_are_read_back.Goals as goal

pub returns-clause-body : goal.returns-clause-body
returns-clause-body c = frame_body

pub returns-clause-request : goal.returns-clause-request
returns-clause-request c = λ request h. request_at_read (request_body request) request (record { bytes = refl; in_range = h })

pub returns-clause-reply : goal.returns-clause-reply
returns-clause-reply c = λ reply h. reply_at_read (reply_body reply) reply (record { bytes = refl; in_range = h })

pub returns-clause-spelled_request : goal.returns-clause-spelled_request
returns-clause-spelled_request c = request_at_read

pub returns-clause-spelled_reply : goal.returns-clause-spelled_reply
returns-clause-spelled_reply c = reply_at_read
