use Rattle.mq_frame.proofs.Cuts.{bytes_from_all}
use Rattle.mq_frame.proofs.Bodies.{request_at_spelled, request_at_read, reply_at_spelled, reply_at_read}
use Rattle.mq_frame.proofs.laws.reading_finds_the_spelled.Goals as goal

pub returns-clause-request : goal.returns-clause-request
returns-clause-request c = λ body request fits. (request_at_spelled body request (bytes_from_all body fits), request_at_read body request)

pub returns-clause-reply : goal.returns-clause-reply
returns-clause-reply c = λ body reply fits. (reply_at_spelled body reply (bytes_from_all body fits), reply_at_read body reply)
