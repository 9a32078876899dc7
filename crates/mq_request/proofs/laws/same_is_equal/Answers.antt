use Rattle.mq_request.proofs.Alike.{id_is, same_from_id, request_is, same_from_request}
use Rattle.mq_request.proofs.laws.same_is_equal.Goals as goal

pub returns-clause-id : goal.returns-clause-id
returns-clause-id c = λ id other. (id_is id other, same_from_id id other)

pub returns-clause-request : goal.returns-clause-request
returns-clause-request c = λ request other. (request_is request other, same_from_request request other)
