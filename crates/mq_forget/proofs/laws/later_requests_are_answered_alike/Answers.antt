use Rattle.mq_forget.proofs.Fronts.{Builds}
use Rattle.mq_forget.proofs.Replying.{later_arrivals}
use Rattle.mq_forget.proofs.laws.later_requests_are_answered_alike.Goals as goal

pub returns-clause-reply : goal.returns-clause-reply
returns-clause-reply c = λ day default D H r legal late. (c.a_later_request_is_answered_alike.ensures day default D H r legal late).0

pub returns-clause-history : goal.returns-clause-history
returns-clause-history c = λ day default D H r legal late. (c.a_later_request_is_answered_alike.ensures day default D H r legal late).1

pub returns-clause-replies : goal.returns-clause-replies
returns-clause-replies c = λ day default D H A legal in_range late.
    let laws : Builds day default = record { legal = c.built_is_legal.ensures day default; arrived = c.one_more_arrival.ensures.arrived day default; again = c.one_more_arrival.ensures.again day default } in
    (later_arrivals day default laws D (c.a_later_request_is_answered_alike.ensures day default D) (c.remembered_is_legal.ensures.built day default D) H A legal in_range late).0

pub returns-clause-arrivals : goal.returns-clause-arrivals
returns-clause-arrivals c = λ day default D H A legal in_range late.
    let laws : Builds day default = record { legal = c.built_is_legal.ensures day default; arrived = c.one_more_arrival.ensures.arrived day default; again = c.one_more_arrival.ensures.again day default } in
    (later_arrivals day default laws D (c.a_later_request_is_answered_alike.ensures day default D) (c.remembered_is_legal.ensures.built day default D) H A legal in_range late).1
