use Rattle.mq_server.proofs.Cutting.{Stay, served_more, served_whole, served_one_way}
use Rattle.mq_server.proofs.laws.any_cutting.Goals as goal

pub returns-clause-whole : goal.returns-clause-whole
returns-clause-whole c =
    let stay : Stay = record { empty = c.frames_stay.ensures.empty; long = c.frames_stay.ensures.long } in
    served_whole stay

pub returns-clause-only : goal.returns-clause-only
returns-clause-only c = served_one_way c.one_spelling.ensures.one_request

pub returns-clause-more : goal.returns-clause-more
returns-clause-more c =
    let stay : Stay = record { empty = c.frames_stay.ensures.empty; long = c.frames_stay.ensures.long } in
    served_more stay
