use Rattle.mq_server.proofs.Cutting.{Stay, all_whole, all_one_way}
use Rattle.mq_server.proofs.laws.any_cuttings.Goals as goal

pub returns-clause-whole : goal.returns-clause-whole
returns-clause-whole c =
    let stay : Stay = record { empty = c.frames_stay.ensures.empty; long = c.frames_stay.ensures.long } in
    all_whole stay

pub returns-clause-only : goal.returns-clause-only
returns-clause-only c = all_one_way c.one_spelling.ensures.one_request
