use Rattle.mq_client.proofs.Turning.{OneReply}
use Rattle.mq_client.proofs.Placing.{Grammar}
use Rattle.mq_client.proofs.Ending.{Cutting, same_ends, same_stops, no_stop_and_end}
use Rattle.mq_client.proofs.laws.one_run.Goals as goal

pub returns : goal.returns
returns c =
    let U : OneReply = c.one_spelling.ensures.one_reply in
    let G : Grammar = record { unique = c.one_meaning.ensures.unique; no_fault = c.one_meaning.ensures.no_fault } in
    let C : Cutting = record { unique = c.one_splitting.ensures.unique; held = c.any_cutting.ensures.held; too_long = c.any_cutting.ensures.too_long } in
    record { ends = same_ends U G C; stops = same_stops U G C; apart = no_stop_and_end G C }
