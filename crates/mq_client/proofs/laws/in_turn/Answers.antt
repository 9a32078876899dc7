use Rattle.mq_client.proofs.Turning.{OneReply, turns, all_turns, none_next, same_turns}
use Rattle.mq_client.proofs.Sameness.{same_played}
use Rattle.mq_client.proofs.laws.in_turn.Goals as goal

pub returns : goal.returns
returns c =
    let U : OneReply = c.one_spelling.ensures.one_reply in
    record { turns = turns; all_turns = all_turns; last = none_next; same = same_turns U; steps = same_played U }
