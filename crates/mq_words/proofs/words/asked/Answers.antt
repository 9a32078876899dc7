use Rattle.std.proofs.Common.{map, string_bytes}
use Rattle.mq_words.proofs.MatchSteps.{asked_for}
use Rattle.mq_words.proofs.words.asked.Goals as goal

pub returns-in-Ok-Some-clause-asked : goal.returns-in-Ok-Some-clause-asked
returns-in-Ok-Some-clause-asked c =
    asked_for (map string_bytes c.args.words.now) c.in_ok-matches.matches c.in-Ok-Some.field-0 c.in-Ok-Some.given c.in_ok-matches.ensures.matches c.in-Ok-Some.field-0-is c.in-Ok-Some.ensures.meant

pub returns-in-Ok-None-clause-helps : goal.returns-in-Ok-None-clause-helps
returns-in-Ok-None-clause-helps c = c.text_refusal.ensures (map string_bytes c.args.words.now)

pub returns-clause-helps : goal.returns-clause-helps
returns-clause-helps c = c.text_refusal-in-Err.ensures (map string_bytes c.args.words.now)
