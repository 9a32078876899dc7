use Rattle.std.proofs.Common.{sym, ◌∙◌}
use Rattle.std.proofs.lemmas.List.{get_or_default}
use Rattle.mq_replay.proofs.EndSteps.{fault_found, no_fault_more, no_fault}
use Rattle.mq_replay.proofs.replay.first_fault.Goals as goal

pub returns-in-Some : goal.returns-in-Some
returns-in-Some c =
    fault_found c.args.ends.now c.loop-index.index _ c.in-Some.ending c.loop-index-test.true (get_or_default c.args.ends.now c.loop-index.index _ _ c.loop-index-test.true)
    (sym c.ending_of.ensures ∙ c.in-Some.is) c.loop-index.invariant

pub loop-index-preserved : goal.loop-index-preserved
loop-index-preserved c =
    no_fault_more c.args.ends.now c.loop-index.index _ c.loop-index-test.true (get_or_default c.args.ends.now c.loop-index.index _ _ c.loop-index-test.true)
    (sym c.ending_of.ensures ∙ c.in_default.is) c.loop-index.invariant

pub returns : goal.returns
returns c = no_fault c.args.ends.now c.loop-index.index c.loop-index-test.false c.loop-index.invariant
