use Rattle.mq_words.specs.CommandLine.{shape_of_subcommand}
use Rattle.mq_words.proofs.CommandLineSteps.{one_subcommand_more}
use Rattle.mq_words.proofs.matching.matcher_with.Goals as goal

pub loop-row-preserved : goal.loop-row-preserved
loop-row-preserved c =
    one_subcommand_more c.loop-row.program c.in_ok-subcommand_matcher.field-0 _ (λ s. shape_of_subcommand s.now) c.args.rows.now c.loop-row.row-index _
    c.loop-row-test.true c.in_ok-subcommand_matcher.ensures.shape c.in_ok-subcommand_matcher.ensures.local c.in_ok-program.ensures c.loop-row.invariant
