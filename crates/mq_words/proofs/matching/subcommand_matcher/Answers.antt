use Rattle.std.proofs.Common.{[], get_or, map, ap, ◌∙◌, refl}
use Rattle.clap.specs.Simple.{new_shape}
use Rattle.mq_words.specs.CommandLine.{rule_of_option, rule_of_word}
use Rattle.mq_words.proofs.CommandLineSteps.{no_option, one_more, option_named}
use Rattle.mq_words.proofs.matching.subcommand_matcher.Goals as goal

pub loop-word-preserved : goal.loop-word-preserved
loop-word-preserved c =
    one_more c.loop-word.command _ c.argument_matcher.result (new_shape c.args.row.now.name.now) rule_of_word [] c.args.row.now.words.now
    c.loop-word.word-index no_option c.loop-word-test.true c.argument_matcher.ensures.rule c.argument_matcher.ensures.local c.in_ok-command.ensures c.loop-word.invariant

pub loop-option-preserved : goal.loop-option-preserved
loop-option-preserved c =
    one_more c.loop-option.command _ c.long.result (new_shape c.args.row.now.name.now) rule_of_option (map rule_of_word c.args.row.now.words.now)
    c.args.row.now.options.now c.loop-option.option-index no_option c.loop-option-test.true
    (option_named c.argument_matcher-in-loop-option.result c.long.result _ (get_or c.args.row.now.options.now c.loop-option.option-index no_option) c.argument_matcher-in-loop-option.ensures.rule refl c.long.ensures)
    (ap (λ a. a.global) c.long.ensures ∙ c.argument_matcher-in-loop-option.ensures.local) c.in_ok-command-2.ensures c.loop-option.invariant
