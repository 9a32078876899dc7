use Rattle.std.proofs.Common.{◌≡◌, false, map, take, ◌++◌}
use Rattle.clap.specs.Words.{shape_of}
use Rattle.clap.specs.Simple.{new_shape}
use Rattle.clap.specs.declared.builder.command.Command.TheViews.{out-Command}
use Rattle.mq_words.specs.CommandLine.{rule_of_option, rule_of_word}
use Rattle.mq_words.proofs.matching.subcommand_matcher.Given as goal

abbrev pub invariant-loop-word : goal.invariant-loop-word
invariant-loop-word l =
    (shape_of l.command ≡ record (new_shape l.row.name.now) { rules = map rule_of_word (take l.word-index l.row.words.now) })
    × ((out-Command l.command).has_globals ≡ false)

abbrev pub invariant-loop-option : goal.invariant-loop-option
invariant-loop-option l =
    (shape_of l.command ≡ record (new_shape l.row.name.now) { rules = map rule_of_word l.row.words.now ++ map rule_of_option (take l.option-index l.row.options.now) })
    × ((out-Command l.command).has_globals ≡ false)
