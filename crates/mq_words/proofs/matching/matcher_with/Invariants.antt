use Rattle.std.proofs.Common.{◌≡◌, map, take}
use Rattle.clap.specs.Words.{app_of}
use Rattle.mq_words.specs.CommandLine.{program_with, shape_of_subcommand}
use Rattle.mq_words.proofs.matching.matcher_with.Given as goal

abbrev pub invariant-loop-row : goal.invariant-loop-row
invariant-loop-row l = app_of l.program ≡ program_with (map (λ s. shape_of_subcommand s.now) (take l.row-index l.rows))
