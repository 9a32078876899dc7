use Rattle.std.proofs.Common.{map, string_bytes}
use Rattle.clap.specs.Words.{app_of}
use Rattle.mq_words.proofs.CommandLineSteps.{kinds_by}
use Rattle.mq_words.proofs.matching.matches_of.Goals as goal

pub returns-clause-kinds : goal.returns-clause-kinds
returns-clause-kinds c =
    kinds_by (app_of c.in_ok-matcher.field-0) (map string_bytes c.args.words.now) c.try_get_matches_from.result c.in_ok-matcher.ensures c.try_get_matches_from.ensures.kinds
