-- How a text writes a limit.
use Rattle.std.specs.Prelude.{◌≡◌, ℕ, List, codes}
use Rattle.mq_request.specs.Range.{IsAmount}
use Rattle.mq_process.specs.declared.arguments.LimitArgument.{LimitArgument}
use Rattle.mq_process.specs.declared.arguments.LimitArgument.TheVariants.{Recipients, Default}
use Rattle.mq_words.specs.Days.{SpellsNumber}

-- the text names the limit: a number in range, or the word `default`
abbrev pub WritesLimit : List ℕ → LimitArgument → Type 0
WritesLimit text (Recipients number) = SpellsNumber text number × IsAmount number
WritesLimit text Default = text ≡ codes "default"
