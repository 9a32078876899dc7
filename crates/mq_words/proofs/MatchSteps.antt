-- From what clap matched to what it means.
use Rattle.std.proofs.Common.{◌≡◌, List, Option, None, Some, Result, Ok, Err, subst}
use Rattle.std.specs.Prelude.{Box, IfOk, IfSome, option_map}
use Rattle.std.specs.Box.{box_value}
use Rattle.clap.specs.Words.{HasMatchesOf, Row, Text, rows_of, subcommand_rows, subcommand_rows_of}
use Rattle.clap.specs.declared.parser.matches.ArgMatches.{ArgMatches}
use Rattle.clap.specs.declared.parser.matches.ArgMatches.TheViews.{out-SubCommand}
use Rattle.clap.specs.declared.parser.matches.Found.{Found}
use Rattle.clap.specs.declared.parser.matches.SubCommand.{SubCommand}
use Rattle.mq_process.specs.declared.arguments.Arguments.{Arguments}
use Rattle.mq_words.specs.CommandLine.{AsksFor, IsMeantBy, command_line}
use Rattle.mq_words.specs.Meaning.{Means}
use Rattle.mq_words.proofs.CommandLineSteps.{command_line_is_simple}

module _ {Z : Type 0} where
  -- the subcommand that was met, with its name and its rows
  pub rows_met : (met : Option (Box SubCommand Z)) (name : Text) (rows : List Row) → Some name ≡ option_map (λ b. (out-SubCommand (box_value b)).name.now) met
      → Some rows ≡ option_map (λ p. p.1) (subcommand_rows met) → subcommand_rows met ≡ Some (name, rows)
  rows_met None name rows named matched = absurd (let e = named in cc)
  rows_met (Some b) name rows named matched = let e = named in let f = matched in cc

-- what its options mean is meant by it
pub meant_by : {F : Type 0} (rows : Option (Text × List Row)) (name : Text) (found : Found) (read : Result (Option Arguments) F) → rows ≡ Some (name, rows_of found)
    → IfOk read (λ given. IfSome given (Means name found)) → IfOk read (λ given. IfSome given (IsMeantBy rows))
meant_by rows name found (Ok (Some given)) is means = (name, found, is, means)
meant_by rows name found (Ok None) is means = means
meant_by rows name found (Err fault) is means = means

-- what the matches of these words mean is what they ask for
pub asked_for : (words : List Text) (matches : ArgMatches) (read : Option Arguments) (given : Arguments) → HasMatchesOf command_line words matches
    → read ≡ Some given → IfSome read (IsMeantBy (subcommand_rows_of matches)) → AsksFor words given
asked_for words matches read given has is means =
    subst (λ rows. IsMeantBy rows given) (has command_line_is_simple).1 (subst (λ r. IfSome r (IsMeantBy (subcommand_rows_of matches))) is means)
