-- How the program ends where its words ask for nothing that can be done.
use Rattle.std.specs.Prelude.{◌≡◌, ◌≢◌, ℕ, Result, Ok, Err, MatchResult}
use Rattle.clap.specs.Values.{kind_of}
use Rattle.clap.specs.declared.error.Error.{Error}
use Rattle.clap.specs.declared.error.kind.ErrorKind.TheVariants.{DisplayHelp, DisplayVersion}
use Rattle.mq_words.specs.CommandLine.{IsHelp}
use Rattle.mq_words.specs.declared.fault.WordsFault.{WordsFault}
use Rattle.mq_words.specs.declared.fault.WordsFault.TheVariants as words
use Rattle.mq_words.specs.declared.printing.PrintFault.{PrintFault}
use Rattle.mq_words.specs.declared.printing.PrintFault.TheVariants as unprinted

-- a mistake ends with status 2, and help, alone, with 0, where it can be written
pub record EndsErring (error : Error) (ended : Result ℕ PrintFault) : Type 0 where
  pub mistake : kind_of error ≢ DisplayHelp → kind_of error ≢ DisplayVersion → ended ≡ Ok 2
  pub help : IsHelp error → MatchResult ended (λ status. status ≡ 0) (λ why. why ≡ unprinted.Write)
  pub zero : ended ≡ Ok 0 → IsHelp error

-- where memory runs out nothing is printed
abbrev pub EndsPrinted : WordsFault → Result ℕ PrintFault → Type 0
EndsPrinted words.Memory ended = ended ≡ Err unprinted.Memory
EndsPrinted (words.Text text) ended = ended ≡ Ok 2
EndsPrinted (words.Words error) ended = EndsErring error ended
