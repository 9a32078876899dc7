-- Commands as clap reads them, one rule after the other.
use Rattle.std.proofs.Common.{◌≡◌, ◌<◌, ◌+◌, ◌++◌, ◌∷◌, [], ℕ, List, length, map, take, true, false, refl, ap, sym, subst, ◌∙◌, get_or, append_assoc, Result, Ok, Err}
use Rattle.std.specs.Prelude.{IfErr}
use Rattle.std.proofs.lemmas.List.{map_more}
use Rattle.clap.specs.Words.{AddsArg, AddsSubcommand, App, FailsBy, HasKind, Rule, Shape, app_of, fault_of, is_simple, is_simple_and_free, rule_of, shape_of, with_rule, with_subcommand}
use Rattle.clap.specs.declared.error.Error.{Error}
use Rattle.clap.specs.declared.parser.matches.ArgMatches.{ArgMatches}
use Rattle.clap.specs.declared.builder.arg.Arg.{Arg}
use Rattle.clap.specs.declared.builder.command.Command.{Command}
use Rattle.clap.specs.declared.builder.command.Command.TheViews.{out-Command}
use Rattle.mq_words.specs.declared.subcommands.CommandOption.{CommandOption}
use Rattle.std.specs.Borrow.{Bor}
use Rattle.std.specs.Prelude.{None, Some}
use Rattle.mq_words.specs.declared.subcommands.Takes.TheVariants.{Nothing}
use Rattle.mq_words.specs.declared.subcommands.Need.TheVariants.{Optional}
use Rattle.mq_words.specs.CommandLine.{program_with, rule_of_option, command_line, rule_of_word}
use Rattle.mq_words.specs.declared.subcommands.Subcommand.{Subcommand}

-- the program is one of which clap says the matches
pub command_line_is_simple : is_simple command_line ≡ true
command_line_is_simple = refl

-- and of which it says why words are refused
command_line_is_free : is_simple_and_free command_line ≡ true
command_line_is_free = refl

pub kinds_by : (app : App) (words : List (List ℕ)) (matched : Result ArgMatches Error) → app ≡ command_line
    → (is_simple_and_free app ≡ true → FailsBy (fault_of app words) matched) → IfErr matched (HasKind (fault_of command_line words))
kinds_by app words (Ok matches) is fails = tt
kinds_by app words (Err error) is fails =
    subst (λ a. (is_simple_and_free a ≡ true → FailsBy {T = ArgMatches} (fault_of a words) (Err error)) → HasKind (fault_of command_line words) error) (sym is)
    (λ of_it. of_it command_line_is_free) fails

-- one rule more, of the next option
rules_more : (f : CommandOption → Rule) (first : List Rule) (xs : List CommandOption) (i : ℕ) (d : CommandOption) (r : Rule) → i < length xs
    → r ≡ f (get_or xs i d) → (first ++ map f (take i xs)) ++ r ∷ [] ≡ first ++ map f (take (i + 1) xs)
rules_more f first xs i d r below is =
    append_assoc first (map f (take i xs)) (r ∷ []) ∙ ap (λ (e : Rule). first ++ (map f (take i xs) ++ e ∷ [])) is ∙ ap (λ (e : List Rule). first ++ e) (sym (map_more f xs i d below))

-- a command with the rule of one option more
pub one_more : (old new : Command) (a : Arg) (s : Shape) (f : CommandOption → Rule) (first : List Rule) (xs : List CommandOption) (i : ℕ) (d : CommandOption)
    → i < length xs → rule_of a ≡ f (get_or xs i d) → a.global ≡ false → AddsArg old a new
    → (shape_of old ≡ record s { rules = first ++ map f (take i xs) }) × ((out-Command old).has_globals ≡ false)
    → (shape_of new ≡ record s { rules = first ++ map f (take (i + 1) xs) }) × ((out-Command new).has_globals ≡ false)
one_more old new a s f first xs i d below is local adds was =
    let app : app_of new ≡ with_rule (app_of old) (rule_of a) = adds.shape local in
    let top : shape_of new ≡ record (shape_of old) { rules = (shape_of old).rules ++ rule_of a ∷ [] } = ap (λ (x : App). x.top) app in (
      top ∙ ap (λ (x : Shape). record x { rules = x.rules ++ rule_of a ∷ [] }) was.0 ∙ ap (λ (rs : List Rule). record s { rules = rs }) (rules_more f first xs i d (rule_of a) below is),
      search,
    )

-- the rule of an option, of which only the name was still missing
pub option_named : (plain named : Arg) (name : Bor (List ℕ)) (option : CommandOption) → rule_of plain ≡ rule_of_word option → name ≡ option.name → named ≡ record plain { long = Some name }
    → rule_of named ≡ rule_of_option option
option_named plain named name option is same long =
    ap rule_of long ∙ ap (λ (r : Rule). record r { long = Some name.now }) is ∙ ap (λ (n : Bor (List ℕ)). record (rule_of_word option) { long = Some n.now }) same

-- an option for where a list has none
abbrev pub no_option : CommandOption
no_option = record {
  name = record { ref_ptr = (0, 0); now = [] };
  value = record { ref_ptr = (0, 0); now = [] };
  help = record { ref_ptr = (0, 0); now = [] };
  takes = Nothing;
  need = Optional;
  default = None;
}

with_one : (ss : List Shape) (s : Shape) → with_subcommand (program_with ss) s ≡ program_with (ss ++ s ∷ [])
with_one [] s = refl
with_one (x ∷ xs) s = refl

-- with one more
pub one_subcommand_more : (old sub new : Command) (f : Bor Subcommand → Shape) (xs : List (Bor Subcommand)) (i : ℕ) (d : Bor Subcommand) → i < length xs
    → shape_of sub ≡ f (get_or xs i d) → (out-Command sub).has_globals ≡ false → AddsSubcommand old sub new
    → app_of old ≡ program_with (map f (take i xs)) → app_of new ≡ program_with (map f (take (i + 1) xs))
one_subcommand_more old sub new f xs i d below is local adds was =
    adds.shape local ∙ ap (λ (a : App). with_subcommand a (shape_of sub)) was ∙ with_one (map f (take i xs)) (shape_of sub)
    ∙ ap (λ (s : Shape). program_with (map f (take i xs) ++ s ∷ [])) is ∙ ap program_with (sym (map_more f xs i d below))
