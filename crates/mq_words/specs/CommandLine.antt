-- The command line: which words name what, as clap matches them, and what they ask for.
use Rattle.std.specs.Prelude.{◌≡◌, ◌⊎◌, ◌++◌, ⊤, ℕ, List, [], ◌∷◌, map, codes, Option, None, Some}
use Rattle.std.specs.Prelude.{true, false}
use Rattle.std.specs.Borrow.{Bor}
use Rattle.clap.specs.Simple.{new_shape}
use Rattle.clap.specs.Words.{App, IsAmong, Row, Rule, Shape, fault_of, kind_of, new_rule, rows_of}
use Rattle.clap.specs.Words.{subcommand_of}
use Rattle.clap.specs.declared.builder.action.ArgAction.{ArgAction}
use Rattle.clap.specs.declared.builder.action.ArgAction.TheVariants.{Append, SetTrue}
use Rattle.clap.specs.declared.error.Error.{Error}
use Rattle.clap.specs.declared.error.kind.ErrorKind.TheVariants.{DisplayHelp, DisplayVersion}
use Rattle.clap.specs.declared.parser.matches.Found.{Found}
use Rattle.mq_process.specs.declared.arguments.Arguments.{Arguments}
use Rattle.mq_words.specs.Meaning.{Means}
use Rattle.mq_words.specs.declared.fault.WordsFault.{WordsFault}
use Rattle.mq_words.specs.declared.fault.WordsFault.TheVariants.{Words}
use Rattle.mq_words.specs.declared.subcommands.CommandOption.{CommandOption}
use Rattle.mq_words.specs.declared.subcommands.Subcommand.{Subcommand}
use Rattle.mq_words.specs.declared.subcommands.Takes.{Takes}
use Rattle.mq_words.specs.declared.subcommands.Takes.TheVariants.{Nothing, Texts}

-- ---- what clap reads of the rows of a table

-- a flag takes nothing, and what may be repeated takes one text each time
abbrev pub clap_action : Takes → Option ArgAction
clap_action Nothing = Some SetTrue
clap_action Texts = Some Append
clap_action _ = None

-- what stands for one that isn't given
abbrev pub defaults_of : Option (Bor (List ℕ)) → List (List ℕ)
defaults_of None = []
defaults_of (Some text) = text.now ∷ []

-- a word without a name
abbrev pub rule_of_word : CommandOption → Rule
rule_of_word option = record (new_rule option.name.now) {
  action = clap_action option.takes;
  defaults = defaults_of option.default;
}

-- an option
abbrev pub rule_of_option : CommandOption → Rule
rule_of_option option = record (rule_of_word option) { long = Some option.name.now }

-- a subcommand: its words, then its options
abbrev pub shape_of_subcommand : Subcommand → Shape
shape_of_subcommand row = record (new_shape row.name.now) {
  rules = map rule_of_word row.words.now ++ map rule_of_option row.options.now;
}

-- ---- the command line

-- a word that stands without a name
abbrev pub plain_word : List ℕ → Rule
plain_word name = new_rule name

-- an option that takes a text
abbrev pub option : List ℕ → Rule
option name = record (new_rule name) { long = Some name }

-- the same, with a text that stands for it where it isn't given
abbrev pub option_or : List ℕ → List ℕ → Rule
option_or name default = record (option name) { defaults = default ∷ [] }

-- an option that may be repeated
abbrev pub options : List ℕ → Rule
options name = record (option name) { action = Some Append }

-- an option that takes nothing
abbrev pub flag : List ℕ → Rule
flag name = record (option name) { action = Some SetTrue }

-- a subcommand of this name, with these words and options
abbrev pub subcommand : List ℕ → List Rule → Shape
subcommand name rules = record (new_shape name) { rules = rules }

-- the server's settings
abbrev pub config : Rule
config = option_or (codes "config") (codes "/etc/mailquota/server.toml")

-- whom to ask
abbrev pub with_servers : List Rule → List Rule
with_servers rest = options (codes "server") ∷ option (codes "config") ∷ rest

-- the same, under which host, and about which login
abbrev pub asked_about : List Rule → List Rule
asked_about rest = with_servers (option_or (codes "host") (codes "admin")
    ∷ option (codes "login") ∷ option (codes "login-text") ∷ rest)

abbrev pub init_shape : Shape
init_shape = subcommand (codes "init") (config ∷ [])

abbrev pub server_shape : Shape
server_shape = subcommand (codes "server") (config ∷ flag (codes "create")
    ∷ option_or (codes "connections") (codes "1000000") ∷ flag (codes "endless") ∷ [])

abbrev pub filter_shape : Shape
filter_shape = subcommand (codes "filter") (option_or (codes "config") (codes
    "/etc/mailquota/filter.toml") ∷ option (codes "run") ∷ flag (codes "check") ∷ [])

abbrev pub status_shape : Shape
status_shape = subcommand (codes "status") (options (codes "server") ∷ option (codes "host")
    ∷ option (codes "config") ∷ flag (codes "json") ∷ [])

abbrev pub limit_shape : Shape
limit_shape = subcommand (codes "limit") (plain_word (codes "LOGIN") ∷ plain_word (codes "CAP")
    ∷ asked_about (option (codes "from") ∷ option (codes "ago") ∷ option (codes "cap")
    ∷ option (codes "run") ∷ []))

abbrev pub stop_shape : Shape
stop_shape = subcommand (codes "stop") (plain_word (codes "LOGIN")
    ∷ asked_about (option (codes "day") ∷ option (codes "ago") ∷ flag (codes "force")
    ∷ flag (codes "all") ∷ flag (codes "wait") ∷ []))

abbrev pub resume_shape : Shape
resume_shape = subcommand (codes "resume") (plain_word (codes "LOGIN")
    ∷ asked_about (option (codes "day") ∷ option (codes "ago") ∷ option (codes "cap") ∷ []))

abbrev pub day_shape : Shape
day_shape = subcommand (codes "day") (plain_word (codes "DAY") ∷ config ∷ option (codes "at")
    ∷ flag (codes "json") ∷ [])

abbrev pub retire_shape : Shape
retire_shape = subcommand (codes "retire") (option (codes "server") ∷ option (codes "config")
    ∷ option (codes "host") ∷ option (codes "run") ∷ [])

abbrev pub report_shape : Shape
report_shape = subcommand (codes "report") (plain_word (codes "LOGIN")
    ∷ with_servers (option (codes "day") ∷ option (codes "ago") ∷ option (codes "login")
    ∷ option (codes "login-text") ∷ option (codes "top")
    ∷ flag (codes "each") ∷ flag (codes "json") ∷ []))

abbrev pub limits_shape : Shape
limits_shape = subcommand (codes "limits") (config ∷ flag (codes "json") ∷ [])

abbrev pub audit_shape : Shape
audit_shape = subcommand (codes "audit") (config ∷ flag (codes "json") ∷ [])

abbrev pub forget_shape : Shape
forget_shape = subcommand (codes "forget") (config ∷ option (codes "before")
    ∷ option (codes "into") ∷ [])

abbrev pub replay_shape : Shape
replay_shape = subcommand (codes "replay") (option_or (codes "default") (codes "100")
    ∷ option_or (codes "east") (codes "0") ∷ option_or (codes "west") (codes "0")
    ∷ option (codes "rule") ∷ flag (codes "sql") ∷ [])

-- all subcommands
abbrev pub subcommand_shapes : List Shape
subcommand_shapes =
    init_shape ∷ server_shape ∷ filter_shape ∷ status_shape ∷ limit_shape ∷ stop_shape
    ∷ resume_shape ∷ day_shape ∷ retire_shape ∷ report_shape ∷ limits_shape ∷ audit_shape
    ∷ forget_shape ∷ replay_shape ∷ []

-- a program with these subcommands
abbrev pub program_with : List Shape → App
program_with [] = record {
  top = record (new_shape (codes "mailquota")) {
    has_version = true;
    disable_help_subcommand = true;
  };
  subs = [];
}
program_with (s ∷ ss) =
    record {
      top = record (new_shape (codes "mailquota")) {
        has_version = true;
        disable_help_subcommand = true;
        is_leaf = false;
      };
      subs = s ∷ ss;
    }

-- the program
abbrev pub command_line : App
command_line = program_with subcommand_shapes

-- what the subcommand of this name means, by these matches
abbrev pub IsMeantBy : Option (List ℕ × List Row) → Arguments → Type 0
IsMeantBy rows given = (name : List ℕ) × (found : Found) × (rows ≡ Some (name, rows_of found))
    × Means name found given

-- Words of which the first is the program's name ask for this: it is what the subcommand means that
-- clap finds among them, by the words and defaults that clap gives to its options.
abbrev pub AsksFor : List (List ℕ) → Arguments → Type 0
AsksFor words given = IsMeantBy (subcommand_of command_line words) given

-- these words ask for help or for the version, which clap gives in place of a subcommand
abbrev pub AsksHelp : List (List ℕ) → Type 0
AsksHelp words = IsAmong DisplayHelp (fault_of command_line words)
    ⊎ IsAmong DisplayVersion (fault_of command_line words)

-- the error is help or the version
abbrev pub IsHelp : Error → Type 0
IsHelp error = (kind_of error ≡ DisplayHelp) ⊎ (kind_of error ≡ DisplayVersion)

-- help is given only to words that ask for it
abbrev pub HelpsAsked : List (List ℕ) → WordsFault → Type 0
HelpsAsked words (Words error) = IsHelp error → AsksHelp words
HelpsAsked words _ = ⊤
