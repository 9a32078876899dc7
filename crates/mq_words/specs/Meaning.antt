-- What the options of a subcommand ask for, as clap matched them to the words.
use Rattle.std.specs.Prelude.{◌≡◌, ◌⊎◌, ◌≢◌, IsSomeAnd, ℕ, Bool, true, false, List, [], Option, Some, None, codes, option_map}
use Rattle.std.specs.Borrow.{Bor}
use Rattle.std.specs.Option.{option_map_or}
use Rattle.std.specs.Str.Parse.{IsNumeral, digits_value, without_leading_plus}
use Rattle.clap.specs.Matches.{first_value, matched_of, one_text, raw_values}
use Rattle.clap.specs.declared.parser.matches.Found.{Found}
use Rattle.mq_request.specs.Range.{IsWithin}
use Rattle.mq_process.specs.Arguments.{last_stop_day}
use Rattle.mq_process.specs.declared.arguments.Arguments.{Arguments}
use Rattle.mq_process.specs.declared.arguments.Arguments.TheVariants.{Replay, Filter, Server, Limit, Retire, Stop, Resume, Day}
use Rattle.mq_process.specs.declared.arguments.Arguments.TheVariants.{Init, Status, Probe, Report, Limits, Audit, Forget}
use Rattle.mq_process.specs.declared.arguments.ConnectionsArgument.{ConnectionsArgument}
use Rattle.mq_process.specs.declared.arguments.ConnectionsArgument.TheVariants.{Count, Endless}
use Rattle.mq_process.specs.declared.arguments.DayArgument.{DayArgument}
use Rattle.mq_process.specs.declared.arguments.DayArgument.TheVariants.{Today, Ago}
use Rattle.mq_process.specs.declared.arguments.LoginArgument.{LoginArgument}
use Rattle.mq_process.specs.declared.arguments.LoginArgument.TheVariants.{Reported, Printed}
use Rattle.mq_process.specs.declared.arguments.FilterArguments.{FilterArguments}
use Rattle.mq_process.specs.declared.arguments.ServerArguments.{ServerArguments}
use Rattle.mq_process.specs.declared.arguments.ProbeArguments.{ProbeArguments}
use Rattle.mq_process.specs.declared.arguments.LimitArgument.{LimitArgument}
use Rattle.mq_process.specs.declared.arguments.LimitArguments.{LimitArguments}
use Rattle.mq_process.specs.declared.arguments.StopArguments.{StopArguments}
use Rattle.mq_process.specs.declared.arguments.ResumeArguments.{ResumeArguments}
use Rattle.mq_process.specs.declared.arguments.DayArguments.{DayArguments}
use Rattle.mq_process.specs.declared.arguments.RetireArguments.{RetireArguments}
use Rattle.mq_process.specs.declared.arguments.ReportArguments.{ReportArguments}
use Rattle.mq_process.specs.declared.arguments.LimitsArguments.{LimitsArguments}
use Rattle.mq_process.specs.declared.arguments.AuditArguments.{AuditArguments}
use Rattle.mq_process.specs.declared.arguments.ForgetWords.{ForgetWords}
use Rattle.mq_process.specs.declared.arguments.OutputArgument.{OutputArgument}
use Rattle.mq_process.specs.declared.arguments.OutputArgument.TheVariants.{Text, Json}
use Rattle.mq_words.specs.Days.{WritesDay}
use Rattle.mq_words.specs.Limits.{WritesLimit}
use Rattle.mq_process.specs.declared.arguments.ReplayArguments.{ReplayArguments}

-- the text that an option has, by the words or by default
abbrev pub HasText : Found → List ℕ → List ℕ → Type 0
HasText found id text = (given : List ℕ) → first_value found id ≡ Some given → text ≡ given

-- the text of an option, where it has one
abbrev pub HasTextOrNone : Found → List ℕ → Option (Bor (List ℕ)) → Type 0
HasTextOrNone found id text = option_map (λ t. t.now) text ≡ first_value found id

-- all texts of an option, in order
abbrev pub texts_of : Found → List ℕ → List (List ℕ)
texts_of found id = option_map_or raw_values (matched_of found id) []

-- whether a flag is given
pub record HasFlag (found : Found) (id : List ℕ) (flag : Bool) : Type 0 where
  pub given : one_text found id ≡ Some (codes "true") → flag ≡ true
  pub not_given : one_text found id ≡ Some (codes "false") → flag ≡ false

-- decimal digits, after a plus or none, that spell a number of a range
pub record Spells (least most : ℕ) (text : List ℕ) (number : ℕ) : Type 0 where
  pub digits : IsNumeral 10 (without_leading_plus text)
  pub value : number ≡ digits_value 10 (without_leading_plus text)
  pub range : IsWithin least most number

-- the number of an option
abbrev pub HasNumber : Found → List ℕ → ℕ → ℕ → ℕ → Type 0
HasNumber found id least most number =
    (text : List ℕ) (spelled : ℕ) → one_text found id ≡ Some text → Spells least most text spelled → number ≡ spelled

-- the number of an option, where it has one
pub record HasNumberOrNone (found : Found) (id : List ℕ) (least most : ℕ) (number : Option ℕ) : Type 0 where
  pub none : one_text found id ≡ None → number ≡ None
  pub some : (text : List ℕ) (spelled : ℕ) → one_text found id ≡ Some text → Spells least most text spelled → number ≡ Some spelled

-- a number of connections, or no end of them
pub record HasConnections (found : Found) (asked : ConnectionsArgument) : Type 0 where
  pub endless : one_text found (codes "endless") ≡ Some (codes "true") → asked ≡ Endless
  pub count : one_text found (codes "endless") ≡ Some (codes "false")
      → (text : List ℕ) (spelled : ℕ) → one_text found (codes "connections") ≡ Some text → Spells 1 1000000 text spelled → asked ≡ Count spelled

-- the limit: that of the word's text, or else of the option's
pub record HasCap (found : Found) (cap : LimitArgument) : Type 0 where
  pub word : (text : List ℕ) → first_value found (codes "CAP") ≡ Some text → WritesLimit text cap
  pub named : (text : List ℕ) → first_value found (codes "CAP") ≡ None → first_value found (codes "cap") ≡ Some text → WritesLimit text cap

-- how it is printed: as JSON where that is asked for
pub record HasOutput (found : Found) (output : OutputArgument) : Type 0 where
  pub json : one_text found (codes "json") ≡ Some (codes "true") → output ≡ Json
  pub as_text : one_text found (codes "json") ≡ Some (codes "false") → output ≡ Text

-- the day that was so many days ago, or else today
pub record HasDayAgo (found : Found) (day : DayArgument) : Type 0 where
  pub ago : (text : List ℕ) (spelled : ℕ) → one_text found (codes "ago") ≡ Some text → Spells 0 376200 text spelled → day ≡ Ago spelled
  pub today : one_text found (codes "ago") ≡ None → day ≡ Today

-- the day that the option's text names, or else one by how long ago it is
abbrev pub HasDay : Found → List ℕ → ℕ → DayArgument → Type 0
HasDay found id last day =
    IsSomeAnd (first_value found id) (λ text. WritesDay last text day) ⊎ ((first_value found id ≡ None) × HasDayAgo found day)

-- the day that the word names, where it is given
abbrev pub HasDayWord : Found → Option DayArgument → Type 0
HasDayWord found (Some day) = IsSomeAnd (first_value found (codes "DAY")) (λ text. WritesDay 376200 text day)
HasDayWord found None = first_value found (codes "DAY") ≡ None

-- the login as smtpd reports it, or else as a report prints it: the word, or else the option
abbrev pub HasLoginOrNone : Found → Option LoginArgument → Type 0
HasLoginOrNone found (Some (Reported text)) = first_value found (codes "login") ≡ Some text.now
HasLoginOrNone found (Some (Printed text)) = (first_value found (codes "login") ≡ None)
    × ((first_value found (codes "LOGIN") ≡ Some text.now)
    ⊎ ((first_value found (codes "LOGIN") ≡ None) × (first_value found (codes "login-text") ≡ Some text.now)))
HasLoginOrNone found None = (first_value found (codes "login") ≡ None)
    × (first_value found (codes "LOGIN") ≡ None) × (first_value found (codes "login-text") ≡ None)

-- the login that has to be given
abbrev pub HasLogin : Found → LoginArgument → Type 0
HasLogin found login = HasLoginOrNone found (Some login) ⊎ HasLoginOrNone found None

pub record MeansFilter (found : Found) (given : FilterArguments) : Type 0 where
  pub config : HasText found (codes "config") given.config.now
  pub run : HasNumberOrNone found (codes "run") 1 281474976710655 given.run
  pub check : HasFlag found (codes "check") given.check

pub record MeansServer (found : Found) (given : ServerArguments) : Type 0 where
  pub config : HasText found (codes "config") given.config.now
  pub create : HasFlag found (codes "create") given.create
  pub connections : HasConnections found given.connections

pub record MeansProbe (found : Found) (given : ProbeArguments) : Type 0 where
  pub servers : given.servers ≡ texts_of found (codes "server")
  pub host : HasTextOrNone found (codes "host") given.host
  pub output : HasOutput found given.output

pub record MeansLimit (found : Found) (given : LimitArguments) : Type 0 where
  pub servers : given.servers ≡ texts_of found (codes "server")
  pub config : HasTextOrNone found (codes "config") given.config
  pub host : HasText found (codes "host") given.host.now
  pub login : HasLogin found given.login
  pub from : HasDay found (codes "from") 376200 given.from
  pub cap : HasCap found given.cap
  pub run : HasNumberOrNone found (codes "run") 1 281474976710655 given.run

pub record MeansStop (found : Found) (given : StopArguments) : Type 0 where
  pub servers : given.servers ≡ texts_of found (codes "server")
  pub config : HasTextOrNone found (codes "config") given.config
  pub host : HasText found (codes "host") given.host.now
  pub login : HasLogin found given.login
  pub day : HasDay found (codes "day") last_stop_day given.day
  pub force : HasFlag found (codes "force") given.is_forced
  pub every : HasFlag found (codes "all") given.is_all
  pub waiting : HasFlag found (codes "wait") given.is_waiting

pub record MeansResume (found : Found) (given : ResumeArguments) : Type 0 where
  pub servers : given.servers ≡ texts_of found (codes "server")
  pub config : HasTextOrNone found (codes "config") given.config
  pub host : HasText found (codes "host") given.host.now
  pub login : HasLogin found given.login
  pub day : HasDay found (codes "day") last_stop_day given.day
  pub cap : HasNumberOrNone found (codes "cap") 0 1000000 given.cap

pub record MeansDay (found : Found) (given : DayArguments) : Type 0 where
  pub config : HasText found (codes "config") given.config.now
  pub named : HasDayWord found given.named
  pub moment : HasNumberOrNone found (codes "at") 86400 32503680000 given.moment
  pub output : HasOutput found given.output

pub record MeansRetire (found : Found) (given : RetireArguments) : Type 0 where
  pub server : HasTextOrNone found (codes "server") given.server
  pub config : HasTextOrNone found (codes "config") given.config
  pub host : HasTextOrNone found (codes "host") given.host
  pub run : HasNumberOrNone found (codes "run") 1 281474976710655 given.run

pub record MeansReport (found : Found) (given : ReportArguments) : Type 0 where
  pub servers : given.servers ≡ texts_of found (codes "server")
  pub config : HasTextOrNone found (codes "config") given.config
  pub day : HasDay found (codes "day") 376200 given.day
  pub login : HasLoginOrNone found given.login
  pub top : HasNumberOrNone found (codes "top") 1 1000000 given.top
  pub each : HasFlag found (codes "each") given.is_each
  pub output : HasOutput found given.output

pub record MeansLimits (found : Found) (given : LimitsArguments) : Type 0 where
  pub config : HasText found (codes "config") given.config.now
  pub output : HasOutput found given.output

pub record MeansAudit (found : Found) (given : AuditArguments) : Type 0 where
  pub config : HasText found (codes "config") given.config.now
  pub output : HasOutput found given.output

pub record MeansForget (found : Found) (given : ForgetWords) : Type 0 where
  pub config : HasText found (codes "config") given.config.now
  pub before : (text : List ℕ) → first_value found (codes "before") ≡ Some text → WritesDay 376200 text given.before
  pub «into» : HasText found (codes "into") given.into.now

pub record MeansReplay (found : Found) (given : ReplayArguments) : Type 0 where
  pub default : HasNumber found (codes "default") 0 1000000 given.default
  pub east : HasNumber found (codes "east") 0 1439 given.east
  pub west : HasNumber found (codes "west") 0 1439 given.west
  pub rule : HasTextOrNone found (codes "rule") given.rule
  pub sql : HasFlag found (codes "sql") given.sql

-- `status` with settings asks the server of these, and else the servers that it names
abbrev pub MeansStatus : Found → Arguments → Type 0
MeansStatus found (Status given) = first_value found (codes "config") ≡ Some given.config.now
MeansStatus found (Probe given) = (first_value found (codes "config") ≡ None) × MeansProbe found given
MeansStatus found _ = ⊥

-- the name is that of no subcommand
abbrev pub IsUnknown : List ℕ → Type 0
IsUnknown name = (name ≢ codes "filter") × (name ≢ codes "init") × (name ≢ codes "status") × (name ≢ codes "server") × (name ≢ codes "limit")
    × (name ≢ codes "stop") × (name ≢ codes "resume") × (name ≢ codes "day") × (name ≢ codes "retire") × (name ≢ codes "report")
    × (name ≢ codes "limits") × (name ≢ codes "audit") × (name ≢ codes "forget") × (name ≢ codes "replay")

-- the subcommand of this name, with these options, asks for this
abbrev pub Means : List ℕ → Found → Arguments → Type 0
Means name found (Init given) = (name ≡ codes "init") × HasText found (codes "config") given.config.now
Means name found (Server given) = (name ≡ codes "server") × MeansServer found given
Means name found (Filter given) = (name ≡ codes "filter") × MeansFilter found given
Means name found (Status given) = (name ≡ codes "status") × MeansStatus found (Status given)
Means name found (Probe given) = (name ≡ codes "status") × MeansStatus found (Probe given)
Means name found (Limit given) = (name ≡ codes "limit") × MeansLimit found given
Means name found (Stop given) = (name ≡ codes "stop") × MeansStop found given
Means name found (Resume given) = (name ≡ codes "resume") × MeansResume found given
Means name found (Day given) = (name ≡ codes "day") × MeansDay found given
Means name found (Retire given) = (name ≡ codes "retire") × MeansRetire found given
Means name found (Report given) = (name ≡ codes "report") × MeansReport found given
Means name found (Limits given) = (name ≡ codes "limits") × MeansLimits found given
Means name found (Audit given) = (name ≡ codes "audit") × MeansAudit found given
Means name found (Forget given) = (name ≡ codes "forget") × MeansForget found given
Means name found (Replay given) = (name ≡ codes "replay") × MeansReplay found given
