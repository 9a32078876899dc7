-- What quota servers are asked, by the words of a command: about which login and day, under which host and run, at which
-- addresses.
use Rattle.std.specs.Prelude.{◌≡◌, ◌⊎◌, ◌<◌, ◌==◌, ℕ, List, [], ◌∷◌, length, map, Bool, true, false, is_some, option_map, string_bytes}
use Rattle.std.specs.Prelude.{Option, None, Some, Result, Ok, ⊤}
use Rattle.std.specs.Borrow.{Bor}
use Rattle.std.specs.Net.Text.{socket_text}
use Rattle.std.specs.declared.net.SocketAddr.{SocketAddr}
use Rattle.std.specs.declared.time.SystemTime.{SystemTime}
use Rattle.mq_request.specs.Range.{IsRun}
use Rattle.mq_request.specs.declared.message.Request.{Request}
use Rattle.mq_request.specs.declared.message.Request.TheVariants as asks
use Rattle.mq_link.specs.declared.link.ReportedExchange.{ReportedExchange}
use Rattle.mq_process.specs.declared.arguments.LoginArgument.{LoginArgument}
use Rattle.mq_process.specs.declared.arguments.LimitArgument.{LimitArgument}
use Rattle.mq_process.specs.declared.arguments.LimitArgument.TheVariants.{Recipients, Default}
use Rattle.mq_process.specs.declared.arguments.LimitArguments.{LimitArguments}
use Rattle.mq_process.specs.declared.arguments.OutputArgument.{OutputArgument}
use Rattle.mq_process.specs.declared.arguments.OutputArgument.TheVariants as outputs
use Rattle.mq_process.specs.declared.arguments.ProbeArguments.{ProbeArguments}
use Rattle.mq_process.specs.declared.arguments.ReportArguments.{ReportArguments}
use Rattle.mq_process.specs.declared.arguments.ResumeArguments.{ResumeArguments}
use Rattle.mq_process.specs.declared.arguments.RetireArguments.{RetireArguments}
use Rattle.mq_process.specs.declared.arguments.StopArguments.{StopArguments}
use Rattle.mq_command.specs.Allowing.{limit_of}
use Rattle.mq_command.specs.Asking.{status_of}
use Rattle.mq_command.specs.Lower.{FoundLower}
use Rattle.mq_command.specs.Orders.{Orders, OrdersFresh, Prints, PrintsLine, word}
use Rattle.mq_command.specs.Report.{Reports}
use Rattle.mq_command.specs.Resuming.{RunsRestore, RunsResume}
use Rattle.mq_command.specs.Top.{ReportsTop, columns_line}
use Rattle.mq_command.specs.declared.allow.Setter.{Setter}
use Rattle.mq_command.specs.declared.order.OrderFault.{OrderFault}
use Rattle.mq_command.specs.declared.form.Form.{Form}
use Rattle.mq_command.specs.declared.form.Form.TheVariants.{Json, Shown}
use Rattle.mq_command.specs.declared.report.ReportFault.{ReportFault}
use Rattle.mq_command.specs.declared.stop.StopOrder.{StopOrder}
use Rattle.mq_command.specs.declared.totals.ReportOrder.{ReportOrder}
use Rattle.mq_command.specs.declared.totals.ReportedLogins.{ReportedLogins}
use Rattle.mq_command.specs.declared.totals.ReportedLogins.TheVariants.{One, Top, All}
use Rattle.mq_process.specs.Clocks.{IsRunAt}
use Rattle.mq_process.specs.Links.{AsksOver}
use Rattle.mq_process.specs.Outputs.{form_of}
use Rattle.mq_process.specs.Questions.{Puts, PutsInJson}
use Rattle.mq_process.specs.Refusals.{Names}
use Rattle.mq_process.specs.Settings.{ReadsFilter, ReadsServers}
use Rattle.mq_process.specs.Today.{NamesDay, StopsFrom}
use Rattle.mq_process.specs.Whom.{FindsServers, IsWhom, servers_or}
use Rattle.mq_process.specs.declared.asking.TheConstants.{TIMEOUT}
use Rattle.mq_process.specs.declared.probing.Question.{Question}
use Rattle.mq_process.specs.declared.probing.Question.TheVariants.{Status, Host}
use Rattle.mq_remote.specs.Servers.{AsksAll}
use Rattle.mq_remote.specs.Shares.{AreSeveral, SharesAmong, SharesNumber}
use Rattle.mq_remote.specs.Stops.{AsksUse, StopsAll, UseAt}
use Rattle.mq_remote.specs.Totals.{AsksTogether}
use Rattle.mq_remote.specs.declared.subcommands.stopping.TheConstants.{SHORT}
use Rattle.mq_remote.specs.declared.subcommands.retire.Target.{Target}
use Rattle.mq_remote.specs.declared.subcommands.shares.ShareOrder.{ShareOrder}
use Rattle.mq_remote.specs.declared.subcommands.shares.ShareOrder.TheVariants.{Numbered, Fresh, More}
use Rattle.mq_remote.specs.declared.subcommands.shares.ShareRule.TheVariants.{Default as ByDefault}
use Rattle.mq_settings.specs.declared.settings.FilterSettings.{FilterSettings}

-- the run that is given, or where none is the milliseconds of a time that a clock showed, in range
abbrev pub IsRunBy : (SystemTime → Type 0) → Option ℕ → ℕ → Type 0
IsRunBy Shows (Some given) run = run ≡ given
IsRunBy Shows None run = IsRun run × IsRunAt Shows run

-- The server at an address was asked so, over a link that leads there; or memory ran out before, and the status is 1.
abbrev pub AsksAt : {L : Type 0} → (L → SocketAddr → ℕ → Type 0) → (L → Option (List ReportedExchange))
    → (ℕ → Option (List ReportedExchange) → Option (List ReportedExchange) → Option (List ℕ) → Option (List ℕ) → Type 0) → SocketAddr → ℕ → Type 0
AsksAt leads told Asks address said = (said ≡ 1) ⊎ AsksOver leads told address TIMEOUT (Asks said)

-- the servers at these addresses were asked so, each in turn
abbrev pub AsksEachOf : {L : Type 0} → (L → SocketAddr → ℕ → Type 0) → (L → Option (List ReportedExchange))
    → (ℕ → Option (List ReportedExchange) → Option (List ReportedExchange) → Option (List ℕ) → Option (List ℕ) → Type 0) → List (List ℕ) → ℕ → Type 0
AsksEachOf leads told Asks servers status = AsksAll (AsksAt leads told Asks) (length servers == 1) status servers 0

-- the order was sent, under its number alone, and what came of it was printed
abbrev pub SendsOrder : Request → ℕ → Option (List ReportedExchange) → Option (List ReportedExchange) → Option (List ℕ) → Option (List ℕ) → Type 0
SendsOrder request status old new output output' =
    (sent : Result (Unit {0}) OrderFault) × Orders request old new sent × Prints (λ _. word request) output output' sent status

-- ---- `status` of addresses

-- whether the server answers, or whether it takes the requests of the host of the words, too, at a time that the clock showed
abbrev pub AsksAbout : (SystemTime → Type 0) → Option (List ℕ) → Question → Type 0
AsksAbout Shows None question = question ≡ Status
AsksAbout Shows (Some host) question =
    (lent : Bor (List ℕ)) × (now : ℕ) × (question ≡ Host lent now) × (lent.now ≡ host) × IsRunBy Shows None now

-- the question was put, and what came of it printed as text or as JSON
abbrev pub PutsAs : OutputArgument → List ℕ → Question → ℕ → Option (List ReportedExchange) → Option (List ReportedExchange) → Option (List ℕ) → Option (List ℕ) → Type 0
PutsAs outputs.Text = Puts
PutsAs outputs.Json = PutsInJson

-- whether no line stands above what each server answers: JSON has none, and one server alone
abbrev pub is_bare : OutputArgument → ℕ → Bool
is_bare outputs.Text count = count == 1
is_bare outputs.Json count = true

-- what `status` of addresses asks: each server the same, once
pub record AsksProbe {L F : Type 0} (leads : L → SocketAddr → ℕ → Type 0) (told : L → Option (List ReportedExchange))
    (remaining : F → Option (List ℕ)) (Shows : SystemTime → Type 0) (given : ProbeArguments) (status : ℕ) : Type 0 where
  pub servers : List (List ℕ)
  pub whom : IsWhom {X = Bor (List ℕ)} remaining None given.servers servers
  pub question : Question
  pub about : AsksAbout Shows (option_map (λ host. host.now) given.host) question
  pub asked : AsksAll (λ address. AsksAt leads told (PutsAs given.output (socket_text address) question) address)
      (is_bare given.output (length servers)) status servers 0

-- ---- `limit`

-- a limit was sent: under its number alone where the words give that, else under the first one that isn't used
abbrev pub SendsLimit : Bool → Request → ℕ → Option (List ReportedExchange) → Option (List ReportedExchange) → Option (List ℕ) → Option (List ℕ) → Type 0
SendsLimit true request status old new output output' = SendsOrder request status old new output output'
SendsLimit false request status old new output output' =
    (sent : Result (Unit {0}) OrderFault) × OrdersFresh request old new sent × Prints (λ _. word request) output output' sent status

-- under which numbers shares are sent
abbrev pub order_of : Bool → ShareOrder
order_of true = Numbered
order_of false = Fresh

-- How a limit is set at these servers, under the first number of the run: each default, or a number, of which each of several that
-- settings name gets its share.
abbrev pub LimitsBy : {L : Type 0} → (L → SocketAddr → ℕ → Type 0) → (L → Option (List ReportedExchange)) → Bool → Setter → ℕ → LimitArgument
    → List (List ℕ) → List (List ℕ) → ℕ → Type 0
LimitsBy leads told is_given setter day Default words servers status =
    SharesAmong leads told (order_of is_given) setter day ByDefault servers status
LimitsBy leads told is_given setter day (Recipients number) words servers status =
    (AreSeveral words servers × SharesNumber leads told (order_of is_given) setter day number servers status)
    ⊎ ((AreSeveral words servers → ⊥) × AsksEachOf leads told (SendsLimit is_given (limit_of setter 1 day number)) servers status)

-- the login of the words, the host of the words, and a run
pub record IsSetterBy (host : List ℕ) (login : LoginArgument) (setter : Setter) : Type 0 where
  pub by_host : setter.host ≡ host
  pub in_run : IsRun setter.run
  pub named : Names login setter.login

-- what `limit` asks
pub record AsksLimit {L F : Type 0} (leads : L → SocketAddr → ℕ → Type 0) (told : L → Option (List ReportedExchange))
    (remaining : F → Option (List ℕ)) (Shows : SystemTime → Type 0) (given : LimitArguments) (status : ℕ) : Type 0 where
  pub servers : List (List ℕ)
  pub whom : IsWhom remaining given.config given.servers servers
  pub day : ℕ
  pub from : NamesDay remaining given.from day
  pub setter : Setter
  pub is_setter : IsSetterBy given.host.now given.login setter
  pub is_run : IsRunBy Shows given.run setter.run
  pub asked : LimitsBy leads told (is_some given.run) setter day given.cap given.servers servers status

-- ---- `stop` and `resume`

-- Whether a login is meant at each of these servers: it is said so, or several were asked, and one knows that it used something on
-- this day or one of the two before, or else one doesn't say. Of one server alone nothing is asked beforehand.
abbrev pub IsMeant : {L : Type 0} → (L → SocketAddr → ℕ → Type 0) → (L → Option (List ReportedExchange)) → List ℕ → ℕ → Bool → List (List ℕ) → Bool → Type 0
IsMeant leads told login day true servers meant = meant ≡ true
IsMeant leads told login day false servers meant =
    ((length servers < 2) × (meant ≡ false)) ⊎ ((1 < length servers) × AsksUse (UseAt leads told login day SHORT) servers false meant)

-- what `stop` asks: of each server the same, in a run of the clock's, from the day on that the words or the clock say, and again
-- of those that give no answer where the words say so
pub record AsksStop {L F : Type 0} (leads : L → SocketAddr → ℕ → Type 0) (told : L → Option (List ReportedExchange))
    (remaining : F → Option (List ℕ)) (Shows : SystemTime → Type 0) (given : StopArguments) (status : ℕ) : Type 0 where
  pub servers : List (List ℕ)
  pub whom : IsWhom remaining given.config given.servers servers
  pub setter : Setter
  pub is_setter : IsSetterBy given.host.now given.login setter
  pub is_run : IsRunBy Shows None setter.run
  pub order : StopOrder
  pub from : StopsFrom remaining given.config given.is_forced given.day (Ok order.day)
  pub meant : IsMeant leads told setter.login order.day given.is_forced servers order.is_meant
  pub all : order.is_all ≡ given.is_all
  pub asked : StopsAll leads told setter order given.is_waiting servers status

-- the login was to have so many more from this day on, or the limit that it had
abbrev pub ResumesThere : Setter → ℕ → Option ℕ → ℕ → Option (List ReportedExchange) → Option (List ReportedExchange) → Option (List ℕ) → Option (List ℕ) → Type 0
ResumesThere setter day (Some more) status old new output output' =
    (found : FoundLower) × RunsResume setter day more found status old new output output'
ResumesThere setter day None status old new output output' =
    (found : FoundLower) × RunsRestore setter day found status old new output output'

-- How a login is to have more again at these servers: so many, of which each of several that settings name gets its share, or at
-- each the limit that it had.
abbrev pub ResumesBy : {L : Type 0} → (L → SocketAddr → ℕ → Type 0) → (L → Option (List ReportedExchange)) → Setter → ℕ → Option ℕ
    → List (List ℕ) → List (List ℕ) → ℕ → Type 0
ResumesBy leads told setter day more words servers status =
    ((number : ℕ) × (more ≡ Some number) × AreSeveral words servers × SharesNumber leads told More setter day number servers status)
    ⊎ ((AreSeveral words servers → more ≡ None) × AsksEachOf leads told (ResumesThere setter day more) servers status)

-- what `resume` asks, in a run of the clock's
pub record AsksResume {L F : Type 0} (leads : L → SocketAddr → ℕ → Type 0) (told : L → Option (List ReportedExchange))
    (remaining : F → Option (List ℕ)) (Shows : SystemTime → Type 0) (given : ResumeArguments) (status : ℕ) : Type 0 where
  pub servers : List (List ℕ)
  pub whom : IsWhom remaining given.config given.servers servers
  pub setter : Setter
  pub is_setter : IsSetterBy given.host.now given.login setter
  pub is_run : IsRunBy Shows None setter.run
  pub day : ℕ
  pub from : NamesDay remaining given.day day
  pub asked : ResumesBy leads told setter day given.cap given.servers servers status

-- ---- `retire`

-- the server of the words, where they name one
abbrev pub words_of : Option (Bor (List ℕ)) → List (List ℕ)
words_of None = []
words_of (Some text) = text.now ∷ []

-- the servers that a file lists, or the one that the filter asks
abbrev pub FindsByFilter : {F : Type 0} → (F → Option (List ℕ)) → SocketAddr → List (List ℕ) → Type 0
FindsByFilter remaining server texts =
    ((servers : List SocketAddr) × ReadsServers remaining (Ok servers) × (texts ≡ map socket_text servers))
    ⊎ (texts ≡ socket_text server ∷ [])

-- the host of a filter's settings, and whom these name where the words name no server
abbrev pub IsTargetOfFilter : {F : Type 0} → (F → Option (List ℕ)) → List (List ℕ) → Target → Type 0
IsTargetOfFilter remaining words target =
    (settings : FilterSettings) × ReadsFilter remaining (Ok settings) × (target.host ≡ settings.host)
    × (words ≡ [] → FindsByFilter remaining settings.server (map string_bytes target.found.items))

-- the host of the words, and whom any command asks; or else that of a filter's settings
abbrev pub IsTarget : {F X : Type 0} → (F → Option (List ℕ)) → Option X → Option (List ℕ) → List (List ℕ) → Target → Type 0
IsTarget remaining named (Some host) words target =
    (target.host ≡ host)
    × (words ≡ [] → (servers : List SocketAddr) × FindsServers remaining named (Ok servers)
    × (map string_bytes target.found.items ≡ map socket_text servers))
IsTarget remaining named None words target = IsTargetOfFilter remaining words target

-- what `retire` asks: of each server the same, that the runs of the host below this one are given up
pub record AsksRetire {L F : Type 0} (leads : L → SocketAddr → ℕ → Type 0) (told : L → Option (List ReportedExchange))
    (remaining : F → Option (List ℕ)) (Shows : SystemTime → Type 0) (given : RetireArguments) (status : ℕ) : Type 0 where
  pub run : ℕ
  pub is_run : IsRunBy Shows given.run run
  pub target : Target
  pub is_target : IsTarget remaining given.config (option_map (λ host. host.now) given.host) (words_of given.server) target
  pub servers : List (List ℕ)
  pub whom : servers ≡ servers_or (map string_bytes target.found.items) (words_of given.server)
  pub asked : AsksAll (λ address said. AsksOver leads told address TIMEOUT
      (SendsOrder (asks.Retire (record { host = target.host; run = run; number = 1 })) said)) (length servers == 1) status servers 0

-- ---- `report`

-- the logins that the words name: one, or so many of those that used most, or all
abbrev pub NamesReported : Option LoginArgument → Option ℕ → ReportedLogins → Type 0
NamesReported (Some given) top (One login) = Names given login
NamesReported None (Some count) (Top number) = number ≡ count
NamesReported None None All = ⊤
NamesReported _ _ _ = ⊥

-- how what was asked of these logins and the day is printed
abbrev pub ReportsOf : ℕ → ReportedLogins → Option (List ReportedExchange) → Option (List ReportedExchange) → Option (List ℕ) → Option (List ℕ)
    → Result (Unit {0}) ReportFault → Type 0
ReportsOf day (One login) = Reports day (Some login)
ReportsOf day (Top count) = ReportsTop day count
ReportsOf day All = Reports day None

-- what these logins used on the day was asked, and printed
abbrev pub ReportsRows : ℕ → ReportedLogins → ℕ → Option (List ReportedExchange) → Option (List ReportedExchange) → Option (List ℕ) → Option (List ℕ) → Type 0
ReportsRows day reported status old new output output' =
    (ended : Result (Unit {0}) ReportFault) × (status ≡ status_of ended) × ReportsOf day reported old new output output' ended

-- the same, below a line of columns where that is wanted; where that can't be printed, nothing is asked
abbrev pub ReportsThere : ℕ → ReportedLogins → Bool → ℕ → Option (List ReportedExchange) → Option (List ReportedExchange) → Option (List ℕ) → Option (List ℕ) → Type 0
ReportsThere day reported false status old new output output' = ReportsRows day reported status old new output output'
ReportsThere day reported true status old new output output' =
    ((headed : Option (List ℕ)) × PrintsLine columns_line output headed 0 × ReportsRows day reported status old new headed output')
    ⊎ ((status ≡ 1) × PrintsLine columns_line output output' 1 × (new ≡ old))

-- the sums of servers are reported: as JSON, or of several that settings name, unless they are to be shown apart
abbrev pub AreSummed : Form → Bool → List (List ℕ) → List (List ℕ) → Type 0
AreSummed Json each words servers = ⊤
AreSummed form each words servers = (each ≡ false) × AreSeveral words servers

-- whether what a server has stands below a line of columns
abbrev pub is_headed : Form → Bool
is_headed Shown = true
is_headed form = false

-- how servers are reported: their sums, or what each has
abbrev pub ReportsBy : {L : Type 0} → (L → SocketAddr → ℕ → Type 0) → (L → Option (List ReportedExchange)) → ReportOrder → Bool → List (List ℕ)
    → List (List ℕ) → ℕ → Type 0
ReportsBy leads told order each words servers status =
    (AreSummed order.form each words servers × AsksTogether leads told order servers status)
    ⊎ ((AreSummed order.form each words servers → ⊥)
    × AsksEachOf leads told (ReportsThere order.day order.logins (is_headed order.form)) servers status)

-- what `report` asks
pub record AsksReport {L F : Type 0} (leads : L → SocketAddr → ℕ → Type 0) (told : L → Option (List ReportedExchange))
    (remaining : F → Option (List ℕ)) (given : ReportArguments) (on_terminal : Bool) (status : ℕ) : Type 0 where
  pub servers : List (List ℕ)
  pub whom : IsWhom remaining given.config given.servers servers
  pub day : ℕ
  pub on : NamesDay remaining given.day day
  pub reported : ReportedLogins
  pub named : NamesReported given.login given.top reported
  pub asked : ReportsBy leads told (record { day = day; logins = reported; form = form_of given.output on_terminal }) given.is_each
      given.servers servers status
