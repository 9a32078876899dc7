-- What the filter runs by: the settings of its file, and its run.
use Rattle.std.specs.Prelude.{◌≡◌, ◌⊎◌, ℕ, List, [], Bool, true, false, Option, None, Result, Ok, Err}
use Rattle.std.specs.Io.KnownBytes.{IsAtEnd}
use Rattle.std.specs.List.{concat}
use Rattle.std.specs.Net.Text.{socket_text}
use Rattle.std.specs.declared.net.SocketAddr.{SocketAddr}
use Rattle.std.specs.declared.time.SystemTime.{SystemTime}
use Rattle.mq_link.specs.declared.link.ReportedExchange.{ReportedExchange}
use Rattle.mq_process.specs.declared.arguments.FilterArguments.{FilterArguments}
use Rattle.mq_settings.specs.declared.settings.FilterSettings.{FilterSettings}
use Rattle.mq_client.specs.Past.{StandsAt, State}
use Rattle.mq_client.specs.Run.{EndsWith, StopsAt, Supplies, Supply, around, supply}
use Rattle.mq_client.specs.declared.fault.FilterFault.{FilterFault}
use Rattle.mq_client.specs.declared.filter.RunEnd.{RunEnd}
use Rattle.mq_command.specs.Probing.{Checks}
use Rattle.mq_process.specs.Links.{AsksOver}
use Rattle.mq_process.specs.Settings.{ReadsFilter}
use Rattle.mq_process.specs.declared.fault.ProcessFault.{ProcessFault}
use Rattle.mq_process.specs.declared.fault.ProcessFault.TheVariants.{Memory, NoRun}
use Rattle.mq_remote.specs.Asked.{IsRunBy}
use Rattle.mq_remote.specs.declared.fault.FilterEnd.{FilterEnd}
use Rattle.mq_remote.specs.declared.fault.FilterEnd.TheVariants.{Process, Filter}

-- a client of this run that has asked nothing yet, as the settings say
pub record Begins (settings : FilterSettings) (run : ℕ) (client : State) : Type 0 where
  pub past : StandsAt client []
  pub source : client.source ≡ record { host = settings.host; run = run }
  pub tries : client.tries ≡ settings.tries
  pub spans : client.spans ≡ record { pause = settings.pause; hold = settings.hold }

-- what a filter's input and output report: what is still to come and what each read gave, what was written, and whether a call
-- has failed
pub record Streams : Type 0 where
  pub supply : Supply
  pub read_failed : Bool
  pub sink : Option (List ℕ)
  pub write_failed : Bool

-- the streams that report this
abbrev pub streams : Option (List ℕ) → Option (List (List ℕ)) → Bool → Option (List ℕ) → Bool → Streams
streams remaining reads read_failed contents write_failed =
    record { supply = supply remaining reads; read_failed = read_failed; sink = contents; write_failed = write_failed }

-- all that smtpd wrote was read to its end and answered, by a client that began and ended so, over a link that told these
-- exchanges
pub record AnswersAll (client client' : State) (old new : Option (List ReportedExchange)) (before after : Streams) : Type 0 where
  pub pieces : List (List ℕ)
  pub ended : RunEnd
  pub supplied : Supplies before.supply after.supply pieces
  pub at_end : IsAtEnd after.supply.remaining
  pub ends : EndsWith (around before.sink old client) (concat pieces) (around after.sink new client') ended
  pub works : after.write_failed ≡ false

-- what was read of it was answered up to a fault
pub record AnswersUntil (fault : FilterFault) (client client' : State) (old new : Option (List ReportedExchange))
    (before after : Streams) : Type 0 where
  pub pieces : List (List ℕ)
  pub supplied : Supplies before.supply after.supply pieces
  pub stops : StopsAt (around before.sink old client) pieces after.supply.remaining (around after.sink new client')
      after.read_failed after.write_failed fault

-- what was answered, by how it ended
abbrev pub AnswersLines : State → State → Result ℕ FilterEnd → Option (List ReportedExchange) → Option (List ReportedExchange) → Streams → Streams → Type 0
AnswersLines client client' (Ok status) old new before after = (status ≡ 0) × AnswersAll client client' old new before after
AnswersLines client client' (Err (Filter fault)) old new before after = AnswersUntil fault client client' old new before after
AnswersLines client client' (Err (Process fault)) old new before after = ⊥

-- what a run of the filter asks: what its lines want, by a client that begins as the settings say
abbrev pub FiltersSo : FilterSettings → ℕ → Result ℕ FilterEnd → Streams → Streams → Option (List ReportedExchange) → Option (List ReportedExchange)
    → Option (List ℕ) → Option (List ℕ) → Type 0
FiltersSo settings run ended before after old new _ _ =
    (client client' : State) × Begins settings run client × AnswersLines client client' ended old new before after

-- a run of the filter: it asks over a link to the server of the settings, with their timeout, which keeps its connection where
-- they say so, unless memory runs out before its first line
abbrev pub FiltersRun : {L : Type 0} → (L → SocketAddr → ℕ → Type 0) → (L → Bool → Type 0) → (L → Option (List ReportedExchange)) → FilterSettings
    → ℕ → Streams → Streams → Result ℕ FilterEnd → Type 0
FiltersRun leads keeps told settings run before after ended =
    ((ended ≡ Err (Process Memory)) × (after ≡ before))
    ⊎ AsksOver (λ link address timeout. leads link address timeout × keeps link settings.keep_connection) told
    settings.server settings.timeout (FiltersSo settings run ended before after)

-- a run of the filter under the number that is given, or that of the clock's time, where that can be had
abbrev pub FiltersNumbered : {L : Type 0} → (L → SocketAddr → ℕ → Type 0) → (L → Bool → Type 0) → (L → Option (List ReportedExchange))
    → (SystemTime → Type 0) → Option ℕ → FilterSettings → Streams → Streams → Result ℕ FilterEnd → Type 0
FiltersNumbered leads keeps told Shows given settings before after ended =
    ((ended ≡ Err (Process NoRun)) × (after ≡ before))
    ⊎ ((run : ℕ) × IsRunBy Shows given run × FiltersRun leads keeps told settings run before after ended)

-- what `filter --check` asks: whether the server of the settings takes the requests of their host, at a time that the clock
-- showed, where that can be had
abbrev pub ChecksServer : {L : Type 0} → (L → SocketAddr → ℕ → Type 0) → (L → Option (List ReportedExchange)) → (SystemTime → Type 0) → FilterSettings
    → Result ℕ FilterEnd → Type 0
ChecksServer leads told Shows settings (Ok status) =
    (now : ℕ) × IsRunBy Shows None now × AsksOver leads told settings.server settings.timeout
    (λ old new output output'. Checks (socket_text settings.server) settings.host now old new output output' status)
ChecksServer leads told Shows settings (Err fault) = (fault ≡ Process NoRun) ⊎ (fault ≡ Process Memory)

-- what `filter` does by the settings that were read: it runs, or only checks them, and leaves its streams as they are
abbrev pub FiltersBy : {L : Type 0} → (L → SocketAddr → ℕ → Type 0) → (L → Bool → Type 0) → (L → Option (List ReportedExchange)) → (SystemTime → Type 0)
    → Bool → Option ℕ → FilterSettings → Streams → Streams → Result ℕ FilterEnd → Type 0
FiltersBy leads keeps told Shows true given settings before after ended = ChecksServer leads told Shows settings ended × (after ≡ before)
FiltersBy leads keeps told Shows false given settings before after ended = FiltersNumbered leads keeps told Shows given settings before after ended

-- what `filter` does: it reads a file of settings, and ends by what is wrong with it, or does what they and the words say
abbrev pub FiltersFile : {L F : Type 0} → (L → SocketAddr → ℕ → Type 0) → (L → Bool → Type 0) → (L → Option (List ReportedExchange))
    → (F → Option (List ℕ)) → (SystemTime → Type 0) → FilterArguments → Streams → Streams → Result ℕ FilterEnd → Type 0
FiltersFile leads keeps told remaining Shows given before after ended =
    ((fault : ProcessFault) × (ended ≡ Err (Process fault)) × ReadsFilter remaining (Err fault) × (after ≡ before))
    ⊎ ((settings : FilterSettings) × ReadsFilter remaining (Ok settings)
    × FiltersBy leads keeps told Shows given.check given.run settings before after ended)
