-- What the settings of a server and of a filter are where a file of them is taken.
use Rattle.std.specs.Prelude.{◌≡◌, ◌⊎◌, ℕ, List, Option, Result, Ok, Err}
use Rattle.mq_request.specs.Range.{IsHost, IsAmount, IsWithin}
use Rattle.mq_settings.specs.Files.{IsText}
use Rattle.mq_settings.specs.Settings.{Spells, IsFilterRefusal, IsFilterSettings, IsServerSettings, IsServerRefusal}
use Rattle.mq_settings.specs.declared.file.FileFault.{FileFault}
use Rattle.mq_settings.specs.declared.settings.FilterSettings.{FilterSettings}
use Rattle.mq_settings.specs.declared.settings.ServerSettings.{ServerSettings}
use Rattle.mq_settings.specs.declared.settings.fault.SettingsFault.{SettingsFault}
use Rattle.mq_process.specs.declared.fault.ProcessFault.{ProcessFault}
use Rattle.mq_process.specs.declared.fault.ProcessFault.TheVariants.{File, Settings, Servers}
use Rattle.mq_servers.specs.Lists.{ListsServers}
use Rattle.mq_servers.specs.declared.fault.ServersFault.{ServersFault}
use Rattle.std.specs.declared.net.SocketAddr.{SocketAddr}

-- a limit of 0 to 1,000,000, from a file of settings
pub record AreInRange (settings : ServerSettings) : Type 0 where
  pub default : IsAmount settings.default

-- a host's name and 1 to 10 tries, from a file of settings
pub record CanAsk (settings : FilterSettings) : Type 0 where
  pub host : IsHost settings.host
  pub tries : IsWithin 1 10 settings.tries

-- a text spells these settings of a filter
abbrev pub SpellsFilter : List ℕ → FilterSettings → Type 0
SpellsFilter text settings = (table : _) × Spells text table × IsFilterSettings table settings

-- why a text spells no settings of a filter
abbrev pub RefusesFilter : List ℕ → ProcessFault → Type 0
RefusesFilter text fault = (cause : SettingsFault) × (fault ≡ Settings cause) × IsFilterRefusal text cause

-- a text spells these settings of a server
abbrev pub SpellsServer : List ℕ → ServerSettings → Type 0
SpellsServer text settings = (table : _) × Spells text table × IsServerSettings table settings

-- why a text spells no settings of a server
abbrev pub RefusesServer : List ℕ → ProcessFault → Type 0
RefusesServer text fault = (cause : SettingsFault) × (fault ≡ Settings cause) × IsServerRefusal text cause

-- this holds of all that some file gives
abbrev pub OfAFile : {F : Type 0} → (F → Option (List ℕ)) → (List ℕ → Type 0) → Type 0
OfAFile {F} remaining Holds = (file : F) × (text : List ℕ) × IsText (remaining file) text × Holds text

-- a file couldn't be read, or has too many bytes
abbrev pub IsFileFault : ProcessFault → Type 0
IsFileFault fault = (cause : FileFault) × (fault ≡ File cause)

-- a file was read: the settings of a filter that all of it spells, or why it spells none
abbrev pub ReadsFilter : {F : Type 0} → (F → Option (List ℕ)) → Result FilterSettings ProcessFault → Type 0
ReadsFilter remaining (Ok settings) = OfAFile remaining (λ text. SpellsFilter text settings)
ReadsFilter remaining (Err fault) = IsFileFault fault ⊎ OfAFile remaining (λ text. RefusesFilter text fault)

-- a file was read: the settings of a server that all of it spells, or why it spells none
abbrev pub ReadsServer : {F : Type 0} → (F → Option (List ℕ)) → Result ServerSettings ProcessFault → Type 0
ReadsServer remaining (Ok settings) = OfAFile remaining (λ text. SpellsServer text settings)
ReadsServer remaining (Err fault) = IsFileFault fault ⊎ OfAFile remaining (λ text. RefusesServer text fault)

-- a text lists no servers
abbrev pub IsServersFault : ProcessFault → Type 0
IsServersFault fault = (cause : ServersFault) × (fault ≡ Servers cause)

-- a file was read: the servers that all of it lists, or why it lists none
abbrev pub ReadsServers : {F : Type 0} → (F → Option (List ℕ)) → Result (List SocketAddr) ProcessFault → Type 0
ReadsServers remaining (Ok servers) = OfAFile remaining (λ text. ListsServers text servers)
ReadsServers remaining (Err fault) = IsFileFault fault ⊎ IsServersFault fault
