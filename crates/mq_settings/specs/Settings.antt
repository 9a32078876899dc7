-- What settings mean, read off the table that the text spells.
use Rattle.std.specs.Prelude.{◌≡◌, ◌≢◌, [], ◌∷◌, IsSomeAnd, ℕ, ℤ, pos, negsuc, nat_le, int_le, ◌&&◌, ◌⊎◌, List, codes, bytes_eq, Option}
use Rattle.std.specs.Prelude.{None, Some, Result, Ok, Err, MatchOption, MatchResult, IsOkAnd, String, string_bytes}
use Rattle.std.specs.Prelude.{if◌then◌else◌, Bool, false, ok_or}
use Rattle.std.specs.Borrow.{Bor}
use Rattle.std.specs.Str.{IsUtf8}
use Rattle.std.specs.declared.alloc.Global.{Global}
use Rattle.std.specs.Net.Grammar.{IsSocketText}
use Rattle.std.specs.declared.net.SocketAddr.{SocketAddr}
use Rattle.toml.specs.Data.{Data, Members, get_member, as_bool, as_integer, as_str}
use Rattle.toml.specs.Parse.{parse_document}
use Rattle.log.specs.declared.level.LevelFilter.{LevelFilter}
use Rattle.log.specs.declared.level.LevelFilter.TheVariants as level
use Rattle.mq_request.specs.Range.{IsHost}
use Rattle.mq_ledger.specs.declared.zone.Zone.{Zone}
use Rattle.mq_ledger.specs.Day.{ByOffset, ByRule, IsRule}
use Rattle.mq_settings.specs.Keys.{key_name, filter_keys, server_keys, IsLeastUnknown, HasOnly}
use Rattle.mq_settings.specs.declared.settings.key.Key.{Key}
use Rattle.mq_settings.specs.declared.settings.key.Key.TheVariants.{Host, Server, Tries, Listen, Store, Default, Offset, Rule}
use Rattle.mq_settings.specs.declared.settings.key.Key.TheVariants.{Keep, Timeout, Pause, Hold, KeepConnection, Idle, Log, Permits, Metrics}
use Rattle.mq_settings.specs.declared.settings.value.Place.{Place}
use Rattle.mq_settings.specs.declared.settings.value.Place.TheVariants as place
use Rattle.mq_settings.specs.declared.settings.FilterSettings.{FilterSettings}
use Rattle.mq_settings.specs.declared.settings.ServerSettings.{ServerSettings}
use Rattle.mq_settings.specs.declared.settings.address.AddressFlaw.{AddressFlaw}
use Rattle.mq_settings.specs.declared.settings.flaw.Flaw.{Flaw}
use Rattle.mq_settings.specs.declared.settings.fault.SettingsFault.{SettingsFault}
use Rattle.mq_settings.specs.declared.settings.fault.SettingsFault.TheVariants.{Text, Unknown, Missing, Bad, Address, Memory}

-- the text is UTF-8 and spells this table
pub record Spells (text : List ℕ) (table : Members) : Type 0 where
  pub utf8 : IsUtf8 text
  pub document : parse_document text ≡ Some table

-- why no table of these keys alone is read; that memory ran out may come before any other cause
pub data IsTableRefusal (keys : List Key) (text : List ℕ) : SettingsFault → Type 0 where
  memory : IsTableRefusal keys text Memory
  no_table : (why : Flaw) → ((table : Members) → ¬ Spells text table) → IsTableRefusal keys text (Text why)
  unknown_name : (table : Members) (name : String Global) → Spells text table
      → IsLeastUnknown keys table (string_bytes name) → IsTableRefusal keys text (Unknown name)

-- ---- what the entry of one key gives: a value, or why there is none

-- a text that has to be there
abbrev pub IsText : Key → Option Data → Result (Bor (List ℕ)) SettingsFault → Type 0
IsText key None r = r ≡ Err (Missing key)
IsText key (Some entry) r =
    MatchOption (as_str entry) (r ≡ Err (Bad key)) (λ text. IsOkAnd r (λ found. found.now ≡ text))

-- the text of a key in the table
abbrev pub IsTextAt : Key → Members → Result (Bor (List ℕ)) SettingsFault → Type 0
IsTextAt key table r = IsText key (get_member (key_name key) table) r

-- a text that has to be there and spells a value, or by one of these faults spells none
abbrev pub TextOr : {V : Type 0} → (SettingsFault → Type 0) → Key → (List ℕ → V → Type 0) → Option Data
    → Result V SettingsFault → Type 0
TextOr IsFault key Means None r = r ≡ Err (Missing key)
TextOr {V} IsFault key Means (Some entry) r =
    MatchOption (as_str entry) (r ≡ Err (Bad key)) (λ text. MatchResult r (Means text)
    (λ e. IsFault e × ((v : V) → ¬ Means text v)))

-- the same with one fault: the key is bad
abbrev pub TextAs : {V : Type 0} → Key → (List ℕ → V → Type 0) → Option Data → Result V SettingsFault → Type 0
TextAs key Means entry r = TextOr (λ e. e ≡ Bad key) key Means entry r

-- the name of a host
abbrev pub IsHostAt : Members → Result (List ℕ) SettingsFault → Type 0
IsHostAt table r = TextAs Host (λ text host. (host ≡ text) × IsHost text) (get_member (key_name Host) table) r

-- an address and a port, both numeric; the fault of another text says what it lacks
abbrev pub IsAddressFault : Key → SettingsFault → Type 0
IsAddressFault key e = (flaw : AddressFlaw) × (e ≡ Address key flaw)

-- the address and port of a key in the table
abbrev pub IsAddressAt : Key → Members → Result SocketAddr SettingsFault → Type 0
IsAddressAt key table r = TextOr (IsAddressFault key) key IsSocketText (get_member (key_name key) table) r

-- a number from least to most
abbrev pub count_in : Key → ℕ → ℕ → Option ℤ → Result ℕ SettingsFault
count_in key least most (Some (pos n)) = if nat_le least n && nat_le n most then Ok n else Err (Bad key)
count_in key least most _ = Err (Bad key)

-- a number from least to most, or what stands for none
abbrev pub count_of : Key → ℕ → ℕ → Result ℕ SettingsFault → Option Data → Result ℕ SettingsFault
count_of key least most absent None = absent
count_of key least most absent (Some entry) = count_in key least most (as_integer entry)

-- the number of a key in the table, or what stands for none
abbrev pub count_at : Key → ℕ → ℕ → Result ℕ SettingsFault → Members → Result ℕ SettingsFault
count_at key least most absent table = count_of key least most absent (get_member (key_name key) table)

-- the zone of minutes east of UTC, within a day
abbrev pub zone_by_offset : Option ℤ → Result Zone SettingsFault
zone_by_offset None = Err (Bad Offset)
zone_by_offset (Some minutes) =
    if int_le (negsuc 1438) minutes && int_le minutes (pos 1439) then Ok (ByOffset minutes) else Err (Bad Offset)

-- the zone of a rule: the text is one
abbrev pub IsZoneByRule : Option Data → Result Zone SettingsFault → Type 0
IsZoneByRule rule r = TextAs Rule (λ text zone. (zone ≡ ByRule text) × IsRule text) rule r

-- where a rule stands alongside an offset: the rule is too much, unless the offset is refused before it
abbrev pub beside_a_rule : Result Zone SettingsFault → Result Zone SettingsFault
beside_a_rule (Ok zone) = Err (Bad Rule)
beside_a_rule (Err e) = Err e

-- an offset or a rule, of which one has to be there
abbrev pub IsZoneOf : Option Data → Option Data → Result Zone SettingsFault → Type 0
IsZoneOf None None r = r ≡ Err (Missing Offset)
IsZoneOf (Some offset) None r = r ≡ zone_by_offset (as_integer offset)
IsZoneOf (Some offset) (Some rule) r = r ≡ beside_a_rule (zone_by_offset (as_integer offset))
IsZoneOf None (Some rule) r = IsZoneByRule (Some rule) r

-- the zone of the table's offset or rule
abbrev pub IsZoneAt : Members → Result Zone SettingsFault → Type 0
IsZoneAt table r = IsZoneOf (get_member (key_name Offset) table) (get_member (key_name Rule) table) r

-- how much is logged
abbrev pub level_named : List ℕ → Option LevelFilter
level_named name =
    if bytes_eq name (codes "off") then Some level.Off
    else if bytes_eq name (codes "error") then Some level.Error
    else if bytes_eq name (codes "warn") then Some level.Warn
    else if bytes_eq name (codes "info") then Some level.Info
    else None

-- the level, or that the key is bad where no level has the name
abbrev pub level_or_bad : Option LevelFilter → Result LevelFilter SettingsFault
level_or_bad None = Err (Bad Log)
level_or_bad (Some found) = Ok found

-- the level that an entry names, which has to be a text
abbrev pub level_in : Option (List ℕ) → Result LevelFilter SettingsFault
level_in None = Err (Bad Log)
level_in (Some name) = level_or_bad (level_named name)

-- warnings where the key is absent
abbrev pub level_of : Option Data → Result LevelFilter SettingsFault
level_of None = Ok level.Warn
level_of (Some entry) = level_in (as_str entry)

-- the level of the table
abbrev pub level_at : Members → Result LevelFilter SettingsFault
level_at table = level_of (get_member (key_name Log) table)

-- milliseconds, up to a minute, or two seconds where the key is absent
abbrev pub timeout_at : Members → Result ℕ SettingsFault
timeout_at table = count_at Timeout 1 60000 (Ok 2000) table

-- how often a request is sent, up to 10 times, or 3 times where the key is absent
abbrev pub tries_at : Members → Result ℕ SettingsFault
tries_at table = count_at Tries 1 10 (Ok 3) table

-- seconds without a request after one that got no answer in time, up to an hour, or none where the key is absent
abbrev pub pause_at : Members → Result ℕ SettingsFault
pause_at table = count_at Pause 0 3600 (Ok 0) table

-- seconds in which a login isn't asked for after its limit was reached, up to a minute, or none where the key is absent
abbrev pub hold_at : Members → Result ℕ SettingsFault
hold_at table = count_at Hold 0 60 (Ok 0) table

-- whether the connection of a request is kept for the next one: not, where the entry is absent
abbrev pub keep_connection_of : Option Data → Result Bool SettingsFault
keep_connection_of None = Ok false
keep_connection_of (Some entry) = ok_or (as_bool entry) (Bad KeepConnection)

-- the same, of the table
abbrev pub keep_connection_at : Members → Result Bool SettingsFault
keep_connection_at table = keep_connection_of (get_member (key_name KeepConnection) table)

-- seconds in which a connection may stay without a request after one, up to an hour, or a minute where the key is absent
abbrev pub idle_at : Members → Result ℕ SettingsFault
idle_at table = count_at Idle 1 3600 (Ok 60) table

-- a value that was read, as one that may be there
abbrev pub present : Result ℕ SettingsFault → Result (Option ℕ) SettingsFault
present (Ok n) = Ok (Some n)
present (Err e) = Err e

-- days before today that are kept, up to a year of them, or all where the entry is absent
abbrev pub keep_of : Option Data → Result (Option ℕ) SettingsFault
keep_of None = Ok None
keep_of (Some entry) = present (count_in Keep 1 366 (as_integer entry))

-- the days that are kept of the table
abbrev pub keep_at : Members → Result (Option ℕ) SettingsFault
keep_at table = keep_of (get_member (key_name Keep) table)

-- the limit of a login that has none of its own
abbrev pub default_at : Members → Result ℕ SettingsFault
default_at table = count_at Default 0 1000000 (Err (Missing Default)) table

-- where the ledger is kept: `memory`, or any other text that isn't empty, which is a path
abbrev pub NamesPlace : List ℕ → Place → Type 0
NamesPlace text place.Memory = text ≡ codes "memory"
NamesPlace text (place.File path) = (string_bytes path ≡ text) × (text ≢ codes "memory") × (text ≢ [])

-- where the ledger of the table is kept
abbrev pub IsPlaceAt : Members → Result Place SettingsFault → Type 0
IsPlaceAt table r = TextAs Store NamesPlace (get_member (key_name Store) table) r

-- a text that isn't empty is a path
abbrev pub NamesPath : Key → List ℕ → Result (Option (String Global)) SettingsFault → Type 0
NamesPath key [] r = r ≡ Err (Bad key)
NamesPath key (byte ∷ bytes) r = IsOkAnd r (λ found. IsSomeAnd found (λ path. string_bytes path ≡ byte ∷ bytes))

-- the path that an entry names, which may not be there
abbrev pub IsPathOf : Key → Option Data → Result (Option (String Global)) SettingsFault → Type 0
IsPathOf key None r = r ≡ Ok None
IsPathOf key (Some entry) r = MatchOption (as_str entry) (r ≡ Err (Bad key)) (λ text. NamesPath key text r)

-- the path of a key in the table: `Permits` is the file that lists who may ask what, `Metrics` the one to which figures are
-- written
abbrev pub IsPathAt : Key → Members → Result (Option (String Global)) SettingsFault → Type 0
IsPathAt key table r = IsPathOf key (get_member (key_name key) table) r

-- ---- the settings of a file

-- one check fails, or passes and a later one fails
abbrev pub FailsOr : {V : Type 0} → (Result V SettingsFault → Type 0) → (SettingsFault → Type 0) → SettingsFault
    → Type 0
FailsOr {V} Reads Later e = Reads (Err e) ⊎ ((v : V) × Reads (Ok v) × Later e)

-- the filter's settings are those of the table
pub record IsFilterSettings (table : Members) (settings : FilterSettings) : Type 0 where
  pub names : HasOnly filter_keys table
  pub host : IsHostAt table (Ok settings.host)
  pub server : IsAddressAt Server table (Ok settings.server)
  pub tries : tries_at table ≡ Ok settings.tries
  pub timeout : timeout_at table ≡ Ok settings.timeout
  pub pause : pause_at table ≡ Ok settings.pause
  pub hold : hold_at table ≡ Ok settings.hold
  pub keep_connection : keep_connection_at table ≡ Ok settings.keep_connection
  pub log : level_at table ≡ Ok settings.log
  pub metrics : IsPathAt Metrics table (Ok settings.metrics)

-- the first of the filter's keys that gives no value
abbrev pub IsFilterFault : Members → SettingsFault → Type 0
IsFilterFault table e =
    FailsOr (IsHostAt table) (FailsOr (IsAddressAt Server table)
    (FailsOr (λ r. tries_at table ≡ r) (FailsOr (λ r. timeout_at table ≡ r) (FailsOr (λ r. pause_at table ≡ r)
    (FailsOr (λ r. hold_at table ≡ r) (FailsOr (λ r. keep_connection_at table ≡ r)
    (FailsOr (λ r. level_at table ≡ r) (λ f. IsPathAt Metrics table (Err f))))))))) e

-- why the filter's settings are refused
abbrev pub IsFilterRefusal : List ℕ → SettingsFault → Type 0
IsFilterRefusal text e =
    IsTableRefusal filter_keys text e ⊎ ((table : Members) × Spells text table × HasOnly filter_keys table
    × IsFilterFault table e)

-- the server's settings are those of the table
pub record IsServerSettings (table : Members) (settings : ServerSettings) : Type 0 where
  pub names : HasOnly server_keys table
  pub listen : IsAddressAt Listen table (Ok settings.listen)
  pub store : IsPlaceAt table (Ok settings.store)
  pub default : default_at table ≡ Ok settings.default
  pub zone : IsZoneAt table (Ok settings.zone)
  pub keep : keep_at table ≡ Ok settings.keep
  pub timeout : timeout_at table ≡ Ok settings.timeout
  pub idle : idle_at table ≡ Ok settings.idle
  pub log : level_at table ≡ Ok settings.log
  pub permits : IsPathAt Permits table (Ok settings.permits)
  pub metrics : IsPathAt Metrics table (Ok settings.metrics)

-- the first of the server's keys that gives no value
abbrev pub IsServerFault : Members → SettingsFault → Type 0
IsServerFault table e =
    FailsOr (IsAddressAt Listen table) (FailsOr (IsPlaceAt table)
    (FailsOr (λ r. default_at table ≡ r) (FailsOr (IsZoneAt table) (FailsOr (λ r. keep_at table ≡ r)
    (FailsOr (λ r. timeout_at table ≡ r) (FailsOr (λ r. idle_at table ≡ r)
    (FailsOr (λ r. level_at table ≡ r) (FailsOr (IsPathAt Permits table) (λ f. IsPathAt Metrics table (Err f)))))))))) e

-- why the server's settings are refused
abbrev pub IsServerRefusal : List ℕ → SettingsFault → Type 0
IsServerRefusal text e =
    IsTableRefusal server_keys text e ⊎ ((table : Members) × Spells text table × HasOnly server_keys table
    × IsServerFault table e)
