-- Why settings are refused, from the first reading that fails.
use Rattle.std.proofs.Common.{◌≡◌, ◌≢◌, ℕ, Bool, List, Option, Result, Ok, Err, sym, subst, ◌⊎◌, inl, inr, refl}
use Rattle.std.specs.Prelude.{IfErr, String}
use Rattle.std.specs.Result.{IsErrAnd}
use Rattle.std.specs.declared.alloc.Global.{Global}
use Rattle.std.specs.declared.net.SocketAddr.{SocketAddr}
use Rattle.toml.specs.Data.{Members}
use Rattle.log.specs.declared.level.LevelFilter.{LevelFilter}
use Rattle.mq_ledger.specs.declared.zone.Zone.{Zone}
use Rattle.mq_settings.specs.Keys.{filter_keys, server_keys, HasOnly}
use Rattle.mq_settings.specs.Settings.{Spells, IsTableRefusal, memory, IsHostAt, IsAddressAt, tries_at, timeout_at, pause_at, hold_at, keep_connection_at, idle_at, default_at, IsZoneAt, keep_at, IsPlaceAt, IsPathAt, level_at, IsFilterRefusal, IsServerRefusal}
use Rattle.mq_settings.specs.declared.settings.key.Key.{Key}
use Rattle.mq_settings.specs.declared.settings.key.Key.TheVariants.{Server, Listen, Permits, Metrics}
use Rattle.mq_settings.specs.declared.settings.value.Place.{Place}
use Rattle.mq_settings.specs.declared.settings.fault.SettingsFault.{SettingsFault}
use Rattle.mq_settings.specs.declared.settings.fault.SettingsFault.TheVariants.{Text, Unknown, Missing, Bad, Address, Memory}

-- what holds of the one error of a result
pub of_error : {T : Type 0} (P : SettingsFault → Type 0) (r : Result T SettingsFault) (e : SettingsFault) → IsErrAnd r (λ f. f ≡ e) → P e → IfErr r P
of_error P (Ok x) e h p = tt
of_error P (Err f) e h p = subst P (sym h) p

-- a host is refused for its text, or since memory ran out
pub host_fault : (table : Members) (e : SettingsFault) → (e ≢ Memory → IsHostAt table (Err e)) → (e ≡ Memory) ⊎ IsHostAt table (Err e)
host_fault table (Text why) h = inr (h (λ q. cc))
host_fault table (Unknown name) h = inr (h (λ q. cc))
host_fault table (Missing key) h = inr (h (λ q. cc))
host_fault table (Bad key) h = inr (h (λ q. cc))
host_fault table (Address key flaw) h = inr (h (λ q. cc))
host_fault table Memory h = inl refl

-- a path is refused for its text, or since memory ran out
pub path_fault : (key : Key) (table : Members) (e : SettingsFault) → (e ≢ Memory → IsPathAt key table (Err e)) → (e ≡ Memory) ⊎ IsPathAt key table (Err e)
path_fault key table (Text why) h = inr (h (λ q. cc))
path_fault key table (Unknown name) h = inr (h (λ q. cc))
path_fault key table (Missing other) h = inr (h (λ q. cc))
path_fault key table (Bad other) h = inr (h (λ q. cc))
path_fault key table (Address other flaw) h = inr (h (λ q. cc))
path_fault key table Memory h = inl refl

-- ---- the filter

pub filter_at_host : (text : List ℕ) (table : Members) (e : SettingsFault) → Spells text table → HasOnly filter_keys table → (e ≢ Memory → IsHostAt table (Err e)) → IsFilterRefusal text e
filter_at_host text table e spells names h =
    elim (host_fault table e h) [
      | inl out ↦ inl (subst (IsTableRefusal filter_keys text) (sym out) memory)
      | inr bad ↦ inr (table, spells, names, inl bad)
    ]

pub filter_at_tries : (text : List ℕ) (table : Members) (host : List ℕ) (server : SocketAddr) (e : SettingsFault) → Spells text table → HasOnly filter_keys table
    → IsHostAt table (Ok host) → IsAddressAt Server table (Ok server) → tries_at table ≡ Err e → IsFilterRefusal text e
filter_at_tries text table host server e spells names h s bad = inr (table, spells, names, inr (host, h, inr (server, s, inl bad)))

pub filter_at_timeout : (text : List ℕ) (table : Members) (host : List ℕ) (server : SocketAddr) (tries : ℕ) (e : SettingsFault) → Spells text table → HasOnly filter_keys table
    → IsHostAt table (Ok host) → IsAddressAt Server table (Ok server) → tries_at table ≡ Ok tries → timeout_at table ≡ Err e → IsFilterRefusal text e
filter_at_timeout text table host server tries e spells names h s t bad = inr (table, spells, names, inr (host, h, inr (server, s, inr (tries, t, inl bad))))

pub filter_at_pause : (text : List ℕ) (table : Members) (host : List ℕ) (server : SocketAddr) (tries timeout : ℕ) (e : SettingsFault) → Spells text table → HasOnly filter_keys table
    → IsHostAt table (Ok host) → IsAddressAt Server table (Ok server) → tries_at table ≡ Ok tries → timeout_at table ≡ Ok timeout → pause_at table ≡ Err e → IsFilterRefusal text e
filter_at_pause text table host server tries timeout e spells names h s t m bad = inr (table, spells, names, inr (host, h, inr (server, s, inr (tries, t, inr (timeout, m, inl bad)))))

pub filter_at_hold : (text : List ℕ) (table : Members) (host : List ℕ) (server : SocketAddr) (tries timeout pause : ℕ) (e : SettingsFault) → Spells text table → HasOnly filter_keys table
    → IsHostAt table (Ok host) → IsAddressAt Server table (Ok server) → tries_at table ≡ Ok tries → timeout_at table ≡ Ok timeout → pause_at table ≡ Ok pause → hold_at table ≡ Err e → IsFilterRefusal text e
filter_at_hold text table host server tries timeout pause e spells names h s t m p bad = inr (table, spells, names, inr (host, h, inr (server, s, inr (tries, t, inr (timeout, m, inr (pause, p, inl bad))))))

pub filter_at_keep_connection : (text : List ℕ) (table : Members) (host : List ℕ) (server : SocketAddr) (tries timeout pause hold : ℕ) (e : SettingsFault) → Spells text table → HasOnly filter_keys table
    → IsHostAt table (Ok host) → IsAddressAt Server table (Ok server) → tries_at table ≡ Ok tries → timeout_at table ≡ Ok timeout → pause_at table ≡ Ok pause → hold_at table ≡ Ok hold → keep_connection_at table ≡ Err e → IsFilterRefusal text e
filter_at_keep_connection text table host server tries timeout pause hold e spells names h s t m p k bad = inr (table, spells, names, inr (host, h, inr (server, s, inr (tries, t, inr (timeout, m, inr (pause, p, inr (hold, k, inl bad)))))))

pub filter_at_log : (text : List ℕ) (table : Members) (host : List ℕ) (server : SocketAddr) (tries timeout pause hold : ℕ) (keep_connection : Bool) (e : SettingsFault) → Spells text table → HasOnly filter_keys table
    → IsHostAt table (Ok host) → IsAddressAt Server table (Ok server) → tries_at table ≡ Ok tries → timeout_at table ≡ Ok timeout → pause_at table ≡ Ok pause → hold_at table ≡ Ok hold → keep_connection_at table ≡ Ok keep_connection → level_at table ≡ Err e → IsFilterRefusal text e
filter_at_log text table host server tries timeout pause hold keep_connection e spells names h s t m p k c bad = inr (table, spells, names, inr (host, h, inr (server, s, inr (tries, t, inr (timeout, m, inr (pause, p, inr (hold, k, inr (keep_connection, c, inl bad))))))))

pub filter_at_metrics : (text : List ℕ) (table : Members) (host : List ℕ) (server : SocketAddr) (tries timeout pause hold : ℕ) (keep_connection : Bool) (level : LevelFilter) (e : SettingsFault) → Spells text table → HasOnly filter_keys table
    → IsHostAt table (Ok host) → IsAddressAt Server table (Ok server) → tries_at table ≡ Ok tries → timeout_at table ≡ Ok timeout → pause_at table ≡ Ok pause → hold_at table ≡ Ok hold → keep_connection_at table ≡ Ok keep_connection → level_at table ≡ Ok level
    → (e ≢ Memory → IsPathAt Metrics table (Err e)) → IsFilterRefusal text e
filter_at_metrics text table host server tries timeout pause hold keep_connection level e spells names h s t m p k c v path =
    elim (path_fault Metrics table e path) [
      | inl out ↦ inl (subst (IsTableRefusal filter_keys text) (sym out) memory)
      | inr bad ↦ inr (table, spells, names, inr (host, h, inr (server, s, inr (tries, t, inr (timeout, m, inr (pause, p, inr (hold, k, inr (keep_connection, c, inr (level, v, bad)))))))))
    ]

-- a place is refused for its text, or since memory ran out
pub place_fault : (table : Members) (e : SettingsFault) → (e ≢ Memory → IsPlaceAt table (Err e)) → (e ≡ Memory) ⊎ IsPlaceAt table (Err e)
place_fault table (Text why) h = inr (h (λ q. cc))
place_fault table (Unknown name) h = inr (h (λ q. cc))
place_fault table (Missing key) h = inr (h (λ q. cc))
place_fault table (Bad key) h = inr (h (λ q. cc))
place_fault table (Address key flaw) h = inr (h (λ q. cc))
place_fault table Memory h = inl refl

-- ---- the server

pub server_at_store : (text : List ℕ) (table : Members) (listen : SocketAddr) (e : SettingsFault) → Spells text table → HasOnly server_keys table
    → IsAddressAt Listen table (Ok listen) → (e ≢ Memory → IsPlaceAt table (Err e)) → IsServerRefusal text e
server_at_store text table listen e spells names l h =
    elim (place_fault table e h) [
      | inl out ↦ inl (subst (IsTableRefusal server_keys text) (sym out) memory)
      | inr bad ↦ inr (table, spells, names, inr (listen, l, inl bad))
    ]

pub server_at_default : (text : List ℕ) (table : Members) (listen : SocketAddr) (store : Place) (e : SettingsFault) → Spells text table → HasOnly server_keys table
    → IsAddressAt Listen table (Ok listen) → IsPlaceAt table (Ok store) → default_at table ≡ Err e → IsServerRefusal text e
server_at_default text table listen store e spells names l s bad = inr (table, spells, names, inr (listen, l, inr (store, s, inl bad)))

pub server_at_zone : (text : List ℕ) (table : Members) (listen : SocketAddr) (store : Place) (default : ℕ) (e : SettingsFault) → Spells text table → HasOnly server_keys table
    → IsAddressAt Listen table (Ok listen) → IsPlaceAt table (Ok store) → default_at table ≡ Ok default → IsZoneAt table (Err e) → IsServerRefusal text e
server_at_zone text table listen store default e spells names l s d bad = inr (table, spells, names, inr (listen, l, inr (store, s, inr (default, d, inl bad))))

pub server_at_keep : (text : List ℕ) (table : Members) (listen : SocketAddr) (store : Place) (default : ℕ) (zone : Zone) (e : SettingsFault) → Spells text table → HasOnly server_keys table
    → IsAddressAt Listen table (Ok listen) → IsPlaceAt table (Ok store) → default_at table ≡ Ok default → IsZoneAt table (Ok zone) → keep_at table ≡ Err e → IsServerRefusal text e
server_at_keep text table listen store default zone e spells names l s d z bad = inr (table, spells, names, inr (listen, l, inr (store, s, inr (default, d, inr (zone, z, inl bad)))))

pub server_at_timeout : (text : List ℕ) (table : Members) (listen : SocketAddr) (store : Place) (default : ℕ) (zone : Zone) (keep : Option ℕ) (e : SettingsFault) → Spells text table → HasOnly server_keys table
    → IsAddressAt Listen table (Ok listen) → IsPlaceAt table (Ok store) → default_at table ≡ Ok default → IsZoneAt table (Ok zone) → keep_at table ≡ Ok keep → timeout_at table ≡ Err e → IsServerRefusal text e
server_at_timeout text table listen store default zone keep e spells names l s d z k bad = inr (table, spells, names, inr (listen, l, inr (store, s, inr (default, d, inr (zone, z, inr (keep, k, inl bad))))))

pub server_at_idle : (text : List ℕ) (table : Members) (listen : SocketAddr) (store : Place) (default : ℕ) (zone : Zone) (keep : Option ℕ) (timeout : ℕ) (e : SettingsFault) → Spells text table → HasOnly server_keys table
    → IsAddressAt Listen table (Ok listen) → IsPlaceAt table (Ok store) → default_at table ≡ Ok default → IsZoneAt table (Ok zone) → keep_at table ≡ Ok keep → timeout_at table ≡ Ok timeout → idle_at table ≡ Err e
    → IsServerRefusal text e
server_at_idle text table listen store default zone keep timeout e spells names l s d z k m bad = inr (table, spells, names, inr (listen, l, inr (store, s, inr (default, d, inr (zone, z, inr (keep, k, inr (timeout, m, inl bad)))))))

pub server_at_log : (text : List ℕ) (table : Members) (listen : SocketAddr) (store : Place) (default : ℕ) (zone : Zone) (keep : Option ℕ) (timeout idle : ℕ) (e : SettingsFault) → Spells text table → HasOnly server_keys table
    → IsAddressAt Listen table (Ok listen) → IsPlaceAt table (Ok store) → default_at table ≡ Ok default → IsZoneAt table (Ok zone) → keep_at table ≡ Ok keep → timeout_at table ≡ Ok timeout → idle_at table ≡ Ok idle → level_at table ≡ Err e
    → IsServerRefusal text e
server_at_log text table listen store default zone keep timeout idle e spells names l s d z k m i bad = inr (table, spells, names, inr (listen, l, inr (store, s, inr (default, d, inr (zone, z, inr (keep, k, inr (timeout, m, inr (idle, i, inl bad))))))))

pub server_at_permits : (text : List ℕ) (table : Members) (listen : SocketAddr) (store : Place) (default : ℕ) (zone : Zone) (keep : Option ℕ) (timeout idle : ℕ) (level : LevelFilter) (e : SettingsFault) → Spells text table → HasOnly server_keys table
    → IsAddressAt Listen table (Ok listen) → IsPlaceAt table (Ok store) → default_at table ≡ Ok default → IsZoneAt table (Ok zone) → keep_at table ≡ Ok keep → timeout_at table ≡ Ok timeout → idle_at table ≡ Ok idle → level_at table ≡ Ok level
    → (e ≢ Memory → IsPathAt Permits table (Err e)) → IsServerRefusal text e
server_at_permits text table listen store default zone keep timeout idle level e spells names l s d z k m i v h =
    elim (path_fault Permits table e h) [
      | inl out ↦ inl (subst (IsTableRefusal server_keys text) (sym out) memory)
      | inr bad ↦ inr (table, spells, names, inr (listen, l, inr (store, s, inr (default, d, inr (zone, z, inr (keep, k, inr (timeout, m, inr (idle, i, inr (level, v, inl bad)))))))))
    ]

pub server_at_metrics : (text : List ℕ) (table : Members) (listen : SocketAddr) (store : Place) (default : ℕ) (zone : Zone) (keep : Option ℕ) (timeout idle : ℕ) (level : LevelFilter) (permits : Option (String Global)) (e : SettingsFault) → Spells text table → HasOnly server_keys table
    → IsAddressAt Listen table (Ok listen) → IsPlaceAt table (Ok store) → default_at table ≡ Ok default → IsZoneAt table (Ok zone) → keep_at table ≡ Ok keep → timeout_at table ≡ Ok timeout → idle_at table ≡ Ok idle → level_at table ≡ Ok level → IsPathAt Permits table (Ok permits)
    → (e ≢ Memory → IsPathAt Metrics table (Err e)) → IsServerRefusal text e
server_at_metrics text table listen store default zone keep timeout idle level permits e spells names l s d z k m i v p h =
    elim (path_fault Metrics table e h) [
      | inl out ↦ inl (subst (IsTableRefusal server_keys text) (sym out) memory)
      | inr bad ↦ inr (table, spells, names, inr (listen, l, inr (store, s, inr (default, d, inr (zone, z, inr (keep, k, inr (timeout, m, inr (idle, i, inr (level, v, inr (permits, p, bad))))))))))
    ]
