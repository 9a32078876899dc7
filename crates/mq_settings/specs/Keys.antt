-- The keys of settings, and which of them a table may have.
use Rattle.std.specs.Prelude.{◌≡◌, ℕ, Bool, true, false, List, [], ◌∷◌, codes, bytes_eq, is_some}
use Rattle.std.specs.List.{list_any}
use Rattle.std.specs.Ordering.{nat_cmp, is_le}
use Rattle.std.specs.Cmp.Lexicographic.{slice_cmp}
use Rattle.toml.specs.Data.{Members, get_member}
use Rattle.mq_settings.specs.declared.settings.key.Key.{Key}
use Rattle.mq_settings.specs.declared.settings.key.Key.TheVariants.{Host, Server, Tries, Listen, Store, Default, Offset, Rule}
use Rattle.mq_settings.specs.declared.settings.key.Key.TheVariants.{Keep, Timeout, Pause, Hold, KeepConnection, Idle, Log, Permits, Metrics}

-- a key as it is written
abbrev pub key_name : Key → List ℕ
key_name Host = codes "host"
key_name Server = codes "server"
key_name Tries = codes "tries"
key_name Listen = codes "listen"
key_name Store = codes "store"
key_name Default = codes "default"
key_name Offset = codes "offset"
key_name Rule = codes "rule"
key_name Keep = codes "keep"
key_name Timeout = codes "timeout"
key_name Pause = codes "pause"
key_name Hold = codes "hold"
key_name KeepConnection = codes "keep_connection"
key_name Idle = codes "idle"
key_name Log = codes "log"
key_name Permits = codes "permits"
key_name Metrics = codes "metrics"

-- the keys of the filter's settings, in the order in which they are checked
abbrev pub filter_keys : List Key
filter_keys = Host ∷ Server ∷ Tries ∷ Timeout ∷ Pause ∷ Hold ∷ KeepConnection ∷ Log ∷ Metrics ∷ []

-- the keys of the server's settings, in the order in which they are checked
abbrev pub server_keys : List Key
server_keys =
    Listen ∷ Store ∷ Default ∷ Offset ∷ Rule ∷ Keep ∷ Timeout ∷ Idle ∷ Log ∷ Permits ∷ Metrics ∷ []

-- whether a name is one of these keys
abbrev pub is_known : List Key → List ℕ → Bool
is_known keys name = list_any (λ key. bytes_eq (key_name key) name) keys

-- the table has an entry of this name that is none of the keys
pub record IsUnknown (keys : List Key) (table : Members) (name : List ℕ) : Type 0 where
  pub present : is_some (get_member name table) ≡ true
  pub unknown : is_known keys name ≡ false

-- and it is the least of these names, byte for byte
pub record IsLeastUnknown (keys : List Key) (table : Members) (name : List ℕ) : Type 0 where
  pub itself : IsUnknown keys table name
  pub least : (other : List ℕ) → IsUnknown keys table other → is_le (slice_cmp nat_cmp name other) ≡ true

-- the table has no other entries than those of the keys
abbrev pub HasOnly : List Key → Members → Type 0
HasOnly keys table = (name : List ℕ) → is_some (get_member name table) ≡ true → is_known keys name ≡ true
