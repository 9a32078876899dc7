-- Which servers a text lists.
use Rattle.std.specs.Prelude.{◌≡◌, ◌≢◌, ◌++◌, ◌∷◌, [], ℕ, List, Some, codes, length}
use Rattle.std.specs.List.{All}
use Rattle.std.specs.Net.Grammar.{IsSocketText}
use Rattle.std.specs.declared.net.SocketAddr.{SocketAddr}
use Rattle.toml.specs.Data.{Data, Items, as_array, as_str, item, no_items, member, no_members}
use Rattle.mq_request.specs.Range.{IsWithin}
use Rattle.mq_settings.specs.Settings.{Spells}

-- an entry is a text that spells this numeric address and port
pub record IsServer (entry : Data) (server : SocketAddr) : Type 0 where
  pub text : List ℕ
  pub is : as_str entry ≡ Some text
  pub spells : IsSocketText text server

-- each entry is an address that is none of those before it, which makes all of them
abbrev pub AreNew : Items → List SocketAddr → List SocketAddr → Type 0
AreNew no_items before servers = servers ≡ before
AreNew (item entry entries) before servers =
    (server : SocketAddr) × IsServer entry server × All (λ other. other ≢ server) before
    × AreNew entries (before ++ server ∷ []) servers

-- the value is a list of these servers: 1 to 16, none twice
pub record IsServerList (value : Data) (servers : List SocketAddr) : Type 0 where
  pub entries : Items
  pub is : as_array value ≡ Some entries
  pub new : AreNew entries [] servers
  pub count : IsWithin 1 16 (length servers)

-- the text spells a table of the one entry `servers`, a list of these
abbrev pub ListsServers : List ℕ → List SocketAddr → Type 0
ListsServers text servers =
    (value : Data) × Spells text (member (codes "servers") value no_members) × IsServerList value servers
