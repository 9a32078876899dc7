-- What the lists of the file mean.
use Rattle.std.specs.Prelude.{◌≡◌, ◌≢◌, ⊤, List, [], ◌∷◌, ℕ, Some}
use Rattle.toml.specs.Data.{Data, Items, as_array, as_str, item, no_items}
use Rattle.mq_request.specs.Range.{IsHost}
use Rattle.mq_permits.specs.Hosts.{origins_in}
use Rattle.mq_permits.specs.declared.hosts.Hosts.{Hosts}
use Rattle.mq_permits.specs.declared.permits.Origin.{Origin}
use Rattle.mq_permits_file.specs.Texts.{IsOriginText}

-- an entry is a text, which writes this
pub record IsOrigin (entry : Data) (origin : Origin) : Type 0 where
  pub text : List ℕ
  pub is : as_str entry ≡ Some text
  pub writes : IsOriginText text origin

-- each entry writes the origin at its place
abbrev pub AreOrigins : Items → List Origin → Type 0
AreOrigins no_items [] = ⊤
AreOrigins (item entry entries) (origin ∷ origins) = IsOrigin entry origin × AreOrigins entries origins
AreOrigins no_items (origin ∷ origins) = ⊥
AreOrigins (item entry entries) [] = ⊥

-- the value is a list, whose entries write these
pub record IsListOf (value : Data) (origins : List Origin) : Type 0 where
  pub entries : Items
  pub is : as_array value ≡ Some entries
  pub each : AreOrigins entries origins

-- a host of this name, whose addresses are those of the value
pub record IsHostLine (key : List ℕ) (value : Data) (origins : List Origin) : Type 0 where
  pub in_range : IsHost key
  pub are : IsListOf value origins

-- that host has these addresses from then on, and each other one its own
pub record AddsHost (key : List ℕ) (value : Data) (old new : Hosts) : Type 0 where
  pub line : IsHostLine key value (origins_in new key)
  pub others : (other : List ℕ) → other ≢ key → origins_in new other ≡ origins_in old other
