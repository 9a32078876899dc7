-- What the text of an entry writes.
use Rattle.std.specs.Prelude.{◌≡◌, ◌⊎◌, ◌<◌, ◌≤◌, ℕ, List, length, codes, ◌==◌}
use Rattle.std.specs.List.{after_first, before_first, position_or_len}
use Rattle.std.specs.Net.Grammar.{IsIpText, IsNumber}
use Rattle.std.specs.declared.net.ip_addr.IpAddr.{IpAddr}
use Rattle.mq_permits.specs.Networks.{numbered, width}
use Rattle.mq_permits.specs.declared.network.AddressNumber.{AddressNumber}
use Rattle.mq_permits.specs.declared.network.Network.{Network}
use Rattle.mq_permits.specs.declared.permits.Origin.{Origin}
use Rattle.mq_permits.specs.declared.permits.Origin.TheVariants as origin

-- the network of one address alone
abbrev pub whole : AddressNumber → Network
whole a = record { start = a; prefix = width a.family }

-- digits that write the length of a prefix
abbrev pub IsPrefixText : List ℕ → ℕ → Type 0
IsPrefixText text n = IsNumber 10 text n

-- an address alone
pub record IsAlone (text : List ℕ) (network : Network) : Type 0 where
  pub address : IpAddr
  pub written : IsIpText text address
  pub is : network ≡ whole (numbered address)

-- an address, a slash and the length of a prefix, which is at most the address's own
pub record IsPrefixed (text : List ℕ) (network : Network) : Type 0 where
  pub slash : position_or_len (λ byte. byte == 47) text < length text
  pub address : IpAddr
  pub written : IsIpText (before_first (λ byte. byte == 47) text) address
  pub start : network.start ≡ numbered address
  pub prefix : IsPrefixText (after_first (λ byte. byte == 47) text) network.prefix
  pub fits : network.prefix ≤ width network.start.family

abbrev pub IsNetworkText : List ℕ → Network → Type 0
IsNetworkText text network = IsAlone text network ⊎ IsPrefixed text network

-- an address, a network, or the word for this machine itself
abbrev pub IsOriginText : List ℕ → Origin → Type 0
IsOriginText text (origin.Network network) = IsNetworkText text network
IsOriginText text origin.ThisMachine = text ≡ codes "local"
