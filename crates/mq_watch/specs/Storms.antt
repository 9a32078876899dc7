-- What is noted of hosts, logins and addresses in an hour: from where a host asks, how often a login is refused, and from
-- where something was asked that isn't allowed.
use Rattle.std.specs.Prelude.{◌≡◌, ◌≢◌, ◌⊎◌, ◌↔◌, ℕ, ◌+◌, Bool, true, false, IsTrue, List, Option, None, Some, unwrap_or}
use Rattle.std.specs.Net.Addr.{ipv4_octets, ipv6_octets}
use Rattle.std.specs.declared.net.ip_addr.IpAddr.{IpAddr}
use Rattle.std.specs.declared.net.ip_addr.IpAddr.TheVariants.{V4, V6}
use Rattle.mq_watch.specs.declared.askers.Asker.{Asker}
use Rattle.mq_watch.specs.declared.askers.Asker.TheVariants.{One, Several}

-- A host asks from an address: from which other one it asked before in this hour, where that is to be logged, and what is
-- noted of it then. Where it asks from another one for the first time, it is logged, or there was no memory to note it.
abbrev pub Asks : Option Asker → IpAddr → Option IpAddr → Option Asker → Type 0
Asks None address other now = (other ≡ None) × ((now ≡ Some (One address)) ⊎ (now ≡ None))
Asks (Some (One first)) address other now =
    ((first ≡ address) × (other ≡ None) × (now ≡ Some (One first)))
    ⊎ ((first ≢ address) × (((other ≡ Some first) × (now ≡ Some Several)) ⊎ ((other ≡ None) × (now ≡ Some (One first)))))
Asks (Some Several) address other now = (other ≡ None) × (now ≡ Some Several)

-- A login is refused: it is counted, and is to be logged where it was refused 1,000 times before in this hour; or it was logged,
-- or finds no memory, and isn't counted.
abbrev pub Counts : Option ℕ → Bool → Option ℕ → Type 0
Counts before due now =
    ((now ≡ Some (unwrap_or before 0 + 1)) × (IsTrue due ↔ unwrap_or before 0 ≡ 1000)) ⊎ ((now ≡ before) × (due ≡ false))

-- the octets of an address
abbrev pub octets_of_ip : IpAddr → List ℕ
octets_of_ip (V4 a) = ipv4_octets a
octets_of_ip (V6 a) = ipv6_octets a

-- A line that names something is told where none did in this hour, and it is noted, or there was no memory or place for it.
abbrev pub TellsOnce : Option (Unit {0}) → Bool → Option (Unit {0}) → Type 0
TellsOnce None told now = ((told ≡ true) × (now ≡ Some tt)) ⊎ ((told ≡ false) × (now ≡ None))
TellsOnce (Some known) told now = (told ≡ false) × (now ≡ Some tt)
