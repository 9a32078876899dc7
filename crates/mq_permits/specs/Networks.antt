-- Addresses as numbers, and the networks that they are of.
use Rattle.std.specs.Prelude.{ℕ, ◌-◌, ◌/◌, ◌%◌, ◌^◌, nat_eq, Bool, true, false, ◌&&◌, if◌then◌else◌}
use Rattle.std.specs.Net.Addr.{ipv4_bits, ipv6_bits}
use Rattle.std.specs.declared.net.ip_addr.IpAddr.{IpAddr}
use Rattle.std.specs.declared.net.ip_addr.IpAddr.TheVariants.{V4, V6}
use Rattle.mq_permits.specs.declared.network.AddressNumber.{AddressNumber}
use Rattle.mq_permits.specs.declared.network.Family.{Family}
use Rattle.mq_permits.specs.declared.network.Family.TheVariants.{Four, Six}
use Rattle.mq_permits.specs.declared.network.Network.{Network}

-- how many bits an address has
abbrev pub width : Family → ℕ
width Four = 32
width Six = 128

-- an IPv6 address of these bits; ::ffff:a.b.c.d is the IPv4 address a.b.c.d
abbrev pub numbered_v6 : ℕ → AddressNumber
numbered_v6 bits =
    if nat_eq (bits / 4294967296) 65535 then record { family = Four; value = bits % 4294967296 }
    else record { family = Six; value = bits }

-- the number of an address, the first of whose bits counts most
abbrev pub numbered : IpAddr → AddressNumber
numbered (V4 a) = record { family = Four; value = ipv4_bits a }
numbered (V6 a) = numbered_v6 (ipv6_bits a)

-- both are of one family
abbrev pub is_same_family : Family → Family → Bool
is_same_family Four Four = true
is_same_family Six Six = true
is_same_family _ _ = false

-- both are one address
abbrev pub is_same_number : AddressNumber → AddressNumber → Bool
is_same_number a b = is_same_family a.family b.family && nat_eq a.value b.value

-- an address is of the network with whose address it has the first bits in common, as many as the prefix says
abbrev pub is_of : Network → AddressNumber → Bool
is_of network a =
    is_same_family network.start.family a.family
    && nat_eq (a.value / 2 ^ (width network.start.family - network.prefix))
    (network.start.value / 2 ^ (width network.start.family - network.prefix))

-- 127.0.0.0/8 and ::1
abbrev pub loops : Family → ℕ → Bool
loops Four value = nat_eq (value / 16777216) 127
loops Six value = nat_eq value 1

abbrev pub is_loopback : AddressNumber → Bool
is_loopback a = loops a.family a.value
