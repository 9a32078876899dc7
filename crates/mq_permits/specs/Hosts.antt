-- From which addresses each host asks.
use Rattle.std.specs.Prelude.{ℕ, List, [], Option, Some, None}
use Rattle.std.specs.declared.alloc.Global.{Global}
use Rattle.std.specs.declared.vec.Vec.{Vec}
use Rattle.std.specs.BTreeMap.{get_by}
use Rattle.std.specs.Cmp.Lexicographic.{slice_cmp}
use Rattle.std.specs.Ordering.{nat_cmp}
use Rattle.mq_permits.specs.declared.hosts.Hosts.{Hosts}
use Rattle.mq_permits.specs.declared.permits.Origin.{Origin}

-- those that are listed, where there is a list
abbrev pub listed : Option (Vec Origin Global) → List Origin
listed None = []
listed (Some origins) = origins.items

-- the addresses of a host, none where it isn't named
abbrev pub origins_in : Hosts → List ℕ → List Origin
origins_in hosts host = listed (get_by (λ key. slice_cmp nat_cmp host key.items) hosts.origins)
