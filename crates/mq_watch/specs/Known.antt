-- What is known of hosts and logins within an hour.
use Rattle.std.specs.Prelude.{◌≡◌, ℕ, List, Option, None}
use Rattle.std.specs.declared.alloc.Global.{Global}
use Rattle.std.specs.declared.vec.Vec.{Vec}
use Rattle.std.specs.BTreeMap.{BTreeMap, get_by}
use Rattle.std.specs.Cmp.Lexicographic.{slice_cmp}
use Rattle.std.specs.Ordering.{nat_cmp}
use Rattle.mq_watch.specs.Hours.{IsOver}

-- what is known of a name
abbrev pub known : {T : Type 0} → BTreeMap (Vec ℕ Global) T → List ℕ → Option T
known m l = get_by (λ k. slice_cmp nat_cmp l k.items) m

-- What is known of a name in the hour that runs at a moment, by what was known in the hour that began at another one: nothing,
-- where that is over.
abbrev pub IsKnownAt : {T : Type 0} → ℕ → BTreeMap (Vec ℕ Global) T → ℕ → List ℕ → Option T → Type 0
IsKnownAt since m now l was = (IsOver since now → was ≡ None) × ((IsOver since now → ⊥) → was ≡ known m l)
