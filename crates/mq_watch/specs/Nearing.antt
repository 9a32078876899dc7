-- When a login nears its limit, and what is known of it.
use Rattle.mq_watch.specs.Known.{known}
use Rattle.std.specs.Prelude.{◌≡◌, ℕ, ◌+◌, ◌*◌, ◌/◌, ◌<◌, ◌≤◌, ◌⊎◌, List, Option, None, Some, ⊤, is_some, if◌then◌else◌}
use Rattle.std.specs.declared.alloc.Global.{Global}
use Rattle.std.specs.declared.vec.Vec.{Vec}
use Rattle.std.specs.BTreeMap.{BTreeMap, btree_map_len}
use Rattle.mq_watch.specs.declared.nearing.LoginNote.{LoginNote}

-- four fifths of the limit are used, or more
abbrev pub IsNear : ℕ → ℕ → Type 0
IsNear used cap = 4 * cap ≤ 5 * used

-- four fifths of the limit, or the least number above
abbrev pub four_fifths : ℕ → ℕ
four_fifths cap = (4 * cap + 4) / 5

-- how many logins are known, or more, where there is no room to note this one: 100,000 others
abbrev pub full_at : BTreeMap (Vec ℕ Global) LoginNote → List ℕ → ℕ
full_at m noted = 100000 + (if is_some (known m noted) then 1 else 0)

-- what is known of a login stays, or is forgotten where there was no room to note another one
abbrev pub IsLeft : BTreeMap (Vec ℕ Global) LoginNote → BTreeMap (Vec ℕ Global) LoginNote → List ℕ → List ℕ → Type 0
IsLeft m n noted l = (known n l ≡ known m l) ⊎ ((full_at m noted ≤ btree_map_len m) × (known n l ≡ None))

-- so much is used, or more, where a number is given
abbrev pub HasReached : Option ℕ → ℕ → Type 0
HasReached None used = ⊥
HasReached (Some n) used = n ≤ used

-- The login may near its limit on a day on which it has used so much: nothing is known of it, or only of an earlier day, or
-- it has used as much as it had to use to near it.
abbrev pub IsOpen : Option LoginNote → ℕ → ℕ → Type 0
IsOpen None day used = ⊤
IsOpen (Some s) day used = (s.day < day) ⊎ ((s.day ≡ day) × HasReached s.near used)
