-- What is read of all floors.
use Rattle.std.specs.Prelude.{◌≡◌, Bool, true, false, List, Result, Ok, Err, Vec}
use Rattle.std.specs.declared.alloc.Global.{Global}
use Rattle.std.specs.List.{list_all}
use Rattle.sqlite.specs.declared.error.Error.{Error}
use Rattle.sqlite.specs.declared.types.Value.{Value}
use Rattle.sqlite.specs.declared.types.Value.TheVariants.{Int, Blob}
use Rattle.sqlite.specs.Order.{Row, column}
use Rattle.mq_tables.specs.Settings.{IsStop}

-- bytes, and a whole number
abbrev pub are_host_and_run : Value → Value → Bool
are_host_and_run (Blob host) (Int run) = true
are_host_and_run _ _ = false

-- a host and a run stand first in the row
abbrev pub is_floor : Row → Bool
is_floor row = are_host_and_run (column row 0) (column row 1)

-- a host and a run stand in each row
abbrev pub are_floors : List Row → Bool
are_floors rows = list_all is_floor rows

-- so they do in each row that was read, or the reading was stopped
abbrev pub AreFloorsOf : Result (Vec Row Global) Error → Type 0
AreFloorsOf (Ok rows) = are_floors rows.items ≡ true
AreFloorsOf (Err e) = IsStop e
