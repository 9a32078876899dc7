-- What the map of sessions holds, by the bytes of its parts.
use Rattle.std.specs.Prelude.{ℕ, List, Option, None, Some}
use Rattle.std.specs.Option.{option_map}
use Rattle.std.specs.declared.alloc.Global.{Global}
use Rattle.std.specs.declared.vec.Vec.{Vec}
use Rattle.mq_track.specs.Sessions.{Transaction}
use Rattle.mq_track.specs.State.{Known, nothing}
use Rattle.mq_track.specs.declared.sessions.Session.{Session}
use Rattle.mq_track.specs.declared.sessions.Transaction.{Transaction as Kept}

-- a session, login or message id as bytes
abbrev pub bytes : Vec ℕ Global → List ℕ
bytes v = v.items

-- an open transaction, with its message id as bytes
abbrev pub kept : Kept → Transaction
kept t = record { txn = t.txn; message = t.message.items; moment = t.moment }

-- login and open transaction of a record
abbrev pub known_by : Session → Known
known_by s = record { login = option_map bytes s.login; transaction = option_map kept s.transaction }

-- what a record reports, where there is one
abbrev pub known_in : Option Session → Known
known_in None = nothing
known_in (Some s) = known_by s

-- a session and what is known of it
abbrev pub entry : Vec ℕ Global × Session → List ℕ × Known
entry e = (e.0.items, known_by e.1)
