-- What a replay over connections says of a text.
use Rattle.std.proofs.Common.{◌≡◌, ℕ, List, Option, None, Result, Ok, Err}
use Rattle.mq_ledger.specs.declared.zone.Zone.{Zone}
use Rattle.mq_replay.specs.Connections.{connections_of, first_not_hex}
use Rattle.mq_replay.specs.Replay.{Replays, ReplaysOver}
use Rattle.mq_replay.specs.declared.replay.ReplayFault.{ReplayFault}
use Rattle.mq_replay.specs.declared.replay.ReplayFault.TheVariants.{Text, Serve, Connection, Output}

-- the connections of a text were answered
pub of_text : (zone : Zone) (default : ℕ) (text : List ℕ) (connections : List (List ℕ)) (old new : Option (List ℕ)) (ended : Result (Unit {0}) ReplayFault)
    → first_not_hex text ≡ None → connections ≡ connections_of text → ReplaysOver zone default connections old new ended
    → Replays zone default text old new ended
of_text zone default text connections old new (Ok u) hex is (written, all, replay, printed) =
    (written, all, record { hex = hex; replay = rw is at replay }, printed.0, printed.1)
of_text zone default text connections old new (Err (Connection number ending)) hex is (written, all, replay, printed) =
    (written, all, record { hex = hex; replay = rw is at replay }, printed.0, printed.1)
of_text zone default text connections old new (Err (Output fault)) hex is (written, all, replay, front) =
    (written, all, record { hex = hex; replay = rw is at replay }, front)
of_text zone default text connections old new (Err (Text fault)) hex is (written, all, replay, never) = absurd never
of_text zone default text connections old new (Err (Serve fault)) hex is kept = kept
