-- What a replay of connections over a new ledger writes, and how it ends.
use Rattle.std.specs.Prelude.{◌≡◌, ◌<◌, ◌⊎◌, ℕ, List, [], map, length, Option, Some, None, option_map, Result, Ok, Err}
use Rattle.std.specs.List.{filter_map, enumerate_from, slice_get}
use Rattle.std.specs.Io.KnownBytes.{Appends, Keeps}
use Rattle.mq_ledger.specs.Legal.{Book}
use Rattle.mq_ledger.specs.declared.zone.Zone.{Zone}
use Rattle.mq_server.specs.Connections.{wires, result_of, AreServed}
use Rattle.mq_server.specs.Delivery.{Delivery}
use Rattle.mq_server.specs.declared.connection.EndCause.TheVariants as served
use Rattle.mq_server.specs.declared.connections.ConnectionEnd.{ConnectionEnd}
use Rattle.mq_server.specs.declared.connections.ConnectionEnd.TheVariants as ends
use Rattle.mq_server.specs.declared.fault.ServeFault.TheVariants as serving
use Rattle.mq_replay.specs.Connections.{connections_of, first_not_hex}
use Rattle.mq_stream.specs.Flow.{AppendsFront}
use Rattle.mq_replay.specs.Lines.{hex_lines}
use Rattle.mq_replay.specs.declared.replay.Ending.{Ending}
use Rattle.mq_replay.specs.declared.replay.Ending.TheVariants.{BadFrame, CutFrame, Enough, Memory}
use Rattle.mq_replay.specs.declared.replay.ReplayFault.{ReplayFault}
use Rattle.mq_replay.specs.declared.replay.ReplayFault.TheVariants.{Text, Serve, Connection, Output}
use Rattle.mq_replay.specs.declared.connections.TextFault.{TextFault}
use Rattle.mq_replay.specs.declared.connections.TextFault.TheVariants as refused

-- what is wrong with the end of a connection, if anything; over memory a read or a write fails only where memory runs out
abbrev pub ending_of : ConnectionEnd → Option Ending
ending_of (ends.Served served.InputEnd) = None
ending_of (ends.Served served.Enough) = Some Enough
ending_of (ends.Served served.BadFrame) = Some BadFrame
ending_of (ends.Served served.CutFrame) = Some CutFrame
ending_of ends.Read = Some Memory
ending_of ends.Write = Some Memory
ending_of ends.Memory = Some Memory

-- the connections with such an end, by their numbers, of which the first is this
abbrev pub faults_from : ℕ → List ConnectionEnd → List (ℕ × Ending)
faults_from number all =
    filter_map (λ e. option_map (λ ending. (e.0, ending)) (ending_of e.1)) (enumerate_from number all)

-- the connections with such an end, by their numbers from 1
abbrev pub faults_of : List ConnectionEnd → List (ℕ × Ending)
faults_of all = faults_from 1 all

-- a ledger without a history
abbrev pub empty_book : Zone → ℕ → Book
empty_book zone default = record { zone = zone; default = default; history = [] }

-- Connections were served in turn over a new ledger: this was written on each, and each ended so.
pub record IsReplay (zone : Zone) (default : ℕ) (connections written : List (List ℕ))
    (all : List ConnectionEnd) : Type 0 where
  pub seen : List Delivery
  pub left : List (Option (List ℕ))
  pub each : length written ≡ length connections
  pub served : AreServed (empty_book zone default) [] (wires (map Some connections) (map (λ _. Some []) connections))
      (wires left (map Some written)) (map result_of all) seen

-- What printing the answers to connections leads to, of which this was written on each and each ended so: a line for
-- each in order, all of them where the output doesn't fail.
abbrev pub Prints : List (List ℕ) → List ConnectionEnd → Option (List ℕ) → Option (List ℕ)
    → Result (Unit {0}) ReplayFault → Type 0
Prints written all old new (Ok _) = (faults_of all ≡ []) × Appends old new (hex_lines written)
Prints written all old new (Err (Connection number ending)) =
    (slice_get (faults_of all) 0 ≡ Some (number, ending)) × Appends old new (hex_lines written)
Prints written all old new (Err (Output fault)) = AppendsFront old new (hex_lines written)
Prints written all old new (Err _) = ⊥

-- What connections lead to that are served over a new ledger; a fault of the serving as a whole leaves the output as it
-- was.
abbrev pub ReplaysOver : Zone → ℕ → List (List ℕ) → Option (List ℕ) → Option (List ℕ)
    → Result (Unit {0}) ReplayFault → Type 0
ReplaysOver zone default connections old new (Err (Serve fault)) = Keeps old new
ReplaysOver zone default connections old new ended =
    (written : List (List ℕ)) × (all : List ConnectionEnd) × IsReplay zone default connections written all
    × Prints written all old new ended

-- connections weren't served only for memory, or for the store where there is one
abbrev pub IsForCause : Type 0 → Result (Unit {0}) ReplayFault → Type 0
IsForCause store (Err (Serve fault)) = (fault ≡ serving.Memory) ⊎ ((fault ≡ serving.Store) × store)
IsForCause store ended = Unit {0}

-- why a text is refused; that memory ran out may come before another cause but its size
abbrev pub IsTextRefusal : List ℕ → TextFault → Type 0
IsTextRefusal text refused.TooLarge = 1048576 < length text
IsTextRefusal text (refused.NotHex number) = first_not_hex text ≡ Some number
IsTextRefusal text refused.Memory = Unit {0}

-- the connections of a text were served, with these written and these ends
pub record IsReplayOf (zone : Zone) (default : ℕ) (text : List ℕ) (written : List (List ℕ))
    (all : List ConnectionEnd) : Type 0 where
  pub hex : first_not_hex text ≡ None
  pub replay : IsReplay zone default (connections_of text) written all

-- What a text leads to: a line for each connection in order, all of them where nothing fails; a fault of the text or
-- of the serving as a whole leaves the output as it was.
abbrev pub Replays : Zone → ℕ → List ℕ → Option (List ℕ) → Option (List ℕ) → Result (Unit {0}) ReplayFault → Type 0
Replays zone default text old new (Ok _) =
    (written : List (List ℕ)) × (all : List ConnectionEnd) × IsReplayOf zone default text written all
    × (faults_of all ≡ []) × Appends old new (hex_lines written)
Replays zone default text old new (Err (Connection number ending)) =
    (written : List (List ℕ)) × (all : List ConnectionEnd) × IsReplayOf zone default text written all
    × (slice_get (faults_of all) 0 ≡ Some (number, ending)) × Appends old new (hex_lines written)
Replays zone default text old new (Err (Output fault)) =
    (written : List (List ℕ)) × (all : List ConnectionEnd) × IsReplayOf zone default text written all
    × AppendsFront old new (hex_lines written)
Replays zone default text old new (Err (Text fault)) = IsTextRefusal text fault × Keeps old new
Replays zone default text old new (Err (Serve fault)) = Keeps old new

-- 0 where all is done, else 1
abbrev pub status_of : Result (Unit {0}) ReplayFault → ℕ
status_of (Ok _) = 0
status_of (Err fault) = 1
