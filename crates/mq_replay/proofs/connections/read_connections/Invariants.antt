use Rattle.std.proofs.Common.{◌≡◌, ℕ, ◌<◌, ◌++◌, [], false, map, length, drop, get_or}
use Rattle.mq_replay.specs.Connections.{lines_of, is_not_hex, connections_of}
use Rattle.mq_replay.proofs.LineSteps.{joined}
use Rattle.mq_replay.proofs.connections.read_connections.Given as goal

-- the lines so far are counted and are hexadecimal; what is left makes the rest of the connections
abbrev pub invariant-loop-line : goal.invariant-loop-line
invariant-loop-line l = record {
  counted : l.number ≡ length l.yielded;
  hex : (k : ℕ) → k < length l.yielded → is_not_hex (get_or (lines_of l.text) k []) ≡ false;
  meaning : map (λ c. c.items) l.found.items ++ joined l.current.items (drop (length l.yielded) (lines_of l.text)) ≡ connections_of l.text;
}
