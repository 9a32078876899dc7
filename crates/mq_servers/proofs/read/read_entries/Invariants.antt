use Rattle.std.proofs.Common.{[], ◌≡◌, List, drop, vec_len}
use Rattle.std.specs.declared.net.SocketAddr.{SocketAddr}
use Rattle.toml.specs.View.{items_view}
use Rattle.mq_servers.specs.Lists.{AreNew}
use Rattle.mq_servers.proofs.read.read_entries.Given as goal

-- what those that are left make of those so far is what all make
abbrev pub invariant-loop-entry : goal.invariant-loop-entry
invariant-loop-entry l = record {
  new : (all : List SocketAddr) → AreNew (items_view (drop l.entry-index l.entries)) l.servers.items all → AreNew (items_view l.entries) [] all;
  count : vec_len l.servers ≡ l.entry-index;
}
