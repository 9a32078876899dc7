use Rattle.std.proofs.Common.{take}
use Rattle.toml.specs.View.{items_view}
use Rattle.mq_permits_file.specs.Lists.{AreOrigins}
use Rattle.mq_permits_file.proofs.read.Reader.read_entries.Given as goal

-- those before this place are read
abbrev pub invariant-loop-entry : goal.invariant-loop-entry
invariant-loop-entry l = record {
  read : AreOrigins (items_view (take l.entry-index l.entries)) l.origins.items;
}
