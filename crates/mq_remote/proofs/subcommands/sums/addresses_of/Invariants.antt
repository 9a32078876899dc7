use Rattle.std.proofs.Common.{map, take}
use Rattle.std.specs.Net.Grammar.{IsSocketText}
use Rattle.mq_remote.specs.Totals.{InStep}
use Rattle.mq_remote.proofs.subcommands.sums.addresses_of.Given as goal

-- those so far spell these
abbrev pub invariant-loop-server : goal.invariant-loop-server
invariant-loop-server g l = InStep IsSocketText (map (λ s. s.now) (take l.server-index l.servers)) l.addresses.items
