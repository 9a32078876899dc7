use Rattle.std.proofs.Common.{take}
use Rattle.mq_process.specs.declared.asking.TheConstants.{TIMEOUT}
use Rattle.mq_remote.specs.Totals.{InStep}
use Rattle.mq_remote.proofs.subcommands.sums.links_to.Given as goal

-- there is a link to each so far
abbrev pub invariant-loop-address : goal.invariant-loop-address
invariant-loop-address g l = InStep (λ address link. g.D.Dial.leads link address TIMEOUT) (take l.address-index l.addresses) l.links.items
