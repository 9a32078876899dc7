use Rattle.std.proofs.Common.{Bool, drop, false, is_some, map}
use Rattle.mq_process.specs.Refusals.{HasNoAddress}
use Rattle.mq_remote.specs.Stops.{AsksUse, UseAt}
use Rattle.mq_remote.specs.declared.subcommands.stopping.TheConstants.{SHORT}
use Rattle.mq_remote.proofs.subcommands.stop.has_sent_at_one.Given as goal

-- what asking the others leads to is what asking all leads to
abbrev pub invariant-loop-server : goal.invariant-loop-server
invariant-loop-server g l =
    (HasNoAddress (map (λ s. s.now) (drop l.server-index l.servers)) → ⊥)
    × ((meant : Bool)
    → AsksUse (UseAt g.D.Dial.leads g.D.Link.Link.told l.setter.login l.day SHORT) (map (λ s. s.now) (drop l.server-index l.servers)) (is_some l.silent) meant
    → AsksUse (UseAt g.D.Dial.leads g.D.Link.Link.told l.setter.login l.day SHORT) (map (λ s. s.now) l.servers) false meant)
