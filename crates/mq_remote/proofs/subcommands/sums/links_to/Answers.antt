use Rattle.std.proofs.lemmas.List.{take_more}
use Rattle.mq_process.specs.declared.asking.TheConstants.{TIMEOUT}
use Rattle.mq_remote.proofs.TotalSteps.{in_step_push}
use Rattle.mq_remote.proofs.subcommands.sums.links_to.Goals as goal

pub loop-address-preserved : goal.loop-address-preserved
loop-address-preserved g c =
    in_step_push (λ address link. g.D.Dial.leads link address TIMEOUT) _ _ _ _ _ _ c.loop-address.invariant c.link_to.ensures (take_more _ _ _ c.loop-address-test.true) c.in_ok-push.ensures.items
