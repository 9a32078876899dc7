use Rattle.mq_command.proofs.Words.{ap, length, map, ◌∙◌}
use Rattle.mq_command.proofs.TotalSteps.{listed_counted, whole_listed}
use Rattle.mq_command.proofs.totals.gather.Goals as goal

pub returns-clause-quiet : goal.returns-clause-quiet
returns-clause-quiet g c = λ whole.
    let counted = ap length c.as_slice.ensures.value ∙ listed_counted c.args.order.now.logins c.args.order.now.day _ _ _ _ c.in_ok-listed.ensures.lists in
    let before = whole_listed c.args.order.now.day c.as_slice-2.result.now (map g.L.Link.told c.list.new.links) _ c.as_slice.result.now c.in_ok-parts.parts.items counted c.in_ok-parts.ensures.asked whole in
    c.in_ok-parts.ensures.quiet whole ∙ c.in_ok-listed.ensures.quiet (rw c.as_slice.ensures.value at before)
