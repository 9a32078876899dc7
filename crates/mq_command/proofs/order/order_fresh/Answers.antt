use Rattle.mq_command.proofs.Words.{IsLimit, ap, arith, later, no_number, number, refl, subst, sym, ◌*◌, ◌+◌, ◌∙◌}
use Rattle.mq_command.proofs.OrderSteps.{ahead_more, ahead_small, later_none, later_more}
use Rattle.mq_command.proofs.order.order_fresh.Goals as goal

pub loop-taken-init : goal.loop-taken-init
loop-taken-init g c = (c.requires, omega arith, refl, sym (later_none _), no_number)

pub loop-taken-preserved : goal.loop-taken-preserved
loop-taken-preserved g c =
    let (in_range, small, grown, so_far, taken) = c.loop-taken.invariant in
    let (in_range', next) = c.renumber.ensures.next c.if-not-renumber.false in
    let runs = c.loop-taken.ahead in
    let moved = next ∙ ap (later (runs + 1)) so_far ∙ later_more runs c.args.request.now in (
      in_range',
      ahead_small (runs * 2 + 1) c.args.request.now (subst IsLimit moved in_range'),
      ahead_more c.loop-taken._taken runs grown,
      moved,
      number _ _ _ c.order-sent.result taken (rw (so_far, grown) at c.order-sent.ensures) (sym c.is_taken.ensures ∙ c.if-not-is_taken.false),
    )
