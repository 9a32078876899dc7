use Rattle.std.proofs.Common.{◌∷◌, ◌++◌, sym}
use Rattle.mq_program.proofs.ListingSteps.{after_comma, one_more_object}
use Rattle.mq_program.proofs.listing.push_more_objects.Goals as goal

pub loop-limit-preserved : goal.loop-limit-preserved
loop-limit-preserved c =
    let (before, are, joined) = c.loop-limit.invariant in
    let (object, is, same) = c.in_ok-push_object.ensures in (
      before ++ 44 ∷ object,
      one_more_object c.args.limits.now c.loop-limit.limit-index c.limit-item.result before object c.loop-limit-test.true (sym c.limit-item.is) are is,
      after_comma _ _ _ _ before object joined c.in_ok-extend_from_slice.ensures.items same,
    )
