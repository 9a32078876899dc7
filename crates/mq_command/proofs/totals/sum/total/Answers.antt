use Rattle.mq_command.proofs.Words.{UsageRow, arith, refl}
use Rattle.mq_command.proofs.TotalSteps.{adds}
use Rattle.mq_command.proofs.totals.sum.total.Goals as goal

pub overflow_add-sum : goal.overflow_add-sum
overflow_add-sum c =
    omega (
      arith,
      adds (λ (row : UsageRow). row.settled) c.args.place refl (λ row is. is.settled.to) c.args.parts.now c.loop-part.part-index c.part-item.result c.in-Some.rows c.as_slice.result.now c.index-as_slice-place.result c.loop-part.sum.settled
          c.requires.few c.requires.in_range c.requires.place c.loop-part-test.true c.part-item.is c.in-Some.is c.as_slice.ensures c.index-as_slice-place.is c.loop-part.invariant.settled,
    )

pub overflow_add-sum-in-Some : goal.overflow_add-sum-in-Some
overflow_add-sum-in-Some c =
    omega (
      arith,
      adds (λ (row : UsageRow). row.reserved) c.args.place refl (λ row is. is.reserved.to) c.args.parts.now c.loop-part.part-index c.part-item.result c.in-Some.rows c.as_slice.result.now c.index-as_slice-place.result c.loop-part.sum.reserved
          c.requires.few c.requires.in_range c.requires.place c.loop-part-test.true c.part-item.is c.in-Some.is c.as_slice.ensures c.index-as_slice-place.is c.loop-part.invariant.reserved,
    )

pub overflow_add-sum-in-Some-2 : goal.overflow_add-sum-in-Some-2
overflow_add-sum-in-Some-2 c =
    omega (
      arith,
      adds (λ (row : UsageRow). row.cap) c.args.place refl (λ row is. is.cap.to) c.args.parts.now c.loop-part.part-index c.part-item.result c.in-Some.rows c.as_slice.result.now c.index-as_slice-place.result c.loop-part.sum.cap
          c.requires.few c.requires.in_range c.requires.place c.loop-part-test.true c.part-item.is c.in-Some.is c.as_slice.ensures c.index-as_slice-place.is c.loop-part.invariant.cap,
    )
