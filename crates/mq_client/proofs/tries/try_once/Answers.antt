use Rattle.std.proofs.Common.{refl, sym, ◌∙◌, subst, None}
use Rattle.mq_client.proofs.Words.{Answered, Faulted, IsVerdict}
use Rattle.mq_client.proofs.Telling.{told_frame, answered_in_time, comes_faulted}
use Rattle.mq_client.proofs.tries.try_once.Goals as goal

pub returns-in-Ok : goal.returns-in-Ok
returns-in-Ok g c =
    let q = c.args.framed.now.request in
    let (decided, decision, verdict) = rw c.as_slice-in-Ok.ensures.value at c.verdict_in.ensures in (
      record { request = q; outcome = Answered c.exchange.new.reply.items; decided = decided },
      decided,
      told_frame _ _ _ q _ (c.as_slice.ensures.value ∙ c.requires) c.in-Ok.ensures.told,
      record { request_is = refl; decision = decision; decided_is = refl },
      record {
        verdict = subst (IsVerdict decided) (sym c.answered.ensures.verdict) verdict;
        late = c.answered.ensures.late ∙ sym (answered_in_time q c.exchange.new.reply.items decided);
      },
    )

pub returns-in-Err : goal.returns-in-Err
returns-in-Err g c =
    let q = c.args.framed.now.request in (
      record { request = q; outcome = Faulted c.in-Err.fault; decided = None },
      None,
      told_frame _ _ _ q _ (c.as_slice.ensures.value ∙ c.requires) c.in-Err.ensures.told,
      record { request_is = refl; decision = λ reply none. absurd none; decided_is = refl },
      comes_faulted q c.in-Err.fault c.faulted.result c.faulted.ensures.verdict c.faulted.ensures.late,
    )
