use Rattle.std.proofs.Common.{Err, ap, ◌∙◌, inl, inr}
use Rattle.mq_watch.proofs.Looks.{same_address, seen_put, tells_after}
use Rattle.mq_watch.proofs.Questions.{calls_after, calls_before, calls_it}
use Rattle.mq_watch.proofs.watch.Watch.put.Goals.{in-Ok, in-Err}
use Rattle.mq_watch.proofs.watch.Watch.put.Goals as goal

pub returns-clause-put : goal.returns-clause-put
returns-clause-put g c = elim c.match-before.branch [
  | in-Ok w ↦
      let put = calls_after _ _ _ _ c.cap_before-before.ensures.asked.asked (calls_it _ _ _ w.apply-answer.ensures.told) in
      inl (rw w.answer-is (calls_before _ _ _ _ put (rw w.self-is at c.look-seen.ensures.asked.asked)))
  | in-Err w ↦
      let is = rw w.in-Err.is at c.cap_before-before.ensures.fault in
      let failed = rw w.in-Err.is at c.cap_before-before.ensures.failed in
      inr (w.answer-is ∙ ap Err is, (failed.0, failed.1, calls_before _ _ _ _ failed.2 (rw w.self-is at c.look-seen.ensures.asked.asked)))
]

pub returns-clause-seen : goal.returns-clause-seen
returns-clause-seen g c = elim c.match-before.branch [
  | in-Ok w ↦ seen_put _ _ _ _ _ _ _ _ _ _ _ _ _ _ (rw c.lent.ensures at c.look-seen.ensures.sees)
      (rw w.self-is (w.apply-answer.ensures.same_zone ∙ c.cap_before-before.ensures.asked.zone))
      (same_address c.args.self.now.peer c.match-before.self.peer (rw w.self-is c.cap_before-before.ensures.peer)) (rw w.self-is c.cap_before-before.ensures.notes)
  | in-Err w ↦ seen_put _ _ _ _ _ _ _ _ _ _ _ _ _ _ (rw c.lent.ensures at c.look-seen.ensures.sees)
      (rw w.self-is c.cap_before-before.ensures.asked.zone)
      (same_address c.args.self.now.peer c.match-before.self.peer (rw w.self-is c.cap_before-before.ensures.peer)) (rw w.self-is c.cap_before-before.ensures.notes)
]

pub returns-clause-usage : goal.returns-clause-usage
returns-clause-usage g c = λ kept sound. elim c.match-before.branch [
  | in-Ok w ↦ tells_after _ _ _ _ c.look-seen.ensures.asked c.look-seen.ensures.usage kept (λ k.
      let then = rw w.self-is at k in
      rw w.self-is (w.apply-answer.ensures.sound then (c.cap_before-before.ensures.asked.sound (w.apply-answer.ensures.kept then) sound)))
  | in-Err w ↦ tells_after _ _ _ _ c.look-seen.ensures.asked c.look-seen.ensures.usage kept (λ k.
      rw w.self-is (c.cap_before-before.ensures.asked.sound (rw w.self-is at k) sound))
]
