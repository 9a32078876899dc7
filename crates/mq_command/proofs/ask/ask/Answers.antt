use Rattle.mq_command.proofs.Words.{IsUnanswered, subst, sym, ◌+◌}
use Rattle.mq_command.proofs.AskSteps.{answered, asks_memory, missed_more, not_taken_more, undecoded}
use Rattle.mq_command.proofs.ask.ask.Goals as goal
use Rattle.mq_command.proofs.ask.ask.Goals.{in-Missed, in-NotTaken}

pub returns-in_err-attempt-clause-asks : goal.returns-in_err-attempt-clause-asks
returns-in_err-attempt-clause-asks g c =
    let (one, sends, told, last) = c.try_once.ensures in
    let (reply, brought) = rw c.in_err-attempt.was at last in
    asks_memory _ _ _ _ c.from_residual-in_err-attempt.ensures.1 (undecoded _ _ _ _ _ one sends _ c.loop-attempt.invariant told reply c.loop-attempt-test.true brought)

pub returns-in-Answered-clause-asks : goal.returns-in-Answered-clause-asks
returns-in-Answered-clause-asks g c =
    let (one, sends, told, last) = c.try_once.ensures in
    let (brought, answers) = rw c.in-Answered.is at (rw c.in_ok-attempt.was at last) in
    answered _ _ _ _ _ one sends _ c.loop-attempt.invariant told _ c.loop-attempt-test.true brought answers

pub loop-attempt-preserved : goal.loop-attempt-preserved
loop-attempt-preserved g c =
    let (one, sends, told, last) = c.try_once.ensures in
    elim c.match-attempt.branch [
      | in-NotTaken w ↦
          let (so, missed) = rw w.in-NotTaken.is at (rw c.in_ok-attempt.was at last) in
          subst (λ b. IsUnanswered c.args.request.now (c.loop-attempt._attempt + 1) b (g.L.Link.told c.args.link.now) (g.L.Link.told c.try_once.new.link)) (sym w.none_taken-is)
          (not_taken_more _ _ _ _ _ one sends _ c.loop-attempt.invariant told missed so)
      | in-Missed w ↦
          let (never, missed) = rw w.in-Missed.is at (rw c.in_ok-attempt.was at last) in
          subst (λ b. IsUnanswered c.args.request.now (c.loop-attempt._attempt + 1) b (g.L.Link.told c.args.link.now) (g.L.Link.told c.try_once.new.link)) (sym w.none_taken-is)
          (missed_more _ _ _ _ _ one sends _ c.loop-attempt.invariant told missed never)
    ]
