use Rattle.mq_command.proofs.Words.{Ok, string_bytes}
use Rattle.mq_command.proofs.AllowSteps.{line_told, looked_later, not_later}
use Rattle.mq_command.proofs.stop.run_stop.Goals as goal

pub returns-then-status-ne0-clause-stops : goal.returns-then-status-ne0-clause-stops
returns-then-status-ne0-clause-stops g c = (
  Ok c.in-Ok.stopped,
  _,
  _,
  c.in-Ok.ensures.stops,
  line_told (λ line. string_bytes line) c.stopped_text-lines.result _ _ _ _ c.stopped_text-lines.ensures c.tell_line-status.ensures.prints,
  not_later c.args.setter.now c.args.order c.in-Ok.stopped c.tell_line-status.result _ c.if-status-ne0.true,
)

pub returns-clause-stops : goal.returns-clause-stops
returns-clause-stops g c =
    let looks = c.clear_and_say.ensures.looks in (
      Ok c.in-Ok.stopped,
      _,
      _,
      c.in-Ok.ensures.stops,
      line_told (λ line. string_bytes line) c.stopped_text-lines.result _ _ _ _ c.stopped_text-lines.ensures c.tell_line-status.ensures.prints,
      looked_later c.args.setter.now c.args.order c.in-Ok.stopped _ _ _ _ looks.0 c.if-status-ne0.false looks.1 looks.2,
    )
