use Rattle.std.proofs.KnownBytes.{Keeps-refl}
use Rattle.mq_command.proofs.Words.{Err, None, Ok, refl, string_bytes}
use Rattle.mq_command.proofs.AllowSteps.{line_told, quiet_both, quiet_never}
use Rattle.mq_command.proofs.resume.run_resume.Goals as goal

pub returns-in-Ok : goal.returns-in-Ok
returns-in-Ok g c =
    let (found, looks, silent) = c.note_lower.ensures in (
      found,
      (
        Ok c.in-Ok.cap,
        _,
        c.in-Ok.ensures,
        line_told (λ line. string_bytes line) c.line_of-line.result _ _ _ _ c.line_of-line.ensures c.tell_line-status.ensures.prints,
        looks,
      ),
      quiet_both _ _ _ _ _ c.tell_line-status.ensures.quiet silent,
    )

pub returns-in-Err : goal.returns-in-Err
returns-in-Err g c = (
  Ok None,
  (Err c.in-Err.fault, _, c.in-Err.ensures, (c.say_of_server.ensures, Keeps-refl _), refl),
  quiet_never _ _ _ _ c.say_of_server.ensures,
)
