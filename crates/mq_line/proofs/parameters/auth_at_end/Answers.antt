use Rattle.std.specs.Prelude.{None, Some}
use Rattle.mq_line.proofs.AuthLaws.{auth_at_end_is}
use Rattle.mq_line.proofs.parameters.auth_at_end.Goals as goal

pub returns-in-Some : goal.returns-in-Some
returns-in-Some c =
    let at = c.last_field.ensures in auth_at_end_is _ at.0 _ _ (Some c.in-Some.outcome) at.1 at.2 c.in-Some.ensures

pub returns-in-None : goal.returns-in-None
returns-in-None c =
    let at = c.last_field.ensures in auth_at_end_is _ at.0 _ _ None at.1 at.2 c.in-None.ensures
