use Rattle.std.proofs.Common.{Ok, Some}
use Rattle.mq_server.proofs.Heads.{Answers}
use Rattle.mq_server.proofs.Giving.{front_is}
use Rattle.mq_server.proofs.connection.Connection.peek_request.Goals as goal

pub returns-in-Ok-clause-stands : goal.returns-in-Ok-clause-stands
returns-in-Ok-clause-stands c = rw (← c.self.view_is) (
    let answer : Answers c.self.inside.feed (Ok (Some c.in-Ok-Some.body.now)) = rw c.in-Ok-Some.field-0-is at c.in-Ok-Some.ensures in
    (c.in-Ok-Some.body.now, _, front_is c.self.inside.feed c.in-Ok-Some.body.now c.self.invariant.0 answer, c.in-Ok.ensures.found))
