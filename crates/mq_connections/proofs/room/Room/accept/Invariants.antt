use Rattle.std.proofs.Common.{None, Option, List}
use Rattle.mq_ledger.specs.declared.ledger.ReportedCall.{ReportedCall}
use Rattle.mq_ledger.specs.Legal.{Book}
use Rattle.mq_connections.specs.Gained.{Callers}
use Rattle.mq_connections.specs.Sessions.{GoesOn, Outside, held}
use Rattle.mq_connections.proofs.room.Room.accept.Given as goal

-- the sessions go on by each connection that is accepted
abbrev pub invariant-loop-connection : goal.invariant-loop-connection
invariant-loop-connection g l = (who : Callers) (old : Outside) (book : Book) (told : Option (List ReportedCall)) →
    GoesOn who old (record { book = book; told = told; wires = g.N.Network.wire l.fn.network }) l.fn.self.last (held l.fn.self.opened) None →
    GoesOn who old (record { book = book; told = told; wires = g.N.Network.wire l.network }) l.self.last (held l.self.opened) None
