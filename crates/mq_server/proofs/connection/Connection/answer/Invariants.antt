use Rattle.std.proofs.Common.{None, ◌≡◌}
use Rattle.mq_server.proofs.Words.{LeavesLedger}
use Rattle.mq_server.proofs.Advance.{Advances, AllAnswered}
use Rattle.mq_server.proofs.connection.Connection.answer.Given as goal

abbrev pub invariant-loop-frame : goal.invariant-loop-frame
invariant-loop-frame g l =
    let book = g.L.Ledger.book in
    let told = g.L.Ledger.told in
    let kept = g.L.Ledger.has_kept in
    let sound = g.L.Ledger.is_sound in
    record {
      began : l.fn.self.end ≡ None;
      going : l.self.end ≡ None;
      leaves : LeavesLedger book kept sound g.L.Ledger.has_store l.fn.ledger l.ledger;
      closed : l.self.is_closed ≡ l.fn.self.is_closed;
      so_far : kept l.ledger → sound l.fn.ledger → Advances (book l.fn.ledger) l.fn.self l.self (AllAnswered (told l.fn.ledger) (told l.ledger) l._frame) (book l.ledger).history;
    }
