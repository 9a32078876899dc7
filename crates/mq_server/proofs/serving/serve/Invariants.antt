use Rattle.std.proofs.Common.{None, [], false, if◌then◌else◌, length, true, ◌*◌, ◌+◌, ◌-◌, ◌<◌, ◌≡◌}
use Rattle.mq_server.proofs.Words.{IsAtEnd, IsFlushed, LeavesLedger}
use Rattle.mq_server.proofs.Running.{SoFar}
use Rattle.mq_server.proofs.serving.serve.Given as goal

abbrev pub invariant-frames : goal.invariant-frames
invariant-frames g l =
    let book = g.L.Ledger.book in
    let kept = g.L.Ledger.has_kept in
    let sound = g.L.Ledger.is_sound in
    record {
      going : l.connection.end ≡ None;
      none : l.connection.replies ≡ [];
      under : l.connection.answered < 10000;
      ahead : length l.connection.rest < 4610;
      closed : l.connection.is_closed ≡ true → IsAtEnd (g.S.Source.remaining l.input);
      source_works : g.S.Source.has_failed l.fn.input ≡ false → g.S.Source.has_failed l.input ≡ false;
      sink_works : g.W.Sink.has_failed l.fn.output ≡ false → g.W.Sink.has_failed l.output ≡ false;
      flushed : IsFlushed (g.W.Sink.has_flushed l.fn.output) → IsFlushed (g.W.Sink.has_flushed l.output);
      leaves : LeavesLedger book kept sound g.L.Ledger.has_store l.fn.ledger l.ledger;
      so_far : kept l.ledger → sound l.fn.ledger → SoFar (book l.fn.ledger) (g.L.Ledger.told l.fn.ledger) (g.L.Ledger.told l.ledger)
          (record { remaining = g.S.Source.remaining l.fn.input; contents = g.W.Sink.contents l.fn.output })
          (record { remaining = g.S.Source.remaining l.input; contents = g.W.Sink.contents l.output })
          l.connection.rest l.connection.answered (book l.ledger).history;
    }

abbrev pub decreases-frames : goal.decreases-frames
decreases-frames g l =
    (10000 - l.connection.answered) * 2000 + (514 - length l.connection.rest) + (if l.connection.is_closed then 0 else 1)
