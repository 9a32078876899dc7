use Rattle.std.proofs.Common.{[]}
use Rattle.mq_lemmas.proofs.Booleans.{false_true}
use Rattle.mq_server.specs.declared.connection.Progress.TheVariants.{Waits}
use Rattle.mq_connections.proofs.Turning.{carries_in, extends_none, no_calls, nothing_done, still_out, turned, waits_works}
use Rattle.mq_connections.proofs.opened.OpenConnection.read_turn.Goals as goal

-- more was read
pub returns-then-is_waiting-clause-turns : goal.returns-then-is_waiting-clause-turns
returns-then-is_waiting-clause-turns g c = λ b told legal.
    let r = c.read_more.ensures in
    let (read, lost, few, whole, consumed, shuts, went) = r.reads in
    let was = c.args.self.now.connection in
    let now = c.read_more.new.self.connection in
    turned b b.history told told c.read_more.result _ _ was was now [] read lost [] (c.more_exchanges.ensures.none b legal) (no_calls told was.end c.read_more.result r.other) (extends_none was) (λ some. absurd (false_true some)) few whole consumed (still_out _ _ r.contents) shuts (carries_in was now read went)

-- nothing was
pub returns-else-is_waiting-clause-turns : goal.returns-else-is_waiting-clause-turns
returns-else-is_waiting-clause-turns g c = λ b told legal.
    nothing_done b told Waits _ c.args.self.now.connection waits_works (c.more_exchanges.ensures.none b legal)
