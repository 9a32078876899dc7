use Rattle.std.proofs.Common.{◌≡◌}
use Rattle.sqlite.specs.Held.{state}
use Rattle.mq_store.specs.Soundness.{book_in, HasKept, IsSound}
use Rattle.mq_connections.specs.Asking.{out}
use Rattle.mq_connections.specs.Gained.{callers}
use Rattle.mq_program.specs.Nights.{AreKept, HasDawned}
use Rattle.mq_program.proofs.nights.pass_nights.Given as goal

-- so far the ledger means what nights have left, and it has kept its premise as those before it had
abbrev pub invariant-loop-night : goal.invariant-loop-night
invariant-loop-night g l =
    (AreKept (λ c. HasKept (state g.N.Store c)) (g.F.Switch.closed l.files) → HasKept (state g.N.Store l.serving.connection)
    → HasKept (state g.N.Store l.fn.ledger.connection))
    × (AreKept (λ c. HasKept (state g.N.Store c)) (g.F.Switch.closed l.files) → g.F.Parts.is_fresh
    → IsSound l.fn.ledger.zone l.fn.ledger.default (state g.N.Store l.fn.ledger.connection)
    → HasKept (state g.N.Store l.serving.connection)
    → (l.serving.zone ≡ l.fn.ledger.zone) × (l.serving.default ≡ l.fn.ledger.default)
    × HasDawned (callers l.nights.permits g.W.Network.peers) g.R.Moments.shows l.nights.keep l.fn.ledger.zone l.fn.ledger.default
    (out (book_in l.fn.ledger.zone l.fn.ledger.default (state g.N.Store l.fn.ledger.connection).now) (g.W.Network.wire l.fn.network))
    (state g.N.Store l.serving.connection) (g.W.Network.wire l.network))
