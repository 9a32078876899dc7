use Rattle.std.proofs.Common.{refl, subst₂}
use Rattle.sqlite.specs.Held.{state}
use Rattle.sqlite.specs.Steps.{over_memory}
use Rattle.sqlite.proofs.Callers.{memory_is_clean}
use Rattle.mq_store.specs.Soundness.{book_in, HasKept, IsSound}
use Rattle.mq_connections.specs.Asking.{out}
use Rattle.mq_connections.specs.Gained.{callers}
use Rattle.mq_program.specs.Serving.{Serves}
use Rattle.mq_program.proofs.OpenedFiles.{served_anew}
use Rattle.mq_program.proofs.serving.listen_in_memory.Goals as goal

pub returns : goal.returns
returns g c =
    let before = state over_memory c.in_ok-ledger.ledger.connection in
    let after = state over_memory c.listen_over.result.ledger.connection in
    let outcome = c.listen_over.result.outcome in
    let wires = g.W.Network.wire c.args.network.now in
    let wires_after = g.W.Network.wire c.listen_over.new.network in
    let kept : HasKept after = record { clean = memory_is_clean c.listen_over.result.ledger.connection; is_open = refl } in
    let (zone_is, default_is) = c.in_ok-ledger.ensures.lent in
    served_anew c.args.settings.now.zone c.args.settings.now.default before wires after wires_after outcome
    (subst₂ (λ z d. IsSound z d before → IsSound z d after) zone_is default_is (c.listen_over.ensures.sound kept))
    (subst₂ (λ z d. IsSound z d before → Serves (callers c.args.permits g.W.Network.peers) (out (book_in z d before.now) wires) (out (book_in z d after.now) wires_after) outcome) zone_is default_is (c.listen_over.ensures.serves kept))
    c.in_ok-ledger.ensures.new
