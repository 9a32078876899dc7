use Rattle.std.proofs.Common.{refl, subst₂}
use Rattle.sqlite.specs.Files.{file_state}
use Rattle.sqlite.specs.WalFiles.{image_at}
use Rattle.mq_ledger.specs.Day.{day_of}
use Rattle.mq_forget.specs.Remembered.{remembered}
use Rattle.mq_store.specs.Soundness.{book_in, IsSound}
use Rattle.mq_program.specs.AfterForgetting.{grown}
use Rattle.mq_connections.specs.Asking.{out}
use Rattle.mq_connections.specs.Gained.{callers}
use Rattle.mq_program.specs.Serving.{Serves}
use Rattle.mq_program.proofs.AfterForgetting.{answers_as_whole}
use Rattle.mq_program.proofs.OpenedFiles.{serves_from, serves_from_nothing}
use Rattle.mq_program.proofs.serving.listen_over_file.Goals as goal

pub returns-clause-begun : goal.returns-clause-begun
returns-clause-begun g c opened kept =
    let before = file_state c.in_ok-ledger.ledger.connection in
    let after = file_state c.listen_and_tend.result.ledger.connection in
    let outcome = c.listen_and_tend.result.outcome in
    let wires = g.W.Network.wire c.args.network.now in
    let wires_after = g.W.Network.wire c.listen_and_tend.new.network in
    let (zone_is, default_is) = c.in_ok-ledger.ensures.lent in
    serves_from c.args.settings.now.zone c.args.settings.now.default before wires after wires_after outcome
    (subst₂ (λ z d. IsSound z d before → IsSound z d after) zone_is default_is (c.listen_and_tend.ensures.sound kept))
    (subst₂ (λ z d. IsSound z d before → Serves (callers c.args.permits g.W.Network.peers) (out (book_in z d before.now) wires) (out (book_in z d after.now) wires_after) outcome) zone_is default_is (c.listen_and_tend.ensures.serves kept))
    (image_at g.S.Start) (c.in_ok-ledger.ensures.rows opened (c.listen_and_tend.ensures.kept kept))

pub returns-clause-made : goal.returns-clause-made
returns-clause-made g c create kept =
    let before = file_state c.in_ok-ledger.ledger.connection in
    let after = file_state c.listen_and_tend.result.ledger.connection in
    let outcome = c.listen_and_tend.result.outcome in
    let wires = g.W.Network.wire c.args.network.now in
    let wires_after = g.W.Network.wire c.listen_and_tend.new.network in
    let (zone_is, default_is) = c.in_ok-ledger.ensures.lent in
    serves_from_nothing c.args.settings.now.zone c.args.settings.now.default before wires after wires_after outcome
    (subst₂ (λ z d. IsSound z d before → IsSound z d after) zone_is default_is (c.listen_and_tend.ensures.sound kept))
    (subst₂ (λ z d. IsSound z d before → Serves (callers c.args.permits g.W.Network.peers) (out (book_in z d before.now) wires) (out (book_in z d after.now) wires_after) outcome) zone_is default_is (c.listen_and_tend.ensures.serves kept))
    (image_at g.S.Start) (c.in_ok-ledger.ensures.made create (c.listen_and_tend.ensures.kept kept))

pub returns-clause-remembered : goal.returns-clause-remembered
returns-clause-remembered g c opened kept D H came legal in_range keeps =
    let zone = c.args.settings.now.zone in
    let default = c.args.settings.now.default in
    let book = grown zone default (remembered (day_of zone) D H) came in
    let (_, _, served) = returns-clause-begun g c opened kept book keeps in (
      served,
      answers_as_whole c.late_requests_touch_no_later_day.ensures.about c.one_more_arrival.ensures.arrived c.one_more_arrival.ensures.again c.built_is_legal.ensures
          zone default D H came legal in_range keeps.stored.legal.legal _ _ _ refl served.1.served,
    )
