use Rattle.std.proofs.Common.{◌≡◌, ◌∙◌, None, Some, Ok, Err, refl, sym, rules}
use Rattle.std.specs.BTreeMap.{get}
use Rattle.std.specs.Ordering.{nat_cmp}
use Rattle.mq_lemmas.proofs.Options.{ok_not}
use Rattle.mq_server.specs.declared.connection.Progress.TheVariants.{Ended}
use Rattle.mq_server.specs.declared.fault.ServeFault.TheVariants as ends
use Rattle.mq_connections.specs.declared.fault.RoomFault.TheVariants as faults
use Rattle.mq_connections.specs.Sessions.{Outside, held}
use Rattle.mq_connections.proofs.Maps.{held_beside, held_here, held_now, same_map}
use Rattle.mq_server.specs.Life.{deliveries}
use Rattle.mq_connections.specs.Gained.{callers}
use Rattle.mq_connections.proofs.Gaining.{gains_so}
use Rattle.mq_connections.proofs.Standing.{nothing_grown, TurnOf, closed_turn, goes_last, goes_open, goes_so, goes_stop_last, rewired, turn_closed}
use Rattle.mq_connections.proofs.Turning.{answered_room, answered_works, waits_room, waits_works}
use Rattle.mq_connections.proofs.room.Room.serve_one.Goals as goal

-- the network knows no such connection
pub returns-in_default-clause-goes : goal.returns-in_default-clause-goes
returns-in_default-clause-goes g c = λ k s old start.
    let o : Outside = record { book = g.L.Ledger.book c.args.ledger.now; told = g.L.Ledger.told c.args.ledger.now; wires = g.N.Network.wire c.args.network.now } in
    goes_so old o c.args.self.now.last (held c.args.self.now.opened) faults.Store (Ok tt) (ok_not tt faults.Store) start

-- it isn't open
pub returns-in_default-get_mut-clause-goes : goal.returns-in_default-get_mut-clause-goes
returns-in_default-get_mut-clause-goes g c = λ k s old start.
    let was = c.args.self.now.opened in
    let now = c.get_mut.follows.lender-at-none in
    let o : Outside = record { book = g.L.Ledger.book c.args.ledger.now; told = g.L.Ledger.told c.args.ledger.now; wires = g.N.Network.wire c.args.network.now } in
    let last = c.args.self.now.last in
    goes_so old o last (held now) faults.Store (Ok tt) (ok_not tt faults.Store) (rewired old o o.wires last (held was) (held now) None (λ n. refl) (same_map was now c.get_mut.follows.holds-at-none) start)

-- it waits for its peer
pub returns-in-Waits-clause-goes : goal.returns-in-Waits-clause-goes
returns-in-Waits-clause-goes g c = λ k s old start.
    let e = c.give_turns.ensures in
    let was = c.args.self.now.opened in
    let turned = c.give_turns.new.opened in
    let now = c.get_mut.follows.lender turned in
    let number = c.args.number in
    let last = c.args.self.now.last in
    let o : Outside = record { book = g.L.Ledger.book c.args.ledger.now; told = g.L.Ledger.told c.args.ledger.now; wires = g.N.Network.wire c.args.network.now } in
    let mid : Outside = record { book = g.L.Ledger.book c.give_turns.new.ledger; told = g.L.Ledger.told c.give_turns.new.ledger; wires = g.N.Network.wire c.give_turns.new.network } in
    let found : Some c.in-Some-get_mut.«open».now ≡ get nat_cmp was number = search rules in
    let turn : TurnOf (callers c.args.permits g.N.Network.peers) o mid number c.give_turns.result c.in-Some-get_mut.«open».now.connection turned.connection =
    record { zone = e.leaves.same_zone; default = e.leaves.same_default; legal = g.met.L.Ledger.sound_is_legal c.args.ledger.now s; turn = e.turns k s; others_same = e.others; gains = gains_so (λ r may. (c.in-Some.peer, c.in-Some.ensures, may)) _ _ (e.gains k s) } in
    let works = λ (is : c.give_turns.result ≡ Ended (Err ends.Store)). waits_works (sym c.in-Waits.is ∙ is) in
    let updates = (c.get_mut.follows.holds turned).3 (search rules) in
    goes_so old mid last (held now) faults.Store (Ok tt) (ok_not tt faults.Store)
    (goes_open old o mid number last c.give_turns.result c.in-Some-get_mut.«open».now.connection turned.connection (held was) start (held_here was number c.in-Some-get_mut.«open».now found) turn c.more_exchanges.ensures.more (held now)
    works (λ is. waits_room (sym c.in-Waits.is ∙ is)) (λ not. e.works not works) (held_beside was now number (Some turned) updates) (held_now was now number (Some turned) updates))

-- it may have more
pub returns-in-Answered-clause-goes : goal.returns-in-Answered-clause-goes
returns-in-Answered-clause-goes g c = λ k s old start.
    let e = c.give_turns.ensures in
    let was = c.args.self.now.opened in
    let turned = c.give_turns.new.opened in
    let now = c.get_mut.follows.lender turned in
    let number = c.args.number in
    let last = c.args.self.now.last in
    let o : Outside = record { book = g.L.Ledger.book c.args.ledger.now; told = g.L.Ledger.told c.args.ledger.now; wires = g.N.Network.wire c.args.network.now } in
    let mid : Outside = record { book = g.L.Ledger.book c.give_turns.new.ledger; told = g.L.Ledger.told c.give_turns.new.ledger; wires = g.N.Network.wire c.give_turns.new.network } in
    let after : Outside = record { book = mid.book; told = mid.told; wires = g.N.Network.wire c.watch_again.new.network } in
    let found : Some c.in-Some-get_mut.«open».now ≡ get nat_cmp was number = search rules in
    let turn : TurnOf (callers c.args.permits g.N.Network.peers) o mid number c.give_turns.result c.in-Some-get_mut.«open».now.connection turned.connection =
    record { zone = e.leaves.same_zone; default = e.leaves.same_default; legal = g.met.L.Ledger.sound_is_legal c.args.ledger.now s; turn = e.turns k s; others_same = e.others; gains = gains_so (λ r may. (c.in-Some.peer, c.in-Some.ensures, may)) _ _ (e.gains k s) } in
    let works = λ (is : c.give_turns.result ≡ Ended (Err ends.Store)). answered_works (sym c.in-Answered.is ∙ is) in
    let updates = (c.get_mut.follows.holds turned).3 (search rules) in
    let goes = goes_open old o mid number last c.give_turns.result c.in-Some-get_mut.«open».now.connection turned.connection (held was) start (held_here was number c.in-Some-get_mut.«open».now found) turn c.more_exchanges.ensures.more (held now)
    works (λ is. answered_room (sym c.in-Answered.is ∙ is)) (λ not. e.works not works) (held_beside was now number (Some turned) updates) (held_now was now number (Some turned) updates) in
    let still = held c.watch_again.new.self.opened in
    goes_so old after c.watch_again.new.self.last still faults.Store (Ok tt) (ok_not tt faults.Store)
    (goes_last old after last c.watch_again.new.self.last still None c.watch_again.ensures.last (c.watch_again.ensures.goes _ old mid.book mid.told last None goes))

-- it has ended
pub returns-in-Ended-clause-goes : goal.returns-in-Ended-clause-goes
returns-in-Ended-clause-goes g c = λ k s old start.
    let e = c.give_turns.ensures in
    let p = c.give_turns.result in
    let was = c.args.self.now.opened in
    let turned = c.give_turns.new.opened in
    let now = c.get_mut.follows.lender turned in
    let number = c.args.number in
    let last = c.args.self.now.last in
    let wires = g.N.Network.wire c.close.new.network in
    let o : Outside = record { book = g.L.Ledger.book c.args.ledger.now; told = g.L.Ledger.told c.args.ledger.now; wires = g.N.Network.wire c.args.network.now } in
    let mid : Outside = record { book = g.L.Ledger.book c.give_turns.new.ledger; told = g.L.Ledger.told c.give_turns.new.ledger; wires = g.N.Network.wire c.give_turns.new.network } in
    let after : Outside = record { book = mid.book; told = mid.told; wires = wires } in
    let found : Some c.in-Some-get_mut.«open».now ≡ get nat_cmp was number = search rules in
    let here = held_here was number c.in-Some-get_mut.«open».now found in
    let turn : TurnOf (callers c.args.permits g.N.Network.peers) o mid number p c.in-Some-get_mut.«open».now.connection turned.connection =
    record { zone = e.leaves.same_zone; default = e.leaves.same_default; legal = g.met.L.Ledger.sound_is_legal c.args.ledger.now s; turn = e.turns k s; others_same = e.others; gains = gains_so (λ r may. (c.in-Some.peer, c.in-Some.ensures, may)) _ _ (e.gains k s) } in
    let still = held c.close.new.self.opened in
    let updates = (c.get_mut.follows.holds turned).3 (search rules) in
    let closes = c.close.ensures.closes in
    let offers = closes.offers turned.connection (held_now was now number (Some turned) updates) in
    goes_stop_last old after last c.close.new.self.last still faults.Store c.end_of.result c.close.ensures.last
    (closed_turn old o after number last p c.in-Some-get_mut.«open».now.connection offers.now (held was) still faults.Store c.end_of.result c.in-Ended.end start here
    (turn_closed o mid wires number p c.in-Some-get_mut.«open».now.connection turned.connection turn offers (λ n not. (closes.others n not).1)) c.more_exchanges.ensures.more c.in-Ended.is (λ failed. offers.end ∙ e.store failed)
    c.end_of.ensures.ok c.end_of.ensures.store (λ n not. (closes.others n not).0 ∙ held_beside was now number (Some turned) updates n not) closes.gone offers.offered)

pub returns-in_default-clause-grows : goal.returns-in_default-clause-grows
returns-in_default-clause-grows g c = λ k s.
    let o : Outside = record { book = g.L.Ledger.book c.args.ledger.now; told = g.L.Ledger.told c.args.ledger.now; wires = g.N.Network.wire c.args.network.now } in
    nothing_grown o (c.more_exchanges.ensures.none o.book (g.met.L.Ledger.sound_is_legal c.args.ledger.now s))

pub returns-in_default-get_mut-clause-grows : goal.returns-in_default-get_mut-clause-grows
returns-in_default-get_mut-clause-grows g c = λ k s.
    let o : Outside = record { book = g.L.Ledger.book c.args.ledger.now; told = g.L.Ledger.told c.args.ledger.now; wires = g.N.Network.wire c.args.network.now } in
    nothing_grown o (c.more_exchanges.ensures.none o.book (g.met.L.Ledger.sound_is_legal c.args.ledger.now s))

pub returns-in-Waits-clause-grows : goal.returns-in-Waits-clause-grows
returns-in-Waits-clause-grows g c = λ k s. let t = c.give_turns.ensures.turns k s in (deliveries t.exchanges, t.answered.after)

pub returns-in-Answered-clause-grows : goal.returns-in-Answered-clause-grows
returns-in-Answered-clause-grows g c = λ k s. let t = c.give_turns.ensures.turns k s in (deliveries t.exchanges, t.answered.after)

pub returns-in-Ended-clause-grows : goal.returns-in-Ended-clause-grows
returns-in-Ended-clause-grows g c = λ k s. let t = c.give_turns.ensures.turns k s in (deliveries t.exchanges, t.answered.after)
