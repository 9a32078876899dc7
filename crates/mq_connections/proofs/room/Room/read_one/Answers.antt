use Rattle.std.proofs.Common.{◌≡◌, ◌∙◌, None, Some, Err, refl, rules}
use Rattle.std.specs.BTreeMap.{get}
use Rattle.std.specs.Ordering.{nat_cmp}
use Rattle.mq_server.specs.declared.fault.ServeFault.TheVariants as ends
use Rattle.mq_connections.specs.Sessions.{Outside, held}
use Rattle.mq_connections.proofs.Maps.{held_beside, held_here, held_now, same_map}
use Rattle.mq_connections.proofs.Gaining.{gains_none}
use Rattle.mq_connections.proofs.Giving.{closed_works}
use Rattle.mq_connections.proofs.Standing.{TurnOf, goes_last, goes_open, rewired, turn_closed}
use Rattle.mq_connections.proofs.room.Room.read_one.Goals as goal

-- no such connection is open
pub returns-in_default : goal.returns-in_default
returns-in_default g c = record {
  goes = λ who old book told legal start.
      let was = c.args.self.now.opened in
      let now = c.get_mut.follows.lender-at-none in
      let o : Outside = record { book = book; told = told; wires = g.N.Network.wire c.args.network.now } in
      rewired old o o.wires c.args.self.now.last (held was) (held now) None (λ n. refl) (same_map was now c.get_mut.follows.holds-at-none) start;
}

-- its reading failed
pub returns-in-Ended : goal.returns-in-Ended
returns-in-Ended g c = record {
  goes = λ who old book told legal start.
      let e = c.read_turn.ensures in
      let p = c.read_turn.result in
      let was = c.args.self.now.opened in
      let turned = c.read_turn.new.self in
      let now = c.get_mut.follows.lender turned in
      let number = c.args.number in
      let last = c.args.self.now.last in
      let wires = g.N.Network.wire c.close.new.network in
      let o : Outside = record { book = book; told = told; wires = g.N.Network.wire c.args.network.now } in
      let mid : Outside = record { book = book; told = told; wires = g.N.Network.wire c.read_turn.new.network } in
      let after : Outside = record { book = book; told = told; wires = wires } in
      let found : Some c.in-Some.«open».now ≡ get nat_cmp was number = search rules in
      let here = held_here was number c.in-Some.«open».now found in
      let turn : TurnOf who o mid number p c.in-Some.«open».now.connection turned.connection = record { zone = refl; default = refl; legal = legal; turn = e.turns book told legal; others_same = e.others; gains = gains_none book.history } in
      let still = held c.close.new.self.opened in
      let updates = (c.get_mut.follows.holds turned).3 (search rules) in
      let closes = c.close.ensures.closes in
      let offers = closes.offers turned.connection (held_now was now number (Some turned) updates) in
      goes_last old after last c.close.new.self.last still None c.close.ensures.last
      (closed_works old o after number last p c.in-Some.«open».now.connection offers.now (held was) still c.in-Ended.end start here
      (turn_closed o mid wires number p c.in-Some.«open».now.connection turned.connection turn offers (λ n not. (closes.others n not).1)) c.more_exchanges.ensures.more c.in-Ended.is e.works
      (λ n not. (closes.others n not).0 ∙ held_beside was now number (Some turned) updates n not) closes.gone offers.offered);
}

-- something was read, or nothing is there
pub returns-in_default-read_turn : goal.returns-in_default-read_turn
returns-in_default-read_turn g c = record {
  goes = λ who old book told legal start.
      let e = c.read_turn.ensures in
      let was = c.args.self.now.opened in
      let turned = c.read_turn.new.self in
      let now = c.get_mut.follows.lender turned in
      let number = c.args.number in
      let last = c.args.self.now.last in
      let o : Outside = record { book = book; told = told; wires = g.N.Network.wire c.args.network.now } in
      let mid : Outside = record { book = book; told = told; wires = g.N.Network.wire c.read_turn.new.network } in
      let found : Some c.in-Some.«open».now ≡ get nat_cmp was number = search rules in
      let turn : TurnOf who o mid number c.read_turn.result c.in-Some.«open».now.connection turned.connection = record { zone = refl; default = refl; legal = legal; turn = e.turns book told legal; others_same = e.others; gains = gains_none book.history } in
      let updates = (c.get_mut.follows.holds turned).3 (search rules) in
      goes_open old o mid number last c.read_turn.result c.in-Some.«open».now.connection turned.connection (held was) start (held_here was number c.in-Some.«open».now found) turn c.more_exchanges.ensures.more (held now)
      e.works (λ is. c.in_default-read_turn.not-Ended (Err ends.Memory) is) e.stays (held_beside was now number (Some turned) updates) (held_now was now number (Some turned) updates);
}
