use Rattle.std.proofs.Common.{◌≡◌, refl, rules, sym}
use Rattle.mq_connections.specs.Sessions.{Outside, held}
use Rattle.mq_connections.proofs.Maps.{closes_one, same_held}
use Rattle.mq_connections.proofs.Standing.{closes, rewired}
use Rattle.mq_connections.proofs.room.Room.close_all.Goals as goal

pub loop-number-init : goal.loop-number-init
loop-number-init g c = record { last = refl; over = λ is. is; goes = λ who old book told last failed start. start }

pub loop-number-preserved : goal.loop-number-preserved
loop-number-preserved g c =
    let i = c.loop-number.invariant in record {
      last = i.last;
      over = λ is. c.close.ensures.over (c.offer.ensures.over (i.over is));
      goes = λ who old book told last failed start.
          let wire = g.N.Network.wire in
          let was = c.loop-number.self.opened in
          let now = c.pop_first.new.self in
          let o : Outside = record { book = book; told = told; wires = wire c.loop-number.network } in
          closes old o (wire c.close.new.self) _ last (held was) (held now) failed
          (closes_one was now _ c.in-Some.left o.wires (wire c.offer.new.network) (wire c.close.new.self) (sym c.in-Some.ensures.value) c.in-Some.ensures.updates c.offer.ensures.others c.offer.ensures.offers c.close.ensures.same) (i.goes who old book told last failed start);
    }

pub returns-clause-goes : goal.returns-clause-goes
returns-clause-goes g c = λ who old book told last failed start.
    let was = c.loop-number.self.opened in
    let now = c.pop_first.new.self in
    let o : Outside = record { book = book; told = told; wires = g.N.Network.wire c.loop-number.network } in
    let same : now.entries ≡ was.entries = search rules in
    rewired old o o.wires last (held was) (held now) failed (λ n. refl) (same_held was now same) (c.loop-number.invariant.goes who old book told last failed start)
