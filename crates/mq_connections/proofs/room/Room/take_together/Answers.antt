use Rattle.std.proofs.Common.{None, refl, sym, ◌∙◌}
use Rattle.mq_connections.specs.Asking.{Left, book_with}
use Rattle.mq_connections.specs.Sessions.{held}
use Rattle.mq_connections.proofs.Choring.{goes_alongside, grown_of}
use Rattle.mq_connections.specs.Gained.{callers}
use Rattle.mq_connections.proofs.Gaining.{may_each_come}
use Rattle.mq_connections.proofs.Giving.{told_still, untold}
use Rattle.mq_connections.proofs.room.Room.take_together.Goals as goal

-- there is one alone, or none
pub returns-then-len-lt2-clause-grows : goal.returns-then-len-lt2-clause-grows
returns-then-len-lt2-clause-grows g c = λ k s. c.more_deliveries.ensures.none (g.L.Ledger.book c.args.ledger.now) (g.met.L.Ledger.sound_is_legal c.args.ledger.now s)

-- they were taken
pub returns-in-Ok-clause-grows : goal.returns-in-Ok-clause-grows
returns-in-Ok-clause-grows g c = λ k s.
    let e = rw c.deref.ensures.value at c.in-Ok.ensures in
    let b = g.L.Ledger.book c.args.ledger.now in
    grown_of b (g.L.Ledger.book c.apply_all_of.new.self) (record { came = c.args.asked.requests.items; zone = e.same_zone; default = e.same_default; history = e.history k s })

pub returns-in-Ok-clause-goes : goal.returns-in-Ok-clause-goes
returns-in-Ok-clause-goes g c = λ k s old wires start.
    let e = rw c.deref.ensures.value at c.in-Ok.ensures in
    let b = g.L.Ledger.book c.args.ledger.now in
    let now = g.L.Ledger.book c.apply_all_of.new.self in
    let rs = c.args.asked.requests.items in
    let last = c.args.self.now.last in
    let was = held c.args.self.now.opened in
    let who = callers c.args.permits g.N.Network.peers in
    let left : Left who old wires last was c.deref-in-Ok.result.now c.deref-in-Ok-2.result.now (book_with b rs) = record {
      book = b;
      arrivals = rs;
      legal = g.met.L.Ledger.sound_is_legal c.args.ledger.now s;
      ranged = c.requires.asked.1;
      stand = rw c.deref-in-Ok.ensures.value c.requires.asked.0;
      may = rw c.deref-in-Ok.ensures.value (may_each_come c.args.permits g.N.Network.peers was c.args.asked.numbers.items c.args.asked.peers.items rs c.requires.peers c.requires.asked.0 e.allowed);
      replies = c.deref-in-Ok-2.ensures.value ∙ e.replies k s;
      goes = untold old b (g.L.Ledger.told c.args.ledger.now) wires last was start;
      ends = refl;
    } in
    goes_alongside old (book_with b rs) now None (g.L.Ledger.told c.apply_all_of.new.self) wires c.give_all.new.self.last (held c.give_all.new.self.opened) None e.same_zone e.same_default (e.history k s) e.untold
    (c.give_all.ensures.goes who old wires (book_with b rs) left)

-- they weren't
pub returns-clause-goes : goal.returns-clause-goes
returns-clause-goes g c = λ k s old wires start.
    let e = c.in-Err.ensures in
    let b = g.L.Ledger.book c.args.ledger.now in
    let now = g.L.Ledger.book c.apply_all_of.new.self in
    let t = g.L.Ledger.told c.args.ledger.now in
    let u = g.L.Ledger.told c.apply_all_of.new.self in
    let last = c.args.self.now.last in
    let was = held c.args.self.now.opened in
    goes_alongside old b now u u wires last was None e.same_zone e.same_default (e.fault k s) refl (told_still old b t u wires last was e.told start)
