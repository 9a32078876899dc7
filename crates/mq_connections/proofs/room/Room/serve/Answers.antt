use Rattle.std.proofs.Common.{◌∙◌, Ok, Err, refl, sym, ap}
use Rattle.std.proofs.lemmas.Result.{err_from_is_err_and}
use Rattle.mq_lemmas.proofs.Options.{ok_not}
use Rattle.mq_ledger.proofs.Leaving.{left_both}
use Rattle.mq_connections.specs.declared.fault.RoomFault.TheVariants as faults
use Rattle.mq_connections.specs.Sessions.{Outside, held}
use Rattle.mq_connections.proofs.Standing.{goes_as, goes_on, goes_so}
use Rattle.mq_connections.proofs.room.Room.serve.Goals as goal

pub loop-number-init : goal.loop-number-init
loop-number-init g c = let e = c.serve_together.ensures in record { leaves = e.leaves; grows = e.grows; goes = e.goes }

pub loop-number-preserved : goal.loop-number-preserved
loop-number-preserved g c =
    let i = c.loop-number.invariant in
    let e = c.in_ok-serve_one.ensures in record {
      leaves = left_both i.leaves e.leaves;
      grows = λ k s.
          let kept = e.leaves.kept k in
          let sound = i.leaves.sound kept s in
          c.more_deliveries.ensures.more (g.L.Ledger.book c.args.ledger.now) (g.L.Ledger.book c.loop-number.ledger) (g.L.Ledger.book c.serve_one.new.ledger)
          (g.met.L.Ledger.sound_is_legal c.loop-number.ledger sound) i.leaves.same_zone i.leaves.same_default (i.grows kept s) (e.grows k sound);
      goes = λ k s old start.
          let after : Outside = record { book = g.L.Ledger.book c.serve_one.new.ledger; told = g.L.Ledger.told c.serve_one.new.ledger; wires = g.N.Network.wire c.serve_one.new.network } in
          goes_on old after c.serve_one.new.self.last (held c.serve_one.new.self.opened) faults.Store _ tt refl (e.goes k (i.leaves.sound (e.leaves.kept k) s) old (i.goes (e.leaves.kept k) s old start));
    }

pub returns-in_err-serve_one-clause-goes : goal.returns-in_err-serve_one-clause-goes
returns-in_err-serve_one-clause-goes g c = λ k s old start.
    let i = c.loop-number.invariant in
    let e = c.in_err-serve_one.ensures in
    let after : Outside = record { book = g.L.Ledger.book c.serve_one.new.ledger; told = g.L.Ledger.told c.serve_one.new.ledger; wires = g.N.Network.wire c.serve_one.new.network } in
    let r = c.from_residual.result in
    let p = err_from_is_err_and r c.from_residual.ensures.1 in
    goes_as old after c.serve_one.new.self.last (held c.serve_one.new.self.opened) faults.Store _ r (sym (p.1 ∙ ap Err p.2)) (e.goes k (i.leaves.sound (e.leaves.kept k) s) old (i.goes (e.leaves.kept k) s old start))

pub returns-clause-goes : goal.returns-clause-goes
returns-clause-goes g c = λ k s old start.
    let room = c.loop-number.self in
    let after : Outside = record { book = g.L.Ledger.book c.loop-number.ledger; told = g.L.Ledger.told c.loop-number.ledger; wires = g.N.Network.wire c.loop-number.network } in
    goes_so old after room.last (held room.opened) faults.Store (Ok tt) (ok_not tt faults.Store) (c.loop-number.invariant.goes k s old start)

pub returns-in_err-serve_one-clause-grows : goal.returns-in_err-serve_one-clause-grows
returns-in_err-serve_one-clause-grows g c = λ k s.
    let i = c.loop-number.invariant in
    let e = c.in_err-serve_one.ensures in
    let kept = e.leaves.kept k in
    let sound = i.leaves.sound kept s in
    c.more_deliveries.ensures.more (g.L.Ledger.book c.args.ledger.now) (g.L.Ledger.book c.loop-number.ledger) (g.L.Ledger.book c.serve_one.new.ledger)
    (g.met.L.Ledger.sound_is_legal c.loop-number.ledger sound) i.leaves.same_zone i.leaves.same_default (i.grows kept s) (e.grows k sound)
