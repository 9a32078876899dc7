use Rattle.std.proofs.Common.{◌∙◌, None, Ok, Err, refl, sym, ap}
use Rattle.std.proofs.lemmas.Result.{err_from_is_err_and}
use Rattle.mq_lemmas.proofs.Options.{ok_not}
use Rattle.mq_ledger.proofs.Leaving.{left_alone, left_both}
use Rattle.mq_connections.specs.declared.fault.RoomFault.TheVariants as faults
use Rattle.mq_connections.specs.Sessions.{Outside, held}
use Rattle.mq_connections.specs.declared.serving.ServingEnd.TheVariants as ends
use Rattle.mq_connections.proofs.Choring.{fitted_now, fitted_on, goes_alongside, goes_at}
use Rattle.mq_connections.proofs.Standing.{goes_as, goes_last, goes_on, goes_so, not_store, rewired}
use Rattle.mq_connections.proofs.serving.serve_rounds.Goals as goal

pub loop-round-init : goal.loop-round-init
loop-round-init g c = record {
  leaves = left_alone;
  fits = λ k s f. f;
  goes = λ k s old start. start;
}

pub loop-round-preserved : goal.loop-round-preserved
loop-round-preserved g c =
    let i = c.loop-round.invariant in
    let e = c.in_ok-serve.ensures in
    let o = c.go_on.ensures in record {
      leaves = left_both i.leaves (left_both e.leaves o.leaves);
      fits = λ k s f.
          let kept = o.leaves.kept k in
          let before = e.leaves.kept kept in
          let sound = i.leaves.sound before s in
          let mid = e.leaves.sound kept sound in
          fitted_now c.more_deliveries.ensures.none (g.K.Chore.fits c.go_on.new.self) (g.L.Ledger.book c.go_on.new.ledger) (g.met.L.Ledger.sound_is_legal c.go_on.new.ledger (o.leaves.sound k mid))
          (o.fits k mid (fitted_on c.more_deliveries.ensures.more (g.K.Chore.fits c.loop-round.chore) (g.L.Ledger.book c.loop-round.ledger) (g.L.Ledger.book c.serve.new.ledger) (g.met.L.Ledger.sound_is_legal c.loop-round.ledger sound)
          e.leaves.same_zone e.leaves.same_default (e.grows kept sound) (i.fits before s f)));
      goes = λ k s old start.
          let kept = o.leaves.kept k in
          let before = e.leaves.kept kept in
          let sound = i.leaves.sound before s in
          let wire = g.N.Network.wire in
          let accepted : Outside = record { book = g.L.Ledger.book c.loop-round.ledger; told = g.L.Ledger.told c.loop-round.ledger; wires = wire c.accept.new.network } in
          let after : Outside = record { book = g.L.Ledger.book c.serve.new.ledger; told = g.L.Ledger.told c.serve.new.ledger; wires = wire c.serve.new.network } in
          let now : Outside = record { book = after.book; told = after.told; wires = wire c.expire.new.network } in
          let room = c.accept.new.self in
          let served = c.serve.new.self in
          let late = c.expire.new.self in
          let goes = rewired old accepted (wire c.wait.new.network) room.last (held room.opened) (held room.opened) None c.wait.ensures (λ n. refl) (c.accept.ensures.goes _ old accepted.book accepted.told (i.goes before s old start)) in
          let done = goes_last old now served.last late.last (held late.opened) None c.expire.ensures.last
          (c.expire.ensures.goes _ old after.book after.told served.last None (goes_on old after served.last (held served.opened) faults.Store _ tt refl (e.goes kept sound old goes))) in
          goes_alongside old after.book (g.L.Ledger.book c.go_on.new.ledger) after.told (g.L.Ledger.told c.go_on.new.ledger) now.wires late.last (held late.opened) None o.leaves.same_zone o.leaves.same_default (o.history k (e.leaves.sound kept sound)) o.told done;
    }

-- the chore is done
pub returns-in-Done-clause-goes : goal.returns-in-Done-clause-goes
returns-in-Done-clause-goes g c = λ k s old start.
    let i = c.loop-round.invariant in
    let e = c.in_ok-serve.ensures in
    let o = c.go_on.ensures in
    let kept = o.leaves.kept k in
    let before = e.leaves.kept kept in
    let sound = i.leaves.sound before s in
    let wire = g.N.Network.wire in
    let accepted : Outside = record { book = g.L.Ledger.book c.loop-round.ledger; told = g.L.Ledger.told c.loop-round.ledger; wires = wire c.accept.new.network } in
    let after : Outside = record { book = g.L.Ledger.book c.serve.new.ledger; told = g.L.Ledger.told c.serve.new.ledger; wires = wire c.serve.new.network } in
    let now : Outside = record { book = after.book; told = after.told; wires = wire c.expire.new.network } in
    let beside : Outside = record { book = g.L.Ledger.book c.go_on.new.ledger; told = g.L.Ledger.told c.go_on.new.ledger; wires = now.wires } in
    let room = c.accept.new.self in
    let served = c.serve.new.self in
    let late = c.expire.new.self in
    let goes = rewired old accepted (wire c.wait.new.network) room.last (held room.opened) (held room.opened) None c.wait.ensures (λ n. refl) (c.accept.ensures.goes _ old accepted.book accepted.told (i.goes before s old start)) in
    let done = goes_last old now served.last late.last (held late.opened) None c.expire.ensures.last
    (c.expire.ensures.goes _ old after.book after.told served.last None (goes_on old after served.last (held served.opened) faults.Store _ tt refl (e.goes kept sound old goes))) in
    goes_so old beside late.last (held late.opened) faults.Store (Ok ends.Chore) (ok_not ends.Chore faults.Store)
    (goes_alongside old after.book beside.book after.told beside.told now.wires late.last (held late.opened) None o.leaves.same_zone o.leaves.same_default (o.history k (e.leaves.sound kept sound)) o.told done)

-- no further connection is accepted
pub returns-in_err-accept-clause-goes : goal.returns-in_err-accept-clause-goes
returns-in_err-accept-clause-goes g c = λ k s old start.
    let i = c.loop-round.invariant in
    let wire = g.N.Network.wire in
    let accepted : Outside = record { book = g.L.Ledger.book c.loop-round.ledger; told = g.L.Ledger.told c.loop-round.ledger; wires = wire c.accept.new.network } in
    let room = c.accept.new.self in
    let r = c.from_residual.result in
    let p = err_from_is_err_and r c.from_residual.ensures.1 in
    goes_so old accepted room.last (held room.opened) faults.Store r (not_store r p.0 _ p.1 p.2 c.in_err-accept.ensures.fault) (c.accept.ensures.goes _ old accepted.book accepted.told (i.goes k s old start))

-- the system doesn't report connections
pub returns-in-Err-clause-goes : goal.returns-in-Err-clause-goes
returns-in-Err-clause-goes g c = λ k s old start.
    let i = c.loop-round.invariant in
    let wire = g.N.Network.wire in
    let accepted : Outside = record { book = g.L.Ledger.book c.loop-round.ledger; told = g.L.Ledger.told c.loop-round.ledger; wires = wire c.accept.new.network } in
    let waited : Outside = record { book = accepted.book; told = accepted.told; wires = wire c.wait.new.network } in
    let room = c.accept.new.self in
    let fault = c.no_wait.result in
    goes_so old waited room.last (held room.opened) faults.Store (Err fault) (not_store (Err fault) fault fault refl refl c.no_wait.ensures)
    (rewired old accepted waited.wires room.last (held room.opened) (held room.opened) None c.wait.ensures (λ n. refl) (c.accept.ensures.goes _ old accepted.book accepted.told (i.goes k s old start)))

-- the store failed
pub returns-in_err-serve-clause-goes : goal.returns-in_err-serve-clause-goes
returns-in_err-serve-clause-goes g c = λ k s old start.
    let i = c.loop-round.invariant in
    let e = c.in_err-serve.ensures in
    let before = e.leaves.kept k in
    let wire = g.N.Network.wire in
    let accepted : Outside = record { book = g.L.Ledger.book c.loop-round.ledger; told = g.L.Ledger.told c.loop-round.ledger; wires = wire c.accept.new.network } in
    let after : Outside = record { book = g.L.Ledger.book c.serve.new.ledger; told = g.L.Ledger.told c.serve.new.ledger; wires = wire c.serve.new.network } in
    let room = c.accept.new.self in
    let goes = rewired old accepted (wire c.wait.new.network) room.last (held room.opened) (held room.opened) None c.wait.ensures (λ n. refl) (c.accept.ensures.goes _ old accepted.book accepted.told (i.goes before s old start)) in
    let r = c.from_residual-in_err-serve.result in
    let p = err_from_is_err_and r c.from_residual-in_err-serve.ensures.1 in
    goes_as old after c.serve.new.self.last (held c.serve.new.self.opened) faults.Store _ r (sym (p.1 ∙ ap Err p.2))
    (goes_at old after c.serve.new.self.last (held c.serve.new.self.opened) faults.Store c.in_err-serve.field-0.0 (e.goes k (i.leaves.sound before s) old goes))

-- all were accepted, and have ended
pub returns-then-is_empty-clause-goes : goal.returns-then-is_empty-clause-goes
returns-then-is_empty-clause-goes g c = λ k s old start.
    let i = c.loop-round.invariant in
    let wire = g.N.Network.wire in
    let accepted : Outside = record { book = g.L.Ledger.book c.loop-round.ledger; told = g.L.Ledger.told c.loop-round.ledger; wires = wire c.accept.new.network } in
    let room = c.accept.new.self in
    goes_so old accepted room.last (held room.opened) faults.Store (Ok ends.Over) (ok_not ends.Over faults.Store) (c.accept.ensures.goes _ old accepted.book accepted.told (i.goes k s old start))

pub returns-clause-goes : goal.returns-clause-goes
returns-clause-goes g c = λ k s old start.
    let i = c.loop-round.invariant in
    let wire = g.N.Network.wire in
    let now : Outside = record { book = g.L.Ledger.book c.loop-round.ledger; told = g.L.Ledger.told c.loop-round.ledger; wires = wire c.loop-round.network } in
    goes_so old now c.loop-round.room.last (held c.loop-round.room.opened) faults.Store (Err faults.Accept) (not_store (Err faults.Accept) faults.Accept faults.Accept refl refl refl) (i.goes k s old start)

pub returns-in-Done-clause-fits : goal.returns-in-Done-clause-fits
returns-in-Done-clause-fits g c = λ k s f.
    let i = c.loop-round.invariant in
    let e = c.in_ok-serve.ensures in
    let o = c.go_on.ensures in
    let kept = o.leaves.kept k in
    let before = e.leaves.kept kept in
    let sound = i.leaves.sound before s in
    let mid = e.leaves.sound kept sound in
    fitted_now c.more_deliveries.ensures.none (g.K.Chore.fits c.go_on.new.self) (g.L.Ledger.book c.go_on.new.ledger) (g.met.L.Ledger.sound_is_legal c.go_on.new.ledger (o.leaves.sound k mid))
    (o.fits k mid (fitted_on c.more_deliveries.ensures.more (g.K.Chore.fits c.loop-round.chore) (g.L.Ledger.book c.loop-round.ledger) (g.L.Ledger.book c.serve.new.ledger) (g.met.L.Ledger.sound_is_legal c.loop-round.ledger sound)
    e.leaves.same_zone e.leaves.same_default (e.grows kept sound) (i.fits before s f)))

pub returns-in-Done-clause-done : goal.returns-in-Done-clause-done
returns-in-Done-clause-done g c = λ k s f is.
    let i = c.loop-round.invariant in
    let e = c.in_ok-serve.ensures in
    let o = c.go_on.ensures in
    let kept = o.leaves.kept k in
    let before = e.leaves.kept kept in
    let sound = i.leaves.sound before s in
    o.done k (e.leaves.sound kept sound) (fitted_on c.more_deliveries.ensures.more (g.K.Chore.fits c.loop-round.chore) (g.L.Ledger.book c.loop-round.ledger) (g.L.Ledger.book c.serve.new.ledger) (g.met.L.Ledger.sound_is_legal c.loop-round.ledger sound)
    e.leaves.same_zone e.leaves.same_default (e.grows kept sound) (i.fits before s f)) c.in-Done.is

pub returns-in_err-serve-clause-fits : goal.returns-in_err-serve-clause-fits
returns-in_err-serve-clause-fits g c = λ k s f.
    let i = c.loop-round.invariant in
    let e = c.in_err-serve.ensures in
    let before = e.leaves.kept k in
    let sound = i.leaves.sound before s in
    fitted_on c.more_deliveries.ensures.more (g.K.Chore.fits c.loop-round.chore) (g.L.Ledger.book c.loop-round.ledger) (g.L.Ledger.book c.serve.new.ledger) (g.met.L.Ledger.sound_is_legal c.loop-round.ledger sound)
    e.leaves.same_zone e.leaves.same_default (e.grows k sound) (i.fits before s f)
