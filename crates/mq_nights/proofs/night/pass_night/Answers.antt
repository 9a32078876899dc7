use Rattle.std.proofs.Common.{◌∙◌, None, refl, subst}
use Rattle.sqlite.specs.Held.{state}
use Rattle.mq_ledger.specs.Legal.{Book}
use Rattle.mq_store.specs.Soundness.{book_in}
use Rattle.mq_connections.specs.Sessions.{Outside}
use Rattle.mq_connections.specs.declared.fault.RoomFault.TheVariants.{Store}
use Rattle.mq_nights.specs.Nights.{WasDue}
use Rattle.mq_nights.proofs.Comes.{there}
use Rattle.mq_nights.proofs.Ends.{ends_as, night_on, remembered_by}
use Rattle.mq_nights.proofs.night.pass_night.Goals as goal

-- it ended as its serving did
pub returns-clause-serves : goal.returns-clause-serves
returns-clause-serves g c = λ k s.
    let l = c.args.ledger.now in
    let m = c.serve_evening-ended.new.ledger in
    let wire = g.W.Network.wire in
    let before : Outside = record { book = book_in l.zone l.default (state g.S.Store l.connection).now; told = None; wires = wire c.args.network.now } in
    let after : Outside = record { book = book_in m.zone m.default (state g.S.Store m.connection).now; told = None; wires = wire c.serve_evening-ended.new.network } in
    ends_as before after Store c.serve_evening-ended.result.ended Store c.outcome_of.result (c.serve_evening-ended.ensures.serves k s) c.outcome_of.ensures.store.1 c.outcome_of.ensures.store.0

pub returns-clause-due : goal.returns-clause-due
returns-clause-due g c = λ k s.
    let l = c.args.ledger.now in
    let m = c.serve_evening-ended.new.ledger in
    let now : Book = book_in l.zone l.default (state g.S.Store l.connection).now in
    let later : Book = book_in m.zone m.default (state g.S.Store m.connection).now in
    let e = c.serve_evening-ended.ensures in
    night_on c.outcome_of.result _ _ (λ n p.
    subst (λ keep. WasDue g.R.Moments.shows keep n.day now later) c.new-evening.ensures.keep
    (there c.serve_evening-ended.result.renewed n _ p.1 (e.done k s p.0)).2)
    c.outcome_of.ensures.renewed

pub returns-clause-renewed_lent : goal.returns-clause-renewed_lent
returns-clause-renewed_lent g c = λ k s.
    let e = c.serve_evening-ended.ensures in
    night_on c.outcome_of.result _ _ (λ n p.
    let has = there c.serve_evening-ended.result.renewed n _ p.1 (e.done k s p.0) in
    (has.0 ∙ e.lent.0, has.1 ∙ e.lent.1))
    c.outcome_of.ensures.renewed

pub returns-clause-remembered : goal.returns-clause-remembered
returns-clause-remembered g c = λ k s.
    let l = c.args.ledger.now in
    let m = c.serve_evening-ended.new.ledger in
    let e = c.serve_evening-ended.ensures in
    night_on c.outcome_of.result _ _ (λ n p fresh.
    let has = there c.serve_evening-ended.result.renewed n _ p.1 (e.done k s p.0) in
    remembered_by l.zone m.zone l.default m.default n.day n.day (state g.S.Store m.connection).now (state g.N.Store n.ledger.connection) e.lent.0 e.lent.1 refl (has.3 fresh))
    c.outcome_of.ensures.renewed

pub returns-clause-crash : goal.returns-clause-crash
returns-clause-crash g c = λ k s.
    let e = c.serve_evening-ended.ensures in
    night_on c.outcome_of.result _ _ (λ n p fresh.
    let has = there c.serve_evening-ended.result.renewed n _ p.1 (e.done k s p.0) in
    (has.3 fresh).whole)
    c.outcome_of.ensures.renewed
