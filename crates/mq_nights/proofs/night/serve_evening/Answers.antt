use Rattle.std.proofs.Common.{◌≡◌, sym, subst}
use Rattle.sqlite.specs.Held.{state}
use Rattle.sqlite.specs.Steps.{over_memory}
use Rattle.mq_chore.specs.Choring.{HasCome}
use Rattle.mq_ledger.specs.Legal.{Book}
use Rattle.mq_store.specs.Soundness.{book_in}
use Rattle.mq_connections.proofs.Choring.{fitted_now}
use Rattle.mq_nights.specs.Nights.{EndsNight, FitsNight, HasRenewed, WasDue}
use Rattle.mq_nights.proofs.Comes.{none_came, none_there}
use Rattle.mq_nights.proofs.Ends.{taken}
use Rattle.mq_nights.proofs.night.serve_evening.Goals as goal

pub returns-clause-done : goal.returns-clause-done
returns-clause-done g c = λ k s is.
    let l = c.args.ledger.now in
    let m = c.serve_connections-ended.new.ledger in
    let e = c.serve_connections-ended.ensures in
    let none = c.more_deliveries.ensures.none in
    let fresh = g.P.Parts.is_fresh in
    let shows = g.R.Moments.shows in
    let keep = g.K.NightTerms.keep in
    let begun = g.K.NightTerms.begun in
    let now : Book = book_in l.zone l.default (state g.S.Store l.connection).now in
    let later : Book = book_in m.zone m.default (state g.S.Store m.connection).now in
    let fitted = fitted_now none _ now s.legal (
      c.requires.keep,
      subst (λ b. HasCome b now) (sym c.requires.begun) (none_came none now s.legal),
      none_there c.args.evening.renewal (λ r. FitsNight fresh shows keep begun now r.made.zone r.made.default r.day r.reached (state g.N.Store r.made.connection) (state over_memory r.scratch.connection)) c.requires.nothing,
    ) in
    taken c.serve_connections-ended.new.chore.chore.evening.renewal c.into_renewed.result
    (λ r. EndsNight fresh shows keep begun later r.made.zone r.made.default r.day (state g.N.Store r.made.connection))
    (λ r n. (n.ledger ≡ r.made) × (n.day ≡ r.day))
    (λ n. EndsNight fresh shows keep begun later n.ledger.zone n.ledger.default n.day (state g.N.Store n.ledger.connection))
    (e.done k s fitted is) c.into_renewed.ensures.made
    (λ r n d j. (
      subst (λ x. x.zone ≡ later.zone) (sym j.0) d.0,
      subst (λ x. x.default ≡ later.default) (sym j.0) d.1,
      subst (λ day. WasDue shows keep day begun later) (sym j.1) d.2,
      λ is. subst (λ x. HasRenewed later n.day (state g.N.Store x.connection)) (sym j.0) (subst (λ day. HasRenewed later day (state g.N.Store r.made.connection)) (sym j.1) (d.3 is)),
    ))
