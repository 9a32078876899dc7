use Rattle.std.proofs.Common.{◌≡◌, ◌∙◌, sym, subst}
use Rattle.sqlite.specs.Held.{state}
use Rattle.sqlite.specs.Steps.{over_memory}
use Rattle.mq_chore.specs.Choring.{HasCome}
use Rattle.mq_ledger.specs.Legal.{Book}
use Rattle.mq_store.specs.Soundness.{book_in}
use Rattle.mq_store.proofs.Beside.{same_book}
use Rattle.mq_nights.specs.Nights.{FitsNight, HasRenewed, IsUnderWay}
use Rattle.mq_nights.proofs.Comes.{come_on, comes_on, due_now, if_three, none_came, none_there, there}
use Rattle.mq_nights.proofs.evening.Evening.go_on.Goals as goal

pub returns-in-Ok-clause-fits : goal.returns-in-Ok-clause-fits
returns-in-Ok-clause-fits g c = λ kept sound f.
    let l = c.args.ledger.now in
    let k = c.renew.new.ledger in
    let r = c.in-Some.renewal in
    let m = c.renew.new.renewal in
    let e = c.renew.ensures in
    let more = c.more_deliveries.ensures.more in
    let fresh = g.P.Parts.is_fresh in
    let shows = g.C.Moments.shows in
    let keep = g.K.NightTerms.keep in
    let begun = g.K.NightTerms.begun in
    let now : Book = book_in l.zone l.default (state g.S.Store l.connection).now in
    let later : Book = book_in k.zone k.default (state g.S.Store k.connection).now in
    let same : later ≡ now = same_book l.zone k.zone l.default k.default (state g.S.Store l.connection).now (state g.S.Store k.connection).now e.old_lent.0 e.old_lent.1 (e.old_same kept) in
    let made = state g.N.Store m.made.connection in
    let scratch = state over_memory m.scratch.connection in (
      f.fitted.0,
      subst (λ b. HasCome begun b) (sym same) (come_on more begun f.since now f.legal f.fitted.1 f.come),
      comes_on c.arrivals_leave_what_was_taken_over.ensures.arrivals more fresh (IsUnderWay later m.day m.reached made scratch) shows keep begun f.since now later
          r.made.zone m.made.zone r.made.default m.made.default r.day m.day r.reached (state g.N.Store r.made.connection) (state over_memory r.scratch.connection)
          f.legal f.come same e.lent.0 e.lent.1 e.lent.2 (c.in-Ok.ensures.under_way kept sound)
          (there c.args.self.now.renewal r (λ r. FitsNight fresh shows keep begun f.since r.made.zone r.made.default r.day r.reached (state g.N.Store r.made.connection) (state over_memory r.scratch.connection)) c.in-Some.is f.fitted.2),
    )

pub returns-in-Ok-clause-done : goal.returns-in-Ok-clause-done
returns-in-Ok-clause-done g c = λ kept sound f is.
    let l = c.args.ledger.now in
    let k = c.renew.new.ledger in
    let r = c.in-Some.renewal in
    let m = c.renew.new.renewal in
    let e = c.renew.ensures in
    let fresh = g.P.Parts.is_fresh in
    let shows = g.C.Moments.shows in
    let keep = g.K.NightTerms.keep in
    let begun = g.K.NightTerms.begun in
    let now : Book = book_in l.zone l.default (state g.S.Store l.connection).now in
    let later : Book = book_in k.zone k.default (state g.S.Store k.connection).now in
    let same : later ≡ now = same_book l.zone k.zone l.default k.default (state g.S.Store l.connection).now (state g.S.Store k.connection).now e.old_lent.0 e.old_lent.1 (e.old_same kept) in
    let made = state g.N.Store m.made.connection in
    comes_on c.arrivals_leave_what_was_taken_over.ensures.arrivals c.more_deliveries.ensures.more fresh (HasRenewed later m.day made) shows keep begun f.since now later
    r.made.zone m.made.zone r.made.default m.made.default r.day m.day r.reached (state g.N.Store r.made.connection) (state over_memory r.scratch.connection)
    f.legal f.come same e.lent.0 e.lent.1 e.lent.2 (c.in-Ok.ensures.through kept sound (c.piece_of.ensures is))
    (there c.args.self.now.renewal r (λ r. FitsNight fresh shows keep begun f.since r.made.zone r.made.default r.day r.reached (state g.N.Store r.made.connection) (state over_memory r.scratch.connection)) c.in-Some.is f.fitted.2)

-- a renewal was given up
pub returns-in-Err-clause-fits : goal.returns-in-Err-clause-fits
returns-in-Err-clause-fits g c = λ kept sound f.
    let l = c.args.ledger.now in
    let k = c.renew.new.ledger in
    let e = c.renew.ensures in
    let begun = g.K.NightTerms.begun in
    let now : Book = book_in l.zone l.default (state g.S.Store l.connection).now in
    let later : Book = book_in k.zone k.default (state g.S.Store k.connection).now in
    let same : later ≡ now = same_book l.zone k.zone l.default k.default (state g.S.Store l.connection).now (state g.S.Store k.connection).now e.old_lent.0 e.old_lent.1 (e.old_same kept) in (
      c.give_up.ensures.keep ∙ f.fitted.0,
      subst (λ b. HasCome begun b) (sym same) (come_on c.more_deliveries.ensures.more begun f.since now f.legal f.fitted.1 f.come),
      none_there c.give_up.new.self.renewal (λ r. FitsNight g.P.Parts.is_fresh g.C.Moments.shows g.K.NightTerms.keep begun later r.made.zone r.made.default r.day r.reached (state g.N.Store r.made.connection) (state over_memory r.scratch.connection)) c.give_up.ensures.gone,
    )

-- days were looked for
pub returns-in_default-clause-fits : goal.returns-in_default-clause-fits
returns-in_default-clause-fits g c = λ kept sound f.
    let l = c.args.ledger.now in
    let k = c.look.new.ledger in
    let e = c.look.ensures in
    let shows = g.C.Moments.shows in
    let keep = g.K.NightTerms.keep in
    let begun = g.K.NightTerms.begun in
    let now : Book = book_in l.zone l.default (state g.S.Store l.connection).now in
    let later : Book = book_in k.zone k.default (state g.S.Store k.connection).now in
    let same : later ≡ now = same_book l.zone k.zone l.default k.default (state g.S.Store l.connection).now (state g.S.Store k.connection).now e.old_lent.0 e.old_lent.1 (e.old_same kept) in
    let before : HasCome begun now = come_on c.more_deliveries.ensures.more begun f.since now f.legal f.fitted.1 f.come in
    let since : HasCome now later = subst (λ b. HasCome now b) (sym same) (none_came c.more_deliveries.ensures.none now sound.legal) in (
      e.keep ∙ f.fitted.0,
      subst (λ b. HasCome begun b) (sym same) before,
      if_three c.look.new.self.renewal _ _ _ _
          (λ r lent found under_way. (
            lent.0,
            lent.1,
            due_now shows keep c.args.self.now.lookout.keep r.day begun now later f.fitted.0 before since found,
            λ fresh. under_way fresh later.history,
          ))
          e.lent (e.due kept sound) e.begun,
    )
