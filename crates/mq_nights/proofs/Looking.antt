-- What is seen at a moment is due then.
use Rattle.std.proofs.Common.{◌≡◌, ℕ, Option, Result, Ok, Err, subst}
use Rattle.std.specs.Prelude.{IfOk}
use Rattle.mq_request.specs.Range.{IsMoment}
use Rattle.mq_ledger.specs.Legal.{Book}
use Rattle.mq_ledger.specs.declared.ledger.LedgerFault.{LedgerFault}
use Rattle.mq_nights.specs.declared.due.DueDays.{DueDays}
use Rattle.mq_nights.specs.declared.due.DueDays.TheVariants.{Nothing as NoDay, NoneBefore, Before}
use Rattle.mq_nights.specs.declared.lookout.Sight.{Sight}
use Rattle.mq_nights.specs.declared.lookout.Sight.TheVariants.{Nothing, Before as Sighted}
use Rattle.mq_nights.specs.Due.{IsDue}
use Rattle.mq_nights.specs.Nights.{FindsDue, Looks, Sees}

module _ (shows : ℕ → Type 0) (keep moment : ℕ) (b : Book) (is : IsMoment moment) (shown : shows moment) where
  seen_due : (due : Result DueDays LedgerFault) (before after : Option ℕ) (day : ℕ) → IfOk due (IsDue keep moment b) → Sees moment due before after (Sighted day) → FindsDue shows keep b (Sighted day)
  seen_due (Ok (Before d)) before after day due s =
      let same : Sighted day ≡ Sighted d = s.2 (λ h. s.1 h) in
      let at : d ≡ day = cc in
      (moment, is, shown, subst (λ x. IsDue keep moment b (Before x)) at due)
  seen_due (Ok (NoneBefore d)) before after day due s = absurd s.1
  seen_due (Ok NoDay) before after day due s = absurd s.1
  seen_due (Err fault) before after day due s = absurd s.1

  pub finds : (before after : Option ℕ) (sight : Sight) → Looks keep moment b before after sight → FindsDue shows keep b sight
  finds before after (Nothing time) looks = tt
  finds before after (Sighted day) looks =
      let l = looks.1 (λ h. (looks.0 h).1) in
      seen_due l.0 before after day l.1 l.2
