use Rattle.mq_ledger.proofs.Words.{None, Some, ap, below, day_of, false, inl, inr, login_on, logins_above, nearer, option_cases, option_copied, refl, sym, take, take_more, true, ◌∙◌, ◌≡◌}
use Rattle.mq_ledger.proofs.Pages.{head_push_none, head_push_not_above, head_push_above}
use Rattle.mq_ledger.proofs.plain.listing.next_login.Goals.{in-Some+then-below, in-Some+else-below, in_default}
use Rattle.mq_ledger.proofs.plain.listing.next_login.Goals as goal

pub loop-entry-init : goal.loop-entry-init
unfolding logins_above
loop-entry-init c = refl

pub loop-entry-preserved : goal.loop-entry-preserved
loop-entry-preserved c =
    let day = day_of c.args.zone in
    let H = take c.loop-entry.entry-index c.args.entries.now in
    let e = c.entry-item.result in
    let after = c.args.after.now in
    rw (take_more c.args.entries.now c.loop-entry.entry-index c.entry-item.result c.loop-entry-test.true, ← c.entry-item.is)
    (elim c.match-login_on.branch [
      | in-Some+then-below w ↦ (let l = w.in-Some.login.now in
          let on : login_on day c.args.day e.request e.reply ≡ Some l = sym c.login_on.ensures ∙ ap option_copied w.in-Some.is in
          let above : below after l ≡ true = ap (below after) (sym w.as_slice.ensures) ∙ sym w.if-below.ensures in
          ap option_copied w.found-is ∙ ap Some w.nearer.ensures ∙ ap (λ o. Some (nearer o l)) c.loop-entry.invariant ∙ sym (head_push_above day H c.args.day after e l on above))
      | in-Some+else-below w ↦ (let l = w.in-Some.login.now in
          let on : login_on day c.args.day e.request e.reply ≡ Some l = sym c.login_on.ensures ∙ ap option_copied w.in-Some.is in
          let not_above : below after l ≡ false = ap (below after) (sym w.as_slice.ensures) ∙ sym w.if-below.ensures in
          ap option_copied w.found-is ∙ c.loop-entry.invariant ∙ sym (head_push_not_above day H c.args.day after e l on not_above))
      | in_default w ↦ elim (option_cases c.login_on.result) [
        | inr p ↦ absurd (w.in_default.not-Some p.0 p.1)
        | inl none ↦ (let off : login_on day c.args.day e.request e.reply ≡ None = sym c.login_on.ensures ∙ ap option_copied none in
            ap option_copied w.found-is ∙ c.loop-entry.invariant ∙ sym (head_push_none day H c.args.day after e off))
      ]
    ])
