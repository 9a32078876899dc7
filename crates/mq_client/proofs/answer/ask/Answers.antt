use Rattle.std.proofs.Common.{◌≡◌, ◌&&◌, Bool, true, false, is_some, refl, sym, ap, ◌∙◌, subst, rules, [], None, Some, Option, inl, inr}
use Rattle.mq_lemmas.proofs.Options.{option_cases}
use Rattle.mq_client.proofs.Words.{Ask, Decision, Makes, State, Step, decision_by, decision_of, full_by, held_back, is_login, is_moment}
use Rattle.mq_client.proofs.Making.{held_back as makes_held_back}
use Rattle.mq_lemmas.proofs.Telling.{Tells-none}
use Rattle.mq_client.proofs.answer.ask.Goals as goal

pub returns-in-Some-clause-ok : goal.returns-in-Some-clause-ok
returns-in-Some-clause-ok g c =
    let h = c.args.holdup.now.1 in
    let may : (is_login c.args.login.now && is_moment c.args.moment) ≡ true = search rules in
    let is : held_back h c.args.login.now c.args.moment ≡ Some c.in-Some.decision = sym c.held_back.ensures ∙ c.in-Some.is in
    let S : Bool → Option Step = λ k. Some (record { action = Ask c.args.txn c.args.moment c.args.login.now; group = []; quiet = k }) in (
      S true,
      Tells-none _,
      subst (λ (s : State). Makes c.args.client.now s (record { action = Ask c.args.txn c.args.moment c.args.login.now; group = []; quiet = true })) (sym c.note_held_back.ensures) (makes_held_back c.args.client.now c.args.txn c.args.moment c.args.login.now),
      rw may ([], ap S (sym (ap is_some is)), c.unasked-in-Some.ensures.decision ∙ sym (ap (λ (o : Option Decision). decision_by o []) is)),
      c.unasked-in-Some.ensures.timed_out,
      c.unasked-in-Some.ensures.full,
      λ k. refl,
    )

pub returns-in-Ok-clause-ok : goal.returns-in-Ok-clause-ok
returns-in-Ok-clause-ok g c =
    let (group, told, answer, made, late) = c.in-Ok.ensures.ok in
    let may : (is_login c.args.login.now && is_moment c.args.moment) ≡ true = search rules in
    let is : held_back c.args.holdup.now.1 c.args.login.now c.args.moment ≡ None = elim (option_cases c.held_back.result) [
      | inl none ↦ sym c.held_back.ensures ∙ none
      | inr p ↦ absurd (c.in_default.not-Some p.0 p.1)
    ] in
    let S : Bool → Option Step = λ k. Some (record { action = Ask c.args.txn c.args.moment c.args.login.now; group = group; quiet = k }) in (
      S false,
      told,
      made,
      rw may (group, ap S (sym (ap is_some is)), c.decision_of.ensures ∙ ap decision_of answer ∙ sym (ap (λ (o : Option Decision). decision_by o group) is)),
      late,
      c.full_answer.ensures c.args.txn ∙ ap (full_by (Ask c.args.txn c.args.moment c.args.login.now)) answer,
      λ k. refl,
    )
