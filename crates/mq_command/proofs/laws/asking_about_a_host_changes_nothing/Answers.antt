use Rattle.mq_command.proofs.Words.{AreAlike, Bool, Entry, Id, LAST_ORDINAL, List, Release, Reply, Request, Some, [], ap, answer, appended, arith, closed, closes, false, floor, freed, granted_in, greater_zero, held, host_question, if_zero, if◌then◌else◌, known_by, moment_of_run, next_run, refl, requests, reserved, same_text, same_transaction, settled, subst, sym, transaction, true, ℕ, ◌&&◌, ◌++◌, ◌+◌, ◌==◌, ◌||◌, ◌∙◌, ◌∷◌, ◌≡◌}
use Rattle.mq_request.specs.declared.message.Reply.TheVariants as says
use Rattle.mq_command.proofs.laws.asking_about_a_host_changes_nothing.Goals as goal

-- a release of a transaction that holds nothing
freed_none : (day : ℕ → ℕ) (H : List Entry) (l : List ℕ) (d : ℕ) (id : Id) (txn moment : ℕ) (login : List ℕ) (a : Reply) → held H (transaction id txn) ≡ 0
    → freed day H l d (Release id txn moment login) a ≡ 0
freed_none day H l d id txn moment login (says.Released other n) none = if_zero (same_text l login && (day moment == d)) (held H (transaction id txn)) none
freed_none day H l d id txn moment login a none = refl

-- what stays where nothing is held that is closed or released
holds_on : (is_closed is_it ends : Bool) (n : ℕ) → (is_closed ≡ true → n ≡ 0) → (is_it ≡ true → n ≡ 0)
    → (if is_closed || (is_it && ends) then 0 else n + (if is_it then 0 else 0)) ≡ n
holds_on true is_it ends n of_closed of_it = sym (of_closed refl)
holds_on false true true n of_closed of_it = sym (of_it refl)
holds_on false is_it ends n of_closed of_it = omega arith

pub returns : goal.returns
returns c = λ day default H host now legal none.
    let id : Id = record { host = host; run = next_run now; number = LAST_ORDINAL } in
    let question : Request = host_question host now in
    let a : Reply = answer day default H question in
    let entry : Entry = record { request = question; reply = a } in
    elim (known_by H (Some id)) as (λ b. AreAlike day default H (if b then H else appended day default H question)) [
      | true ↦ record {
        all_reserved = λ l d. refl;
        all_settled = λ l d. refl;
        all_limits = λ l d. refl;
        all_held = λ t. refl;
        all_floors = λ h. refl;
      }
      | false ↦ record {
        all_reserved = λ l d.
            let kept = subst (λ n. reserved day (H ++ entry ∷ []) l d + n ≡ reserved day H l d + 0) (freed_none day H l d id LAST_ORDINAL (moment_of_run (next_run now)) (45 ∷ []) a none)
            (c.one_more_on_a_day.ensures.reserved day default H entry l d legal refl) in
            omega (arith, kept);
        all_settled = λ l d.
            let kept : settled day (H ++ entry ∷ []) l d ≡ settled day H l d + 0 = c.one_more_on_a_day.ensures.settled day default H entry l d refl in
            omega (arith, kept);
        all_limits = λ l d. c.one_more_limit.ensures.cap default H entry l d;
        all_held = λ t.
            c.one_more_of_a_transaction.ensures.held H entry t
            ∙ holds_on (closed H t) (same_transaction t (transaction id LAST_ORDINAL)) (closes a) (held H t) (λ is. ap (λ b. if b then 0 else granted_in H t) is)
            (λ is. ap (λ u. held H u) (c.open_transactions.ensures.same t (transaction id LAST_ORDINAL) is) ∙ none);
        all_floors = λ h. c.one_more_floor.ensures.floor H entry h ∙ greater_zero (floor (requests H) h);
      }
    ]
