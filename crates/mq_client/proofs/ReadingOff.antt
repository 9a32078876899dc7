-- What a past leaves is what is read off the whole list of its steps.
use Rattle.std.proofs.Common.{◌≡◌, ℕ, ◌+◌, ◌==◌, Bool, false, true, List, [], ◌∷◌, refl, sym, ap, ◌∙◌, arith, cond, Option, None, Some, is_some, if◌then◌else◌, count_by}
use Rattle.mq_client.proofs.Words.{Action, Ask, RecipientAnswer, Asking, Close, CloseEnd, Closed, Drain, Exchange, HeldTransaction, Live, Source, TransactionState, Step, View, after, after_close, answer_of, asking, asks_of, closed_by, closed_in, cons_option, eqb-true, filter_map, first_of, held_by, is_granted, let_through, live_by, live_in, live_or, numbers_in, opened, since_close, standing_in, sum_by-cons, view, unwrap_or}
use Rattle.mq_client.specs.declared.recipient_answer.RecipientAnswer.TheVariants as asked
use Rattle.mq_client.proofs.Counting.{count_in, one_if, counted}

-- one more ask
abbrev one_ask : List ℕ → ℕ → RecipientAnswer → Asking
one_ask login moment answer = record { login = login; moment = moment; answer = answer }

abbrev granted_in : List Asking → ℕ
granted_in asks = count_by (λ b. is_granted b.answer) asks

granted_more : (a : Asking) (more : List Asking) → granted_in (a ∷ more) ≡ cond (is_granted a.answer) 1 0 + granted_in more
granted_more a more = sum_by-cons (λ (b : Asking). cond (is_granted b.answer) 1 0) a more

live_more : (login : List ℕ) (moment : ℕ) (answer : RecipientAnswer) (more : List Asking) → live_by (one_ask login moment answer ∷ more) ≡ Some (let_through answer (opened moment login (live_by more)))
live_more login moment asked.Granted [] = refl
live_more login moment answer [] = refl
live_more login moment asked.Granted (b ∷ more) =
    let F : ℕ → Option HeldTransaction = λ n. Some (record { login = (first_of b more).login; moment = (first_of b more).moment; granted = n }) in
    ap F (omega (arith, granted_more (one_ask login moment asked.Granted) (b ∷ more)))
live_more login moment answer (b ∷ more) =
    let F : ℕ → Option HeldTransaction = λ n. Some (record { login = (first_of b more).login; moment = (first_of b more).moment; granted = n }) in
    ap F (omega (arith, granted_more (one_ask login moment answer) (b ∷ more)))

-- ---- live transactions

abbrev IsLiveRead : View → List Step → Type 0
IsLiveRead v P = (t : ℕ) → held_by (v.standing t) ≡ live_in P t

ask_live : (t txn moment : ℕ) (login : List ℕ) (answer : RecipientAnswer) (v : View) (P : List Step) (b : Bool) → (txn == t) ≡ b → IsLiveRead v P
    → held_by (if b then Live (let_through answer (opened moment login (held_by (v.standing txn)))) else v.standing t)
    ≡ live_by (cons_option (if b then Some (one_ask login moment answer) else None) (asks_of t P))
ask_live t txn moment login answer v P true e all =
    let F : Option HeldTransaction → Option HeldTransaction = λ o. Some (let_through answer (opened moment login o)) in
    ap F (ap (λ k. held_by (v.standing k)) (eqb-true txn t e) ∙ all t) ∙ sym (live_more login moment answer (asks_of t P))
ask_live t txn moment login answer v P false e all = all t

abbrev asks_after : ℕ → Bool → Step → List Step → List Asking
asks_after t b x P = filter_map (λ x. asking t x.action x.group) (if b then [] else x ∷ since_close t P)

close_live : (s : Source) (t txn : ℕ) (end : CloseEnd) (group : List Exchange) (k : Bool) (v : View) (P : List Step) (o : Option HeldTransaction) (b : Bool) → held_by (v.standing txn) ≡ o → (txn == t) ≡ b → IsLiveRead v P
    → held_by ((after_close s txn end group v o).standing t) ≡ live_by (asks_after t b (record { action = Close txn end; group = group; quiet = k }) P)
close_live s t txn end group k v P None true e f all = ap (λ k. held_by (v.standing k)) (sym (eqb-true txn t f)) ∙ e
close_live s t txn end group k v P None false e f all = all t
close_live s t txn end group k v P (Some h) true e f all = rw f refl
close_live s t txn end group k v P (Some h) false e f all = rw f (all t)

live_step : (s : Source) (v : View) (P : List Step) (a : Action) (group : List Exchange) (k : Bool) → IsLiveRead v P → IsLiveRead (after s v a group) (record { action = a; group = group; quiet = k } ∷ P)
live_step s v P (Ask txn moment login) [] k all = all
live_step s v P (Ask txn moment login) (x ∷ group) k all = λ t. ask_live t txn moment login (answer_of (x ∷ group)) v P (txn == t) refl all
live_step s v P (Close txn end) group k all = λ t. close_live s t txn end group k v P (held_by (v.standing txn)) (txn == t) refl refl all
live_step s v P Drain group k all = all

pub live_read : (s : Source) (P : List Step) → IsLiveRead (view s P) P
live_read s [] = λ t. refl
live_read s (x ∷ P) = live_step s (view s P) P x.action x.group x.quiet (live_read s P)

-- ---- numbers

close_numbers : (s : Source) (txn : ℕ) (end : CloseEnd) (group : List Exchange) (v : View) (n : ℕ) (o : Option HeldTransaction) → v.numbers ≡ n → (after_close s txn end group v o).numbers ≡ (if is_some o then n + 1 else n)
close_numbers s txn end group v n None e = e
close_numbers s txn end group v n (Some h) e = ap (λ k. k + 1) e

numbers_step : (s : Source) (v : View) (P : List Step) (a : Action) (group : List Exchange) (k : Bool) → IsLiveRead v P → v.numbers ≡ numbers_in P → (after s v a group).numbers ≡ numbers_in (record { action = a; group = group; quiet = k } ∷ P)
numbers_step s v P (Ask txn moment login) [] k all e = e
numbers_step s v P (Ask txn moment login) (x ∷ group) k all e = ap (λ k. k + 1) e
numbers_step s v P (Close txn end) group k all e = close_numbers s txn end group v (numbers_in P) (held_by (v.standing txn)) e ∙ ap (λ o. if is_some o then numbers_in P + 1 else numbers_in P) (all txn)
numbers_step s v P Drain group k all e = e

pub numbers_read : (s : Source) (P : List Step) → (view s P).numbers ≡ numbers_in P
numbers_read s [] = refl
numbers_read s (x ∷ P) = numbers_step s (view s P) P x.action x.group x.quiet (live_read s P) (numbers_read s P)

-- ---- each transaction

abbrev IsRead : View → List Step → Type 0
IsRead v P = (t : ℕ) → v.standing t ≡ standing_in P t

ask_read : (t txn moment : ℕ) (login : List ℕ) (answer : RecipientAnswer) (v : View) (P : List Step) (b : Bool) → (txn == t) ≡ b → IsLiveRead v P → IsRead v P
    → (if b then Live (let_through answer (opened moment login (held_by (v.standing txn)))) else v.standing t)
    ≡ live_or (live_by (cons_option (if b then Some (one_ask login moment answer) else None) (asks_of t P))) (closed_in P t)
ask_read t txn moment login answer v P true e all read = ap (λ o. live_or o (closed_in P t)) (ask_live t txn moment login answer v P true e all)
ask_read t txn moment login answer v P false e all read = read t

-- a transaction is as it was where another is closed
other_ended : (t number txn : ℕ) (end : CloseEnd) (o : Option HeldTransaction) (before : TransactionState) → (txn == t) ≡ false → unwrap_or (closed_by t number (Close txn end) o) before ≡ before
other_ended t number txn end None before f = refl
other_ended t number txn end (Some h) before f = rw f refl

close_read : (s : Source) (t txn : ℕ) (end : CloseEnd) (group : List Exchange) (k : Bool) (v : View) (P : List Step) (o : Option HeldTransaction) (b : Bool) → held_by (v.standing txn) ≡ o → (txn == t) ≡ b → v.numbers ≡ numbers_in P → IsLiveRead v P → IsRead v P
    → (after_close s txn end group v o).standing t ≡ live_or (live_by (asks_after t b (record { action = Close txn end; group = group; quiet = k }) P)) (unwrap_or (closed_by t (numbers_in P + 1) (Close txn end) (live_in P t)) (closed_in P t))
close_read s t txn end group k v P None true e f n all read =
    let absent : live_in P t ≡ None = sym (all t) ∙ ap (λ k. held_by (v.standing k)) (sym (eqb-true txn t f)) ∙ e in
    read t ∙ rw absent refl
close_read s t txn end group k v P None false e f n all read = read t ∙ ap (live_or (live_in P t)) (sym (other_ended t (numbers_in P + 1) txn end (live_in P t) (closed_in P t) f))
close_read s t txn end group k v P (Some h) true e f n all read =
    let there : live_in P t ≡ Some h = sym (all t) ∙ ap (λ k. held_by (v.standing k)) (sym (eqb-true txn t f)) ∙ e in
    rw (f, there, f) (ap (λ k. Closed end (k + 1) h) n)
close_read s t txn end group k v P (Some h) false e f n all read =
    rw f (read t ∙ ap (live_or (live_in P t)) (sym (other_ended t (numbers_in P + 1) txn end (live_in P t) (closed_in P t) f)))

read_step : (s : Source) (v : View) (P : List Step) (a : Action) (group : List Exchange) (k : Bool) → v.numbers ≡ numbers_in P → IsLiveRead v P → IsRead v P → IsRead (after s v a group) (record { action = a; group = group; quiet = k } ∷ P)
read_step s v P (Ask txn moment login) [] k n all read = read
read_step s v P (Ask txn moment login) (x ∷ group) k n all read = λ t. ask_read t txn moment login (answer_of (x ∷ group)) v P (txn == t) refl all read
read_step s v P (Close txn end) group k n all read = λ t. close_read s t txn end group k v P (held_by (v.standing txn)) (txn == t) refl refl n all read
read_step s v P Drain group k n all read = read

pub standing_read : (s : Source) (P : List Step) → IsRead (view s P) P
standing_read s [] = λ t. refl
standing_read s (x ∷ P) = read_step s (view s P) P x.action x.group x.quiet (numbers_read s P) (live_read s P) (standing_read s P)

-- ---- the live transactions, each once

count_is : (t : ℕ) (xs : List ℕ) → count_by (λ u. u == t) xs ≡ count_in t xs
count_is t [] = refl
count_is t (x ∷ xs) = sum_by-cons (λ (u : ℕ). cond (u == t) 1 0) x xs ∙ one_more (x == t) (count_by (λ u. u == t) xs) (count_in t xs) (count_is t xs)
  where
    one_more : (b : Bool) (m n : ℕ) → m ≡ n → cond b 1 0 + m ≡ (if b then n + 1 else n)
    one_more true m n e = omega (arith, e)
    one_more false m n e = omega (arith, e)

one_of : (b : Bool) → one_if b ≡ (if b then 1 else 0)
one_of true = refl
one_of false = refl

pub lives_read : (s : Source) (P : List Step) (t : ℕ) → count_by (λ u. u == t) (view s P).live ≡ (if is_some (live_in P t) then 1 else 0)
lives_read s P t = count_is t (view s P).live ∙ counted s P t ∙ one_of (is_some (held_by ((view s P).standing t))) ∙ ap (λ o. if is_some o then 1 else 0) (live_read s P t)
