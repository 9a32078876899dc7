-- The live transactions of a past, each once.
use Rattle.std.proofs.Common.{◌≡◌, ℕ, ◌+◌, ◌==◌, Bool, false, true, List, [], ◌∷◌, length, refl, sym, ap, ◌∙◌, arith, Option, None, Some, is_some, if◌then◌else◌}
use Rattle.mq_client.proofs.Words.{Action, Ask, Close, CloseEnd, Closed, Drain, Exchange, HeldTransaction, Live, Source, Step, View, after, after_close, both_ways, eq-eqb, eqb-true, held_by, ne_eqb, view, with_asked, without}
use Rattle.mq_client.proofs.Basics.{of_either}

abbrev pub count_in : ℕ → List ℕ → ℕ
count_in t [] = 0
count_in t (x ∷ xs) = if x == t then count_in t xs + 1 else count_in t xs

abbrev pub one_if : Bool → ℕ
one_if true = 1
one_if false = 0

length-without_at : (t x : ℕ) (xs : List ℕ) (b : Bool) → length (without t xs) + count_in t xs ≡ length xs
    → length (if b then without t xs else x ∷ without t xs) + (if b then count_in t xs + 1 else count_in t xs) ≡ length (x ∷ xs)
length-without_at t x xs true h = omega (arith, h)
length-without_at t x xs false h = omega (arith, h)

pub length-without : (t : ℕ) (xs : List ℕ) → length (without t xs) + count_in t xs ≡ length xs
length-without t [] = refl
length-without t (x ∷ xs) = length-without_at t x xs (x == t) (length-without t xs)

other_number : (t u x : ℕ) → (x == u) ≡ true → (u == t) ≡ false → (x == t) ≡ false
other_number t u x e f = ne_eqb x t (λ q. both_ways (u == t) f (eq-eqb u t (sym (eqb-true x u e) ∙ q)))

same_number : (t u x : ℕ) → (x == u) ≡ false → (u == t) ≡ true → (x == t) ≡ false
same_number t u x e f = ne_eqb x t (λ q. both_ways (x == u) e (eq-eqb x u (q ∙ sym (eqb-true u t f))))

-- t counted in a list without u
count_without_at : (t u x : ℕ) (xs : List ℕ) (b c : Bool) → (x == u) ≡ b → (u == t) ≡ c → count_in t (without u xs) ≡ (if c then 0 else count_in t xs)
    → count_in t (if b then without u xs else x ∷ without u xs) ≡ (if c then 0 else (if x == t then count_in t xs + 1 else count_in t xs))
count_without_at t u x xs true true e f h = h
count_without_at t u x xs true false e f h = rw (other_number t u x e f) h
count_without_at t u x xs false true e f h = rw (same_number t u x e f) h
count_without_at t u x xs false false e f h = ap (λ n. if x == t then n + 1 else n) h

pub count_without : (t u : ℕ) (xs : List ℕ) → count_in t (without u xs) ≡ (if u == t then 0 else count_in t xs)
count_without t u [] = of_either (λ (n : ℕ). 0 ≡ n) (u == t) 0 0 refl refl
count_without t u (x ∷ xs) = count_without_at t u x xs (x == u) (u == t) refl refl (count_without t u xs)

-- each live transaction is listed once, and no other
abbrev pub AreCounted : View → Type 0
AreCounted v = (t : ℕ) → count_in t v.live ≡ one_if (is_some (held_by (v.standing t)))

ask_counted : (t txn : ℕ) (now : HeldTransaction) (v : View) (o : Option HeldTransaction) (b : Bool) → held_by (v.standing txn) ≡ o → (txn == t) ≡ b → AreCounted v
    → count_in t (with_asked txn o v.live) ≡ one_if (is_some (held_by (if b then Live now else v.standing t)))
ask_counted t txn now v None true e f all =
    let none : count_in txn v.live ≡ 0 = all txn ∙ ap (λ k. one_if (is_some k)) e in
    rw f (ap (λ n. n + 1) (ap (λ k. count_in k v.live) (sym (eqb-true txn t f)) ∙ none))
ask_counted t txn now v None false e f all = rw f (all t)
ask_counted t txn now v (Some h) true e f all = ap (λ k. count_in k v.live) (sym (eqb-true txn t f)) ∙ all txn ∙ ap (λ k. one_if (is_some k)) e
ask_counted t txn now v (Some h) false e f all = all t

close_counted : (t : ℕ) (v : View) (end : CloseEnd) (number : ℕ) (h : HeldTransaction) (b : Bool) → count_in t v.live ≡ one_if (is_some (held_by (v.standing t)))
    → (if b then 0 else count_in t v.live) ≡ one_if (is_some (held_by (if b then Closed end number h else v.standing t)))
close_counted t v end number h true e = refl
close_counted t v end number h false e = e

counted_close : (s : Source) (txn : ℕ) (end : CloseEnd) (group : List Exchange) (v : View) (o : Option HeldTransaction) → AreCounted v → AreCounted (after_close s txn end group v o)
counted_close s txn end group v None all = all
counted_close s txn end group v (Some h) all = λ t. count_without t txn v.live ∙ close_counted t v end (v.numbers + 1) h (txn == t) (all t)

pub counted_step : (s : Source) (v : View) (a : Action) (group : List Exchange) → AreCounted v → AreCounted (after s v a group)
counted_step s v (Ask txn moment login) [] all = all
counted_step s v (Ask txn moment login) (x ∷ group) all = λ t. ask_counted t txn _ v (held_by (v.standing txn)) (txn == t) refl refl all
counted_step s v (Close txn end) group all = counted_close s txn end group v (held_by (v.standing txn)) all
counted_step s v Drain group all = all

pub counted : (s : Source) (P : List Step) → AreCounted (view s P)
counted s [] = λ t. refl
counted s (x ∷ P) = counted_step s (view s P) x.action x.group (counted s P)

-- a live transaction that is closed leaves one less
pub length_closed : (v : View) (txn : ℕ) → AreCounted v → is_some (held_by (v.standing txn)) ≡ true → length (without txn v.live) + 1 ≡ length v.live
length_closed v txn all e = omega (arith, length-without txn v.live, all txn ∙ ap one_if e)
