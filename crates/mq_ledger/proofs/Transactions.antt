-- What one more entry does to the transactions of a history.
use Rattle.mq_ledger.proofs.Words.{AllByRecursion, Bool, Entry, Granted, List, None, Release, Reply, Request, Reserve, Retire, Settle, Settled, Some, Transaction, [], agrees, all_at, all_push, ap, arith, both_so, closed, closes, concerns, counted, either, ended, false, find-append, first_so, floor}
use Rattle.mq_ledger.proofs.Words.{fold_push, granted, granted_in, greater, has_retired_run, if◌then◌else◌, inl, inr, is_at, is_of, list_any-append, map-append, named, nat_lt, nat_tests, not, number_is, number_itself, option_cases, option_or, or_second, raised, refl, requests, reserved_of, retires}
use Rattle.mq_ledger.proofs.Words.{same_text, same_transaction, second_so, settled_of, sum_by, sum_by-le-sum_by, sym, text_is, text_itself, transaction, true, used, zero_or_more, ℕ, ◌&&◌, ◌++◌, ◌+◌, ◌<◌, ◌==◌, ◌||◌, ◌∙◌, ◌∷◌, ◌≡◌, ◌≤◌}
use Rattle.mq_ledger.proofs.Basics.{two_sums_le, two_sums_are}

abbrev pub entry : Request → Reply → Entry
entry r a = record { request = r; reply = a }

-- Equal names are one.

pub transaction_is : (t u : Transaction) → same_transaction t u ≡ true → t ≡ u
transaction_is t u h =
    let host : t.host ≡ u.host = text_is _ _ (first_so (same_text t.host u.host) _ h) in
    let run : t.run ≡ u.run = number_is _ _ (first_so (t.run == u.run) (t.txn == u.txn) (second_so (same_text t.host u.host) _ h)) in
    let txn : t.txn ≡ u.txn = number_is _ _ (second_so (t.run == u.run) (t.txn == u.txn) (second_so (same_text t.host u.host) _ h)) in
    λ i. record { host = host i; run = run i; txn = txn i }

pub transaction_itself : (t : Transaction) → same_transaction t t ≡ true
transaction_itself t = rw (text_itself t.host, number_itself t.run, number_itself t.txn) refl

-- One more entry.

pub ended_push : (H : List Entry) (e : Entry) (t : Transaction) → ended (H ++ e ∷ []) t ≡ (ended H t || (is_of t e.request && closes e.reply))
ended_push H e t = grind (arith, list_any-append (λ x. is_of t x.request && closes x.reply) H (e ∷ []))

pub floor_push : (rs : List Request) (r : Request) (h : List ℕ) → floor (rs ++ r ∷ []) h ≡ greater (floor rs h) (raised h r)
unfolding floor
floor_push rs r h = fold_push (λ n x. greater n (raised h x)) 0 rs r

pub floor_none : (h : List ℕ) → floor [] h ≡ 0
unfolding floor
floor_none h = refl

-- a number is less than the greater of two where it is less than one of them
pub under_greater : (n a b : ℕ) → nat_lt n (greater a b) ≡ (nat_lt n b || nat_lt n a)
under_greater n a b = grind (arith, nat_tests)

-- the floor passes a run where the request raises it so far
under_none : (m : ℕ) → nat_lt m 0 ≡ false
under_none m = grind (arith, nat_tests)

under_if : (b : Bool) (m n : ℕ) → nat_lt m (if b then n else 0) ≡ (b && nat_lt m n)
under_if b m n = grind (arith, nat_tests)

under_raised : (t : Transaction) (r : Request) → nat_lt t.run (raised t.host r) ≡ retires r t
under_raised t (Retire id) = under_if (same_text t.host id.host) t.run id.run
under_raised t r = under_none t.run

pub has_retired_run_push : (H : List Entry) (e : Entry) (t : Transaction) → has_retired_run (H ++ e ∷ []) t ≡ (retires e.request t || has_retired_run H t)
has_retired_run_push H e t =
    ap (λ (rs : List Request). nat_lt t.run (floor rs t.host)) (map-append (λ (x : Entry). x.request) H (e ∷ []))
    ∙ ap (nat_lt t.run) (floor_push (requests H) e.request t.host)
    ∙ under_greater t.run (floor (requests H) t.host) (raised t.host e.request)
    ∙ ap (λ b. b || has_retired_run H t) (under_raised t e.request)

regroup : (p g n c : Bool) → ((p || g) || (n || c)) ≡ (p || ((g || n) || c))
regroup p g n c = grind arith

pub closed_push : (H : List Entry) (e : Entry) (t : Transaction) → closed (H ++ e ∷ []) t ≡ (retires e.request t || (closed H t || (is_of t e.request && closes e.reply)))
closed_push H e t = rw (has_retired_run_push H e t, ended_push H e t) (regroup (retires e.request t) (has_retired_run H t) (ended H t) (is_of t e.request && closes e.reply))

pub named_push : (H : List Entry) (e : Entry) (t : Transaction) → named (H ++ e ∷ []) t ≡ option_or (named H t) (if is_of t e.request then Some e else None)
named_push H e t = find-append (λ x. is_of t x.request) H (e ∷ [])

-- What is used doesn't see a retire: it is what was granted to transactions that were neither settled nor released,
-- and what was settled by a settle.

-- the request is a reserve whose transaction was neither settled nor released in H
abbrev pub is_unended : List Entry → Request → Bool
is_unended H (Reserve id txn moment login count) = not (ended H (transaction id txn))
is_unended H _ = false

abbrev pub unended_of : (ℕ → ℕ) → List Entry → List ℕ → ℕ → Entry → ℕ
unended_of day H l d e = if concerns day l d e.request && is_unended H e.request then granted e.request e.reply else 0

abbrev pub counted_for : (ℕ → ℕ) → List ℕ → ℕ → Entry → ℕ
counted_for day l d e = if concerns day l d e.request then counted e.request e.reply else 0

abbrev pub unended : (ℕ → ℕ) → List Entry → List ℕ → ℕ → ℕ
unended day H l d = sum_by (unended_of day H l d) H

abbrev pub counted_on : (ℕ → ℕ) → List Entry → List ℕ → ℕ → ℕ
counted_on day H l d = sum_by (counted_for day l d) H

split : (c g n : Bool) (a k : ℕ) → (if c && not (g || n) then a else 0) + (if c then k + (if g && not n then a else 0) else 0) ≡ (if c && not n then a else 0) + (if c then k else 0)
split c g n a k = grind arith

used_by : (day : ℕ → ℕ) (H : List Entry) (l : List ℕ) (d : ℕ) (r : Request) (a : Reply) → reserved_of day H l d (entry r a) + settled_of day H l d (entry r a) ≡ unended_of day H l d (entry r a) + counted_for day l d (entry r a)
used_by day H l d (Reserve id txn moment login count) a =
    let t : Transaction = transaction id txn in
    split (same_text l login && (day moment == d)) (has_retired_run H t) (ended H t) (granted (Reserve id txn moment login count) a) (counted (Reserve id txn moment login count) a)
used_by day H l d (Settle id txn moment login count) a = split (same_text l login && (day moment == d)) false true (granted (Settle id txn moment login count) a) (counted (Settle id txn moment login count) a)
used_by day H l d r a = refl

pub used_is : (day : ℕ → ℕ) (H : List Entry) (l : List ℕ) (d : ℕ) → used day H l d ≡ unended day H l d + counted_on day H l d
used_is day H l d =
    two_sums_are (reserved_of day H l d) (settled_of day H l d) (λ x. unended_of day H l d x + counted_for day l d x) H (λ x _. used_by day H l d x.request x.reply)
    ∙ sym (two_sums_are (unended_of day H l d) (counted_for day l d) (λ x. unended_of day H l d x + counted_for day l d x) H (λ x _. refl))

unended_before : (H : List Entry) (e : Entry) (r : Request) → is_unended (H ++ e ∷ []) r ≡ true → is_unended H r ≡ true
unended_before H e (Reserve id txn moment login count) h = grind (arith, ended_push H e (transaction id txn))
unended_before H e r h = h

-- an entry more never leaves more of what stood before
unended_of_falls : (day : ℕ → ℕ) (H : List Entry) (e : Entry) (l : List ℕ) (d : ℕ) (x : Entry) → unended_of day (H ++ e ∷ []) l d x ≤ unended_of day H l d x
unended_of_falls day H e l d x =
    elim (either (is_unended (H ++ e ∷ []) x.request)) [
      | inl t ↦ (let u = unended_before H e x.request t in rw (t, u) (omega arith))
      | inr f ↦ grind (arith, f)
    ]

pub unended_falls : (day : ℕ → ℕ) (H : List Entry) (e : Entry) (l : List ℕ) (d : ℕ) → sum_by (unended_of day (H ++ e ∷ []) l d) H ≤ unended day H l d
unended_falls day H e l d = sum_by-le-sum_by (unended_of day (H ++ e ∷ []) l d) (unended_of day H l d) H (unended_of_falls day H e l d)

-- Each granted reserve and each settled settle has its transaction's login and moment.

abbrev pub moved : Request → Reply → ℕ
moved r a = granted r a + counted r a

abbrev pub IsUniformAt : Transaction → ℕ → List ℕ → Entry → Type 0
IsUniformAt t moment login x = is_of t x.request ≡ true → 0 < moved x.request x.reply → is_at moment login x.request ≡ true

abbrev pub IsUniform : List Entry → Type 0
IsUniform H = (t : Transaction) (moment : ℕ) (login : List ℕ) → agrees moment login (named H t) ≡ true → AllByRecursion (IsUniformAt t moment login) H

both_at : (a b moment : ℕ) (l m login : List ℕ) → ((a == moment) && same_text l login) ≡ true → ((b == moment) && same_text m login) ≡ true → (a ≡ b) × (l ≡ m)
both_at a b moment l m login h g = (
  number_is a moment (first_so (a == moment) (same_text l login) h) ∙ sym (number_is b moment (first_so (b == moment) (same_text m login) g)),
  text_is l login (second_so (a == moment) (same_text l login) h) ∙ sym (text_is m login (second_so (b == moment) (same_text m login) g)),
)

-- a request has one moment and one login
pub one_place : (a b : ℕ) (l m : List ℕ) (r : Request) → is_at a l r ≡ true → is_at b m r ≡ true → (a ≡ b) × (l ≡ m)
one_place a b l m (Reserve id txn moment login count) h g = both_at a b moment l m login h g
one_place a b l m (Settle id txn moment login count) h g = both_at a b moment l m login h g
one_place a b l m (Release id txn moment login) h g = both_at a b moment l m login h g
one_place a b l m r h g = cc

-- what a granted reserve and a settled settle were checked for
abbrev pub IsAgreed : List Entry → Request → Reply → Type 0
IsAgreed H (Reserve id txn moment login count) (Granted id' n) = agrees moment login (named H (transaction id txn)) ≡ true
IsAgreed H (Settle id txn moment login count) (Settled id' n) = agrees moment login (named H (transaction id txn)) ≡ true
IsAgreed H _ _ = Unit {0}

new_is_uniform_at : (H : List Entry) (t u : Transaction) (moment moment' : ℕ) (login login' : List ℕ) (x : Entry) → named H t ≡ Some x → is_at moment login x.request ≡ true → agrees moment' login' (named H u) ≡ true → same_transaction t u ≡ true → ((moment == moment') && same_text login login') ≡ true
new_is_uniform_at H t u moment moment' login login' x naming here agreed mine =
    let here' : is_at moment' login' x.request ≡ true = rw (ap (named H) (sym (transaction_is t u mine)) ∙ naming) at agreed in
    let p = one_place moment moment' login login' x.request here here' in
    both_so (moment == moment') (same_text login login') (rw (← p.0) (number_itself moment)) (rw (← p.1) (text_itself login))

new_is_uniform : (H : List Entry) (t : Transaction) (moment : ℕ) (login : List ℕ) (x : Entry) → named H t ≡ Some x → is_at moment login x.request ≡ true → (r : Request) (a : Reply) → IsAgreed H r a → is_of t r ≡ true → 0 < moved r a → is_at moment login r ≡ true
new_is_uniform H t moment login x naming here (Reserve id txn moment' login' count) (Granted id' n) agreed mine some = new_is_uniform_at H t (transaction id txn) moment moment' login login' x naming here agreed mine
new_is_uniform H t moment login x naming here (Settle id txn moment' login' count) (Settled id' n) agreed mine some = new_is_uniform_at H t (transaction id txn) moment moment' login login' x naming here agreed mine
new_is_uniform H t moment login x naming here r a agreed mine some = absurd (omega arith)

pub uniform_push : (H : List Entry) (e : Entry) → IsAgreed H e.request e.reply → IsUniform H → IsUniform (H ++ e ∷ [])
uniform_push H e agreed h = λ t moment login ok.
    let ok' : agrees moment login (option_or (named H t) (if is_of t e.request then Some e else None)) ≡ true = rw named_push at ok in
    elim (option_cases (named H t)) [
      | inl none ↦ (let naming : agrees moment login (if is_of t e.request then Some e else None) ≡ true = rw none at ok' in
          all_push (IsUniformAt t moment login) H e (h t moment login (rw none refl)) (λ mine some. rw mine at naming))
      | inr p ↦ (let here : is_at moment login p.0.request ≡ true = rw p.1 at ok' in
          all_push (IsUniformAt t moment login) H e (h t moment login (rw p.1 here)) (λ mine some. new_is_uniform H t moment login p.0 p.1 here e.request e.reply agreed mine some))
    ]

-- What a transaction was granted was used by it, and is so no more once it is settled or released.

record Goes (day : ℕ → ℕ) (H : List Entry) (e : Entry) (moment : ℕ) (login : List ℕ) (r : Request) : Type 0 where
  concerns : concerns day login (day moment) r ≡ true
  before : is_unended H r ≡ true
  after : is_unended (H ++ e ∷ []) r ≡ false

-- of the transaction that a request is of
pub at_its : (p : Transaction → Bool) (t u : Transaction) (b : Bool) → same_transaction t u ≡ true → p t ≡ b → p u ≡ b
at_its p t u b mine h = ap p (sym (transaction_is t u mine)) ∙ h

pub ended_now : (H : List Entry) (e : Entry) (t : Transaction) → is_of t e.request ≡ true → closes e.reply ≡ true → ended (H ++ e ∷ []) t ≡ true
ended_now H e t mine closing = ended_push H e t ∙ or_second (ended H t) (is_of t e.request && closes e.reply) (both_so (is_of t e.request) (closes e.reply) mine closing)

same_day : (day : ℕ → ℕ) (a b : ℕ) → (a == b) ≡ true → (day b == day a) ≡ true
same_day day a b h = let e = number_is a b h in rw e (number_itself (day b))

goes : (day : ℕ → ℕ) (H : List Entry) (e : Entry) (t : Transaction) (moment : ℕ) (login : List ℕ) → is_of t e.request ≡ true → closes e.reply ≡ true → ended H t ≡ false → (r : Request) (a : Reply) → is_of t r ≡ true → 0 < granted r a → is_at moment login r ≡ true → Goes day H e moment login r
goes day H e t moment login mine closing shut (Reserve id txn moment' login' count) (Granted id' n) of some here = record {
  concerns = both_so (same_text login login') (day moment' == day moment) (second_so (moment == moment') (same_text login login') here) (same_day day moment moment' (first_so (moment == moment') (same_text login login') here));
  before = ap not (at_its (ended H) t (transaction id txn) false of shut);
  after = ap not (at_its (ended (H ++ e ∷ [])) t (transaction id txn) true of (ended_now H e t mine closing));
}
goes day H e t moment login mine closing shut r a of some here = absurd (omega arith)

abbrev pub held_of : Transaction → Entry → ℕ
held_of t x = if is_of t x.request then granted x.request x.reply else 0

held_goes_at : (day : ℕ → ℕ) (H : List Entry) (e : Entry) (t : Transaction) (moment : ℕ) (login : List ℕ) → is_of t e.request ≡ true → closes e.reply ≡ true → ended H t ≡ false → (x : Entry) → IsUniformAt t moment login x →
    unended_of day (H ++ e ∷ []) login (day moment) x + held_of t x ≤ unended_of day H login (day moment) x
held_goes_at day H e t moment login mine closing shut x uniform =
    elim (either (is_of t x.request)) [
      | inr f ↦ (let falls = unended_of_falls day H e login (day moment) x in rw f (omega (arith, falls)))
      | inl of ↦ elim (zero_or_more (granted x.request x.reply)) [
        | inl none ↦ grind (arith, none)
        | inr some ↦ (let g = goes day H e t moment login mine closing shut x.request x.reply of some (uniform of (omega (arith, some))) in rw (of, g.concerns, g.after, g.before) (omega arith))
      ]
    ]

-- what was granted to a transaction that the entry settles or releases was used on its login and day
pub held_goes : (day : ℕ → ℕ) (H : List Entry) (e : Entry) (t : Transaction) (moment : ℕ) (login : List ℕ) → is_of t e.request ≡ true → closes e.reply ≡ true → ended H t ≡ false → AllByRecursion (IsUniformAt t moment login) H →
    sum_by (unended_of day (H ++ e ∷ []) login (day moment)) H + granted_in H t ≤ unended day H login (day moment)
held_goes day H e t moment login mine closing shut uniform =
    two_sums_le (unended_of day (H ++ e ∷ []) login (day moment)) (held_of t) (unended_of day H login (day moment)) H (λ x i. held_goes_at day H e t moment login mine closing shut x (all_at (IsUniformAt t moment login) H x uniform i))
