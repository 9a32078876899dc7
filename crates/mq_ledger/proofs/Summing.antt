-- What a login has reserved and settled on a day, as sums over transactions.
use Rattle.mq_ledger.proofs.Words.{Bool, Entry, Granted, In, IsAmount, IsDayRule, IsLegal, List, None, Release, Reply, Request, Reserve, Settle, Settled, Transaction, [], abandoned, agrees, all_at, answer, ap, arith, both_so, cap, clash, closed, concerns, counted, counted_in, either, ended, false}
use Rattle.mq_ledger.proofs.Words.{first_so, granted, granted_in, has_reserve, has_retired_run, held, if_zero, if◌then◌else◌, inl, inr, is_abandoned, is_at, is_login, is_of, is_open, is_some, list_any, login_on, named, neither_second, not, number_itself, option_cases, refl, reserved, reserved_of}
use Rattle.mq_ledger.proofs.Words.{same_text, same_transaction, second_so, settled, settled_in, settled_of, subst, sum_by, sum_by-cons, sum_by-le-sum_by, sym, text_itself, transaction, true, used, zero_or_more, ℕ, ◌&&◌, ◌++◌, ◌+◌, ◌<◌, ◌==◌, ◌∙◌, ◌∷◌, ◌≡◌, ◌≤◌, ◌⊎◌}
use Rattle.mq_ledger.specs.Sums.{is_for, names_for, held_on, settled_on, AreDistinct, HasAllNamed}
use Rattle.mq_ledger.proofs.Basics.{found, found_in, not_found, none_passes, sum_same, sum_nothing, two_sums_are, sum_if, sums_swap, some_part}
use Rattle.mq_ledger.proofs.Entries.{counted_of, granted_in_push, counted_in_push, unended_counted, unheard_held, unheard_settled}
use Rattle.mq_ledger.proofs.Freeing.{of_another, concerned}
use Rattle.mq_ledger.proofs.Ranges.{amount, legal_ranged, used_fits, cap_fits}
use Rattle.mq_ledger.proofs.Within.{legal_good}
use Rattle.mq_ledger.proofs.Answering.{of_legal}
use Rattle.mq_ledger.proofs.Suiting.{Opens, answer_opens}
use Rattle.mq_ledger.proofs.Transactions.{entry, transaction_is, transaction_itself, moved, held_of, one_place, IsUniformAt, IsUniform}

-- Values of entries, told apart by the transaction.

abbrev cell : (Entry → ℕ) → Transaction → Entry → ℕ
cell v t x = if is_of t x.request then v x else 0

cell_le : (v : Entry → ℕ) (t : Transaction) (x : Entry) → cell v t x ≤ v x
cell_le v t x = grind arith

no_more : (v : Entry → ℕ) (x : Entry) (t : Transaction) (ts : List Transaction) → is_of t x.request ≡ true → list_any (same_transaction t) ts ≡ false → sum_by (λ u. cell v u x) ts ≡ 0
no_more v x t ts mine apart = sum_nothing (λ u. cell v u x) ts (λ u i. (let other = of_another t u x.request mine (none_passes (same_transaction t) ts u apart i) in rw other refl))

-- among distinct transactions an entry counts once at most
once_at_most : (v : Entry → ℕ) (x : Entry) (ts : List Transaction) → AreDistinct ts → sum_by (λ u. cell v u x) ts ≤ v x
once_at_most v x [] distinct = omega arith
once_at_most v x (t ∷ ts) distinct = elim (either (is_of t x.request)) [
  | inl mine ↦ (let own : cell v t x ≡ v x = rw mine refl in
      omega (arith, sum_by-cons (λ u. cell v u x) t ts, own, no_more v x t ts mine distinct.0))
  | inr other ↦ (let own : cell v t x ≡ 0 = rw other refl in
      omega (arith, sum_by-cons (λ u. cell v u x) t ts, own, once_at_most v x ts distinct.1))
]

-- its transaction is among them
record IsAmong (x : Entry) (ts : List Transaction) : Type 0 where
  of : Transaction
  mine : is_of of x.request ≡ true
  there : list_any (same_transaction of) ts ≡ true

once : (v : Entry → ℕ) (x : Entry) (t : Transaction) (ts : List Transaction) → AreDistinct ts → is_of t x.request ≡ true → list_any (same_transaction t) ts ≡ true → sum_by (λ u. cell v u x) ts ≡ v x
once v x t [] distinct mine there = cc
once v x t (u ∷ ts) distinct mine there = elim (either (same_transaction t u)) [
  | inl same ↦ (let is = transaction_is t u same in
      let mine' : is_of u x.request ≡ true = (let P : Transaction → Type 0 = λ w. is_of w x.request ≡ true in subst P is mine) in
      let own : cell v u x ≡ v x = rw mine' refl in
      omega (arith, sum_by-cons (λ u. cell v u x) u ts, own, no_more v x u ts mine' distinct.0))
  | inr apart ↦ (let other = of_another t u x.request mine apart in
      let own : cell v u x ≡ 0 = rw other refl in
      let later : list_any (same_transaction t) ts ≡ true = rw apart at there in
      omega (arith, sum_by-cons (λ u. cell v u x) u ts, own, once v x t ts distinct.1 mine later))
]

-- what transactions have together is what they have of each entry
together : (own : Transaction → ℕ) (v : Entry → ℕ) (H : List Entry) → ((t : Transaction) → own t ≡ sum_by (cell v t) H) → (ts : List Transaction) → sum_by own ts ≡ sum_by (λ x. sum_by (λ t. cell v t x) ts) H
together own v H is ts = sum_same own (λ t. sum_by (cell v t) H) ts (λ t _. is t) ∙ sums_swap (cell v) ts H

together_at_most : (own : Transaction → ℕ) (v : Entry → ℕ) (H : List Entry) → ((t : Transaction) → own t ≡ sum_by (cell v t) H) → (ts : List Transaction) → AreDistinct ts → sum_by own ts ≤ sum_by v H
together_at_most own v H is ts distinct =
    omega (arith, sum_by-le-sum_by (λ x. sum_by (λ t. cell v t x) ts) v H (λ x. once_at_most v x ts distinct), together own v H is ts)

-- an entry counts nothing, or its transaction is among them
counts : (v : Entry → ℕ) (ts : List Transaction) → AreDistinct ts → (x : Entry) → (v x ≡ 0) ⊎ IsAmong x ts → sum_by (λ t. cell v t x) ts ≡ v x
counts v ts distinct x (inl none) = omega (arith, none, once_at_most v x ts distinct)
counts v ts distinct x (inr among) = once v x among.of ts distinct among.mine among.there

-- the moment and login of a request of a transaction
record Place (day : ℕ → ℕ) (r : Request) : Type 0 where
  moment : ℕ
  login : List ℕ
  here : is_at moment login r ≡ true
  for : (l : List ℕ) (d : ℕ) → is_for day l d r ≡ (same_text l login && (day moment == d))

place_of : (day : ℕ → ℕ) (t : Transaction) (r : Request) → is_of t r ≡ true → Place day r
place_of day t (Reserve id txn moment login count) mine = record { moment = moment; login = login; here = rw (number_itself moment, text_itself login) refl; for = λ l d. refl }
place_of day t (Settle id txn moment login count) mine = record { moment = moment; login = login; here = rw (number_itself moment, text_itself login) refl; for = λ l d. refl }
place_of day t (Release id txn moment login) mine = record { moment = moment; login = login; here = rw (number_itself moment, text_itself login) refl; for = λ l d. refl }
place_of day t r mine = cc

-- What a transaction holds on its login's day, by entries.

open_mine : (H : List Entry) (t : Transaction) (r : Request) (a : Reply) → 0 < granted r a → is_of t r ≡ true → is_open H r ≡ not (closed H t)
open_mine H t (Reserve id txn moment login count) (Granted id' n) some mine = (let same = transaction_is t (transaction id txn) mine in ap (λ (u : Transaction). not (closed H u)) (sym same))
open_mine H t r a some mine = absurd (omega arith)

held_cell : (day : ℕ → ℕ) (H : List Entry) (l : List ℕ) (d : ℕ) (t : Transaction) (moment : ℕ) (login : List ℕ) (x : Entry) → IsUniformAt t moment login x →
    cell (reserved_of day H l d) t x ≡ (if (same_text l login && (day moment == d)) && not (closed H t) then held_of t x else 0)
held_cell day H l d t moment login x uniform = elim (either (is_of t x.request)) [
  | inr other ↦ rw other (sym (if_zero ((same_text l login && (day moment == d)) && not (closed H t)) 0 refl))
  | inl mine ↦ elim (zero_or_more (granted x.request x.reply)) [
    | inl none ↦ rw (mine, none) (if_zero (concerns day l d x.request && is_open H x.request) 0 refl ∙ sym (if_zero ((same_text l login && (day moment == d)) && not (closed H t)) 0 refl))
    | inr some ↦ (let c = concerned day moment login x.request x.reply (omega (arith, some)) (uniform mine (omega (arith, some))) l d in
        rw (mine, c, open_mine H t x.request x.reply some mine) refl)
  ]
]

held_if : (n shut : Bool) (a : ℕ) → (if n && not shut then a else 0) ≡ (if n then (if shut then 0 else a) else 0)
held_if n shut a = grind arith

-- a granted reserve of the transaction is abandoned with it
abandoned_mine : (H : List Entry) (t : Transaction) (r : Request) (a : Reply) → is_of t r ≡ true → (if is_abandoned H r then granted r a else 0) ≡ (if abandoned H t then granted r a else 0)
abandoned_mine H t (Reserve id txn moment login count) a mine = (let same = transaction_is t (transaction id txn) mine in ap (λ (u : Transaction). if abandoned H u then granted (Reserve id txn moment login count) a else 0) (sym same))
abandoned_mine H t r a mine = sym (if_zero (abandoned H t) 0 refl)

nothing_at_all : (c b : Bool) (k g : ℕ) → k ≡ 0 → g ≡ 0 → (if c then k + (if b then g else 0) else 0) ≡ 0
nothing_at_all c b k g h j = grind arith

settled_cell : (day : ℕ → ℕ) (H : List Entry) (l : List ℕ) (d : ℕ) (t : Transaction) (moment : ℕ) (login : List ℕ) (x : Entry) → IsUniformAt t moment login x →
    cell (settled_of day H l d) t x ≡ (if same_text l login && (day moment == d) then counted_of t x + (if abandoned H t then held_of t x else 0) else 0)
settled_cell day H l d t moment login x uniform = elim (either (is_of t x.request)) [
  | inr other ↦ rw other (sym (nothing_at_all (same_text l login && (day moment == d)) (abandoned H t) 0 0 refl refl))
  | inl mine ↦ elim (zero_or_more (moved x.request x.reply)) [
    | inl none ↦ (let k : counted x.request x.reply ≡ 0 = omega (arith, none) in
        let g : granted x.request x.reply ≡ 0 = omega (arith, none) in
        rw mine (nothing_at_all (concerns day l d x.request) (is_abandoned H x.request) (counted x.request x.reply) (granted x.request x.reply) k g
        ∙ sym (nothing_at_all (same_text l login && (day moment == d)) (abandoned H t) (counted x.request x.reply) (granted x.request x.reply) k g)))
    | inr some ↦ (let c = concerned day moment login x.request x.reply some (uniform mine some) l d in
        rw (mine, c, abandoned_mine H t x.request x.reply mine) refl)
  ]
]

-- what a transaction settled, by its entries
settled_sum : (H : List Entry) (t : Transaction) (n : Bool) → sum_by (λ x. if n then counted_of t x + (if abandoned H t then held_of t x else 0) else 0) H ≡ (if n then settled_in H t else 0)
settled_sum H t n =
    let part = sum_if (abandoned H t) (held_of t) H in
    let both = two_sums_are (counted_of t) (λ x. if abandoned H t then held_of t x else 0) (λ x. counted_of t x + (if abandoned H t then held_of t x else 0)) H (λ x _. refl) in
    let whole : sum_by (λ x. counted_of t x + (if abandoned H t then held_of t x else 0)) H ≡ settled_in H t = omega (arith, part, both) in
    sum_if n (λ x. counted_of t x + (if abandoned H t then held_of t x else 0)) H ∙ ap (λ m. if n then m else 0) whole

-- what a transaction has where it was named with the login and day is the sum of what its entries have of them
cells : (day : ℕ → ℕ) (H : List Entry) (l : List ℕ) (d : ℕ) → IsUniform H → (t : Transaction) (total : ℕ) (v : Entry → ℕ) (part : Bool → Entry → ℕ)
    → ((moment : ℕ) (login : List ℕ) (x : Entry) → IsUniformAt t moment login x → cell v t x ≡ part (same_text l login && (day moment == d)) x) → ((n : Bool) → sum_by (part n) H ≡ (if n then total else 0))
    → (if names_for day l d (named H t) then total else 0) ≡ sum_by (cell v t) H
cells day H l d uniform t total v part each whole = elim (option_cases (named H t)) [
  | inl none ↦ rw none (sym (sum_nothing (cell v t) H (λ x i. (let other : is_of t x.request ≡ false = not_found (λ y. is_of t y.request) H x none i in rw other refl))))
  | inr p ↦ (let place = place_of day t p.0.request (found (λ x. is_of t x.request) H p.0 p.1).1 in
      let same = uniform t place.moment place.login (rw p.1 place.here) in
      let n : Bool = same_text l place.login && (day place.moment == d) in
      rw (p.1, place.for l d) (sym (sum_same (cell v t) (part n) H (λ x i. each place.moment place.login x (all_at (IsUniformAt t place.moment place.login) H x same i)) ∙ whole n)))
]

held_cells : (day : ℕ → ℕ) (H : List Entry) (l : List ℕ) (d : ℕ) → IsUniform H → (t : Transaction) → held_on day H l d t ≡ sum_by (cell (reserved_of day H l d) t) H
held_cells day H l d uniform t = cells day H l d uniform t (held H t) (reserved_of day H l d) (λ n x. if n && not (closed H t) then held_of t x else 0) (held_cell day H l d t)
    (λ n. sum_if (n && not (closed H t)) (held_of t) H ∙ held_if n (closed H t) (granted_in H t))

settled_cells : (day : ℕ → ℕ) (H : List Entry) (l : List ℕ) (d : ℕ) → IsUniform H → (t : Transaction) → settled_on day H l d t ≡ sum_by (cell (settled_of day H l d) t) H
settled_cells day H l d uniform t = cells day H l d uniform t (settled_in H t) (settled_of day H l d) (λ n x. if n then counted_of t x + (if abandoned H t then held_of t x else 0) else 0) (settled_cell day H l d t) (settled_sum H t)

-- an entry that grants or settles is of a transaction
record Moves (r : Request) : Type 0 where
  of : Transaction
  mine : is_of of r ≡ true

moves : (r : Request) (a : Reply) → 0 < moved r a → Moves r
moves (Reserve id txn moment login count) (Granted id' n) some = record { of = transaction id txn; mine = transaction_itself (transaction id txn) }
moves (Settle id txn moment login count) (Settled id' n) some = record { of = transaction id txn; mine = transaction_itself (transaction id txn) }
moves r a some = absurd (omega arith)

together_all : (own : Transaction → ℕ) (v : Entry → ℕ) (H : List Entry) → ((t : Transaction) → own t ≡ sum_by (cell v t) H) → (ts : List Transaction) → AreDistinct ts → HasAllNamed H ts → ((x : Entry) → moved x.request x.reply ≡ 0 → v x ≡ 0) → sum_by own ts ≡ sum_by v H
together_all own v H is ts distinct has none_of = together own v H is ts ∙ sum_same (λ x. sum_by (λ t. cell v t x) ts) v H (λ x i. counts v ts distinct x (elim (zero_or_more (moved x.request x.reply)) [
  | inl none ↦ inl (none_of x none)
  | inr some ↦ (let m = moves x.request x.reply some in inr (record { of = m.of; mine = m.mine; there = has m.of (ap is_some (found_in (λ y. is_of m.of y.request) H x i m.mine).1) }))
]))

reserved_none : (day : ℕ → ℕ) (H : List Entry) (l : List ℕ) (d : ℕ) (x : Entry) → moved x.request x.reply ≡ 0 → reserved_of day H l d x ≡ 0
reserved_none day H l d x none = if_zero (concerns day l d x.request && is_open H x.request) (granted x.request x.reply) (omega (arith, none))

settled_none : (day : ℕ → ℕ) (H : List Entry) (l : List ℕ) (d : ℕ) (x : Entry) → moved x.request x.reply ≡ 0 → settled_of day H l d x ≡ 0
settled_none day H l d x none = nothing_at_all (concerns day l d x.request) (is_abandoned H x.request) (counted x.request x.reply) (granted x.request x.reply) (omega (arith, none)) (omega (arith, none))

-- The sums.

pub held_at_most : (day : ℕ → ℕ) (default : ℕ) (H : List Entry) (l : List ℕ) (d : ℕ) (ts : List Transaction) → IsLegal day default H → AreDistinct ts → sum_by (held_on day H l d) ts ≤ reserved day H l d
held_at_most day default H l d ts legal = together_at_most (held_on day H l d) (reserved_of day H l d) H (held_cells day H l d (legal_good day default H legal).uniform) ts

pub settled_at_most : (day : ℕ → ℕ) (default : ℕ) (H : List Entry) (l : List ℕ) (d : ℕ) (ts : List Transaction) → IsLegal day default H → AreDistinct ts → sum_by (settled_on day H l d) ts ≤ settled day H l d
settled_at_most day default H l d ts legal = together_at_most (settled_on day H l d) (settled_of day H l d) H (settled_cells day H l d (legal_good day default H legal).uniform) ts

pub held_by_all : (day : ℕ → ℕ) (default : ℕ) (H : List Entry) (l : List ℕ) (d : ℕ) (ts : List Transaction) → IsLegal day default H → AreDistinct ts → HasAllNamed H ts → sum_by (held_on day H l d) ts ≡ reserved day H l d
held_by_all day default H l d ts legal distinct has = together_all (held_on day H l d) (reserved_of day H l d) H (held_cells day H l d (legal_good day default H legal).uniform) ts distinct has (reserved_none day H l d)

pub settled_by_all : (day : ℕ → ℕ) (default : ℕ) (H : List Entry) (l : List ℕ) (d : ℕ) (ts : List Transaction) → IsLegal day default H → AreDistinct ts → HasAllNamed H ts → sum_by (settled_on day H l d) ts ≡ settled day H l d
settled_by_all day default H l d ts legal distinct has = together_all (settled_on day H l d) (settled_of day H l d) H (settled_cells day H l d (legal_good day default H legal).uniform) ts distinct has (settled_none day H l d)

-- One transaction.

for_at : (day : ℕ → ℕ) (moment : ℕ) (login : List ℕ) (r : Request) (p : Place day r) → is_at moment login r ≡ true → is_for day login (day moment) r ≡ true
for_at day moment login r p here =
    let one = one_place moment p.moment login p.login r here p.here in
    p.for login (day moment) ∙ both_so (same_text login p.login) (day p.moment == day moment) (ap (same_text login) (sym one.1) ∙ text_itself login) (ap (λ n. day n == day moment) (sym one.0) ∙ number_itself (day moment))

-- what a transaction has is part of what its login has on its day
one_at_most : (day : ℕ → ℕ) (H : List Entry) (t : Transaction) (moment : ℕ) (login : List ℕ) (total : ℕ) (v : Entry → ℕ) → agrees moment login (named H t) ≡ true → (named H t ≡ None → total ≡ 0)
    → (if names_for day login (day moment) (named H t) then total else 0) ≡ sum_by (cell v t) H → total ≤ sum_by v H
one_at_most day H t moment login total v agreed unheard is = elim (option_cases (named H t)) [
  | inl none ↦ omega (arith, unheard none)
  | inr p ↦ (let place = place_of day t p.0.request (found (λ x. is_of t x.request) H p.0 p.1).1 in
      let here = for_at day moment login p.0.request place (rw p.1 at agreed) in
      let own : total ≡ sum_by (cell v t) H = rw (p.1, here) at is in
      omega (arith, own, sum_by-le-sum_by (cell v t) v H (cell_le v t)))
]

pub held_is_reserved : (day : ℕ → ℕ) (default : ℕ) (H : List Entry) (t : Transaction) (moment : ℕ) (login : List ℕ) → IsLegal day default H → agrees moment login (named H t) ≡ true → held H t ≤ reserved day H login (day moment)
held_is_reserved day default H t moment login legal agreed = one_at_most day H t moment login (held H t) (reserved_of day H login (day moment)) agreed (unheard_held H t) (held_cells day H login (day moment) (legal_good day default H legal).uniform t)

pub settled_is_settled : (day : ℕ → ℕ) (default : ℕ) (H : List Entry) (t : Transaction) (moment : ℕ) (login : List ℕ) → IsLegal day default H → agrees moment login (named H t) ≡ true → settled_in H t ≤ settled day H login (day moment)
settled_is_settled day default H t moment login legal agreed = one_at_most day H t moment login (settled_in H t) (settled_of day H login (day moment)) agreed (unheard_settled H t) (settled_cells day H login (day moment) (legal_good day default H legal).uniform t)

-- Only where a reserve was granted is any used.

-- a granted reserve of that login and day is one
reserve_there : (day : ℕ → ℕ) (l : List ℕ) (d : ℕ) (r : Request) (a : Reply) → 0 < granted r a → concerns day l d r ≡ true → is_login l (login_on day d r a) ≡ true
reserve_there day l d (Reserve id txn moment login count) (Granted id' n) some here =
    let of_day : (day moment == d) ≡ true = second_so (same_text l login) (day moment == d) here in
    rw of_day (first_so (same_text l login) (day moment == d) here)
reserve_there day l d r a some here = absurd (omega arith)

none_concerns : (day : ℕ → ℕ) (H : List Entry) (l : List ℕ) (d : ℕ) → has_reserve day H d l ≡ false → (x : Entry) → In x H → 0 < granted x.request x.reply → concerns day l d x.request ≡ true → ⊥
none_concerns day H l d none x i some here =
    clash (is_login l (login_on day d x.request x.reply)) (reserve_there day l d x.request x.reply some here) (none_passes (λ y. is_login l (login_on day d y.request y.reply)) H x none i)

pub none_reserved : (day : ℕ → ℕ) (H : List Entry) (l : List ℕ) (d : ℕ) → has_reserve day H d l ≡ false → reserved day H l d ≡ 0
none_reserved day H l d h = sum_nothing (reserved_of day H l d) H (λ x i. elim (zero_or_more (granted x.request x.reply)) [
  | inl none ↦ if_zero (concerns day l d x.request && is_open H x.request) (granted x.request x.reply) none
  | inr some ↦ elim (either (concerns day l d x.request)) [ inr f ↦ rw f refl | inl t ↦ absurd (none_concerns day H l d h x i some t) ]
])

-- what a transaction was settled with it was granted
abbrev IsBacked : List Entry → Type 0
IsBacked H = (t : Transaction) → counted_in H t ≤ granted_in H t

backed_push : (H : List Entry) (r : Request) (a : Reply) → Opens H r a → IsBacked H → IsBacked (H ++ entry r a ∷ [])
backed_push H (Settle id txn moment login count) (Settled id' n) o backed = λ u.
    let e : Entry = entry (Settle id txn moment login count) (Settled id' n) in
    let t : Transaction = transaction id txn in
    elim (either (same_transaction u t)) [
      | inl same ↦ (let still : closed H u ≡ false = ap (closed H) (transaction_is u t same) ∙ o.0.open_still in
          let zero_settled = unended_counted H u (neither_second (has_retired_run H u) (ended H u) still) in
          let enough : count ≤ held H u = rw (transaction_is u t same) o.1 in
          let have : count ≤ granted_in H u = rw still at enough in
          let own : counted_of u e ≤ count = rw same (omega arith) in
          omega (arith, own, zero_settled, have, counted_in_push H e u, granted_in_push H e u))
      | inr apart ↦ (let own : counted_of u e ≡ 0 = rw apart refl in omega (arith, own, backed u, counted_in_push H e u, granted_in_push H e u))
    ]
backed_push H r a o backed = λ u.
    let own : counted_of u (entry r a) ≡ 0 = if_zero (is_of u r) 0 refl in
    omega (arith, own, backed u, counted_in_push H (entry r a) u, granted_in_push H (entry r a) u)

legal_backed : (day : ℕ → ℕ) (default : ℕ) (H : List Entry) → IsLegal day default H → IsBacked H
legal_backed day default = of_legal day default IsBacked (λ t. omega arith) (λ H r backed. backed_push H r (answer day default H r) (answer_opens day default H r) backed)

part_le : {X : Type 0} (f : X → ℕ) (xs : List X) (x : X) → In x xs → f x ≤ sum_by f xs
part_le f [] x i = absurd i
part_le f (y ∷ xs) x (inl e) = (let same : f y ≡ f x = ap f e in omega (arith, same, sum_by-cons f y xs))
part_le f (y ∷ xs) x (inr i) = omega (arith, part_le f xs x i, sum_by-cons f y xs)

-- a settled settle of that login and day is backed by a granted reserve
settled_has : (day : ℕ → ℕ) (H : List Entry) (l : List ℕ) (d : ℕ) → IsUniform H → IsBacked H → has_reserve day H d l ≡ false → (x : Entry) → In x H → 0 < counted x.request x.reply → concerns day l d x.request ≡ true → ⊥
settled_has day H l d uniform backed none x i some here =
    let m = moves x.request x.reply (omega (arith, some)) in
    let own : counted_of m.of x ≡ counted x.request x.reply = rw m.mine refl in
    let part = some_part (held_of m.of) H (omega (arith, own, some, part_le (counted_of m.of) H x i, backed m.of)) in
    let naming = found_in (λ y. is_of m.of y.request) H x i m.mine in
    let place = place_of day m.of naming.0.request (found (λ y. is_of m.of y.request) H naming.0 naming.1).1 in
    let same = uniform m.of place.moment place.login (rw naming.1 place.here) in
    let own_day : (y : Entry) → In y H → is_of m.of y.request ≡ true → 0 < moved y.request y.reply → concerns day l d y.request ≡ (same_text l place.login && (day place.moment == d)) = λ y j mine more.
    concerned day place.moment place.login y.request y.reply more (all_at (IsUniformAt m.of place.moment place.login) H y same j mine more) l d in
    elim (either (is_of m.of part.at.request)) [
      | inr other ↦ (let zero_held : held_of m.of part.at ≡ 0 = rw other refl in absurd (omega (arith, zero_held, part.some)))
      | inl mine ↦ (let is_held : held_of m.of part.at ≡ granted part.at.request part.at.reply = rw mine refl in
          let granted_some : 0 < granted part.at.request part.at.reply = omega (arith, is_held, part.some) in
          none_concerns day H l d none part.at part.among granted_some (own_day part.at part.among mine (omega (arith, granted_some)) ∙ sym (own_day x i m.mine (omega (arith, some))) ∙ here))
    ]

pub none_settled : (day : ℕ → ℕ) (default : ℕ) (H : List Entry) (l : List ℕ) (d : ℕ) → IsLegal day default H → has_reserve day H d l ≡ false → settled day H l d ≡ 0
none_settled day default H l d legal h = sum_nothing (settled_of day H l d) H (λ x i. elim (either (concerns day l d x.request)) [
  | inr f ↦ rw f refl
  | inl t ↦ elim (zero_or_more (counted x.request x.reply)) [
    | inr own ↦ absurd (settled_has day H l d (legal_good day default H legal).uniform (legal_backed day default H legal) h x i own t)
    | inl no_own ↦ elim (zero_or_more (granted x.request x.reply)) [
      | inr own ↦ absurd (none_concerns day H l d h x i own t)
      | inl no_grant ↦ nothing_at_all (concerns day l d x.request) (is_abandoned H x.request) (counted x.request x.reply) (granted x.request x.reply) no_own no_grant
    ]
  ]
])

-- Amounts.

pub used_amounts : (day : ℕ → ℕ) (default : ℕ) (H : List Entry) (l : List ℕ) (d : ℕ) → IsAmount default → IsDayRule day → IsLegal day default H → IsAmount (used day H l d) × IsAmount (reserved day H l d) × IsAmount (settled day H l d) × IsAmount (cap default H l d)
used_amounts day default H l d low days legal =
    let ranged = legal_ranged day default H low days legal in
    let most = used_fits day default H ranged l d in
    (amount _ most, amount _ (omega (arith, most)), amount _ (omega (arith, most)), amount _ (cap_fits default H ranged.low ranged.all l d))

pub held_amounts : (day : ℕ → ℕ) (default : ℕ) (H : List Entry) (t : Transaction) → IsAmount default → IsDayRule day → IsLegal day default H → IsAmount (held H t) × IsAmount (settled_in H t)
held_amounts day default H t low days legal = elim (option_cases (named H t)) [
  | inl none ↦ (amount _ (omega (arith, unheard_held H t none)), amount _ (omega (arith, unheard_settled H t none)))
  | inr p ↦ (let place = place_of day t p.0.request ((found (λ x. is_of t x.request) H p.0 p.1).1) in
      let agreed : agrees place.moment place.login (named H t) ≡ true = rw p.1 place.here in
      let most = used_fits day default H (legal_ranged day default H low days legal) place.login (day place.moment) in
      (amount _ (omega (arith, most, held_is_reserved day default H t place.moment place.login legal agreed)), amount _ (omega (arith, most, settled_is_settled day default H t place.moment place.login legal agreed))))
]
