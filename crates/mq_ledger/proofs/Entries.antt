-- What one more entry does, as equations.
use Rattle.mq_ledger.proofs.Words.{Bool, Entry, Granted, List, None, Release, Released, Reply, Request, Reserve, Retire, Settle, Settled, Suits, Transaction, [], arith, cap, cap_of, clash, closed, closes, counted, counted_in, either, ended, false, from_of, governs, granted, granted_in}
use Rattle.mq_ledger.proofs.Words.{has_retired_run, held, if_zero, if◌then◌else◌, inl, inr, is_of, latest, limits, named, nat_le, nat_tests, not, refl, retires, same_transaction, settled_in, sum_by_push, transaction, true, ℕ, ◌&&◌, ◌++◌, ◌+◌, ◌||◌, ◌∙◌, ◌∷◌, ◌≡◌}
use Rattle.mq_lemmas.proofs.Booleans.{and_false, neither}
use Rattle.mq_ledger.proofs.Basics.{sum_nothing, none_passes, any_nothing, not_found}
use Rattle.mq_ledger.proofs.LimitFacts.{cap_push_other, cap_push_newer, cap_push_older}
use Rattle.mq_ledger.proofs.Suiting.{Opens}
use Rattle.mq_ledger.proofs.Transactions.{entry, at_its, ended_push, has_retired_run_push, closed_push, held_of}

abbrev pub counted_of : Transaction → Entry → ℕ
counted_of t x = if is_of t x.request then counted x.request x.reply else 0

pub granted_in_push : (H : List Entry) (e : Entry) (t : Transaction) → granted_in (H ++ e ∷ []) t ≡ granted_in H t + held_of t e
granted_in_push H e t = sum_by_push (held_of t) H e

pub counted_in_push : (H : List Entry) (e : Entry) (t : Transaction) → counted_in (H ++ e ∷ []) t ≡ counted_in H t + counted_of t e
counted_in_push H e t = sum_by_push (counted_of t) H e

held_step : (g c n : Bool) (a h : ℕ) → (if g || (c || n) then 0 else a + h) ≡ (if g || (c || n) then 0 else (if c then 0 else a) + h)
held_step g c n a h = grind arith

pub held_push : (H : List Entry) (e : Entry) (t : Transaction) → held (H ++ e ∷ []) t ≡ (if retires e.request t || (closed H t || (is_of t e.request && closes e.reply)) then 0 else held H t + (if is_of t e.request then granted e.request e.reply else 0))
held_push H e t = (λ i. if closed_push H e t i then 0 else granted_in_push H e t i) ∙ held_step (retires e.request t) (closed H t) (is_of t e.request && closes e.reply) (granted_in H t) (held_of t e)

-- An answer moves nothing of a transaction that is closed.

pub record Quiet (t : Transaction) (r : Request) (a : Reply) : Type 0 where
  pub no_end : (is_of t r && closes a) ≡ false
  pub no_grant : held_of t (entry r a) ≡ 0

-- a closed transaction isn't the one that is open
not_open : (H : List Entry) (t u : Transaction) → closed H u ≡ false → closed H t ≡ true → same_transaction t u ≡ false
not_open H t u still shut = elim (either (same_transaction t u)) [ inr f ↦ f | inl s ↦ absurd (clash (closed H u) (at_its (closed H) t u true s shut) still) ]

pub moves_open_alone : (H : List Entry) (t : Transaction) (r : Request) (a : Reply) → Suits r a → Opens H r a → closed H t ≡ true → Quiet t r a
moves_open_alone H t (Reserve id txn moment login count) (Granted id' n) s o shut =
    (let other = not_open H t (transaction id txn) o.open_still shut in record { no_end = and_false (same_transaction t (transaction id txn)); no_grant = rw other refl })
moves_open_alone H t (Settle id txn moment login count) (Settled id' n) s o shut =
    (let other = not_open H t (transaction id txn) o.0.open_still shut in record { no_end = rw other refl; no_grant = if_zero (same_transaction t (transaction id txn)) 0 refl })
moves_open_alone H t (Release id txn moment login) (Released id' n) s o shut =
    (let other = not_open H t (transaction id txn) o.open_still shut in record { no_end = rw other refl; no_grant = if_zero (same_transaction t (transaction id txn)) 0 refl })
moves_open_alone H t r (Settled id' n) s o shut = absurd s
moves_open_alone H t r (Released id' n) s o shut = absurd s
moves_open_alone H t r a s o shut = record { no_end = and_false (is_of t r); no_grant = if_zero (is_of t r) 0 refl }

-- a retire is of no transaction
pub retires_of_none : (t u : Transaction) (r : Request) → retires r u ≡ true → is_of t r ≡ false
retires_of_none t u (Retire id) g = refl
retires_of_none t u r g = cc

settled_step : (gone before over of shuts : Bool) (settled granted k g : ℕ) → (gone ≡ true → of ≡ false) → (before ≡ true → (of && shuts) ≡ false) → (before ≡ true → (if of then g else 0) ≡ 0)
    → (settled + (if of then k else 0)) + (if (gone || before) && not (over || (of && shuts)) then granted + (if of then g else 0) else 0) ≡ (settled + (if before && not over then granted else 0)) + (if of then k else 0) + (if gone then (if before || over then 0 else granted) else 0)
settled_step gone before over of shuts settled granted k g apart no_end no_grant = grind arith

pub settled_in_push : (H : List Entry) (e : Entry) (t : Transaction) → Suits e.request e.reply → Opens H e.request e.reply → settled_in (H ++ e ∷ []) t ≡ settled_in H t + (if is_of t e.request then counted e.request e.reply else 0) + (if retires e.request t then held H t else 0)
settled_in_push H e t s o =
    let quiet : has_retired_run H t ≡ true → Quiet t e.request e.reply = λ before. moves_open_alone H t e.request e.reply s o (rw before refl) in
    (λ i. counted_in_push H e t i + (if has_retired_run_push H e t i && not (ended_push H e t i) then granted_in_push H e t i else 0))
    ∙ settled_step (retires e.request t) (has_retired_run H t) (ended H t) (is_of t e.request) (closes e.reply) (counted_in H t) (granted_in H t) (counted e.request e.reply) (granted e.request e.reply)
    (retires_of_none t t e.request) (λ before. (quiet before).no_end) (λ before. (quiet before).no_grant)

counts_where_closes : (r : Request) (a : Reply) → closes a ≡ false → counted r a ≡ 0
counts_where_closes (Settle id txn moment login count) (Settled id' n) h = cc
counts_where_closes r a h = refl

-- a transaction that was neither settled nor released settled nothing of its own
pub unended_counted : (H : List Entry) (t : Transaction) → ended H t ≡ false → counted_in H t ≡ 0
unended_counted H t h = sum_nothing (counted_of t) H (λ x i. elim (either (is_of t x.request)) [
  | inr other ↦ rw other refl
  | inl of ↦ (let quiet : (is_of t x.request && closes x.reply) ≡ false = none_passes (λ y. is_of t y.request && closes y.reply) H x h i in
      rw of (counts_where_closes x.request x.reply (rw of at quiet)))
])

-- an open transaction settled nothing
pub open_settled : (H : List Entry) (t : Transaction) → closed H t ≡ false → settled_in H t ≡ 0
open_settled H t h =
    let parts = neither (has_retired_run H t) (ended H t) h in
    rw parts.0 (omega (arith, unended_counted H t parts.1))

-- what was granted to a transaction that was neither settled nor released is held or settled
pub unended_kept : (H : List Entry) (t : Transaction) → ended H t ≡ false → held H t + settled_in H t ≡ granted_in H t
unended_kept H t h = rw h (kept (has_retired_run H t) (counted_in H t) (granted_in H t) (unended_counted H t h)) where
  kept : (g : Bool) (k a : ℕ) → k ≡ 0 → (if g || false then 0 else a) + (k + (if g && not false then a else 0)) ≡ a
  kept g k a none = grind arith

pub unheard_ended : (H : List Entry) (t : Transaction) → named H t ≡ None → ended H t ≡ false
unheard_ended H t h = any_nothing (λ x. is_of t x.request && closes x.reply) H (λ x i. (let other : is_of t x.request ≡ false = not_found (λ y. is_of t y.request) H x h i in rw other refl))

pub unheard_granted : (H : List Entry) (t : Transaction) → named H t ≡ None → granted_in H t ≡ 0
unheard_granted H t h = sum_nothing (held_of t) H (λ x i. (let other : is_of t x.request ≡ false = not_found (λ y. is_of t y.request) H x h i in rw other refl))

pub unheard_held : (H : List Entry) (t : Transaction) → named H t ≡ None → held H t ≡ 0
unheard_held H t h = omega (arith, unended_kept H t (unheard_ended H t h), unheard_granted H t h)

pub unheard_settled : (H : List Entry) (t : Transaction) → named H t ≡ None → settled_in H t ≡ 0
unheard_settled H t h = omega (arith, unended_kept H t (unheard_ended H t h), unheard_granted H t h)

pub cap_push : (default : ℕ) (H : List Entry) (e : Entry) (l : List ℕ) (d : ℕ) → cap default (H ++ e ∷ []) l d ≡ (if governs l d e && nat_le (latest (limits H l d)) (from_of e.request) then cap_of e.request else cap default H l d)
cap_push default H e l d = elim (either (governs l d e)) [
  | inr f ↦ rw f (cap_push_other default H l d e f)
  | inl t ↦ elim (either (nat_le (latest (limits H l d)) (from_of e.request))) [
    | inl newer ↦ rw (t, newer) (cap_push_newer default H l d e t (grind (arith, nat_tests, newer)))
    | inr older ↦ rw (t, older) (cap_push_older default H l d e t (grind (arith, nat_tests, older)))
  ]
]
