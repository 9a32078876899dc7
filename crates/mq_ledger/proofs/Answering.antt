-- What holds of each answer that a request may get holds of its answer, and what each answer keeps holds of every legal history.
use Rattle.mq_ledger.proofs.Words.{Closed, Entry, Full, Granted, Id, IsLegal, IsOpenTo, LimitSet, List, Mismatch, None, Over, Reply, Request, Settled, Some, TooMany, [], agrees, appended, arith, build, by_pushes, closed, either, fold_push, granted_or_full, if_open, inl, inr, named, nat_lt}
use Rattle.mq_ledger.proofs.Words.{nat_tests, option_cases, over, requests, set_or_over, settled_or_too_many, subst, sym, transaction, used, ℕ, ◌+◌, ◌≡◌, ◌≤◌}

-- where the transaction isn't open, the answer says so
pub by_open : (P : Reply → Type 0) (H : List Entry) (id : Id) (txn moment : ℕ) (login : List ℕ) (a : Reply) → P (Mismatch id) → P (Closed id) → (IsOpenTo moment login H (transaction id txn) → P a) → P (if_open H id txn moment login a)
by_open P H id txn moment login a mismatch shut given = elim (either (agrees moment login (named H (transaction id txn)))) [
  | inr f ↦ rw f mismatch
  | inl t ↦ elim (either (closed H (transaction id txn))) [
    | inl s ↦ rw (t, s) shut
    | inr still ↦ rw (t, still) (given (record { agreed = t; open_still = still }))
  ]
]

pub by_room : (P : Reply → Type 0) (id : Id) (n limit count : ℕ) → P (Full id n limit) → (n + count ≤ limit → P (Granted id (n + count))) → P (granted_or_full id n limit count)
by_room P id n limit count full room = elim (either (nat_lt limit (n + count))) [ inl t ↦ rw t full | inr f ↦ rw f (room (grind (arith, nat_tests, f))) ]

pub by_held : (P : Reply → Type 0) (id : Id) (n count : ℕ) → P (TooMany id n) → (count ≤ n → P (Settled id count)) → P (settled_or_too_many id n count)
by_held P id n count less enough = elim (either (nat_lt n count)) [ inl t ↦ rw t less | inr f ↦ rw f (enough (grind (arith, nat_tests, f))) ]

pub by_over : (P : Reply → Type 0) (day : ℕ → ℕ) (H : List Entry) (id : Id) (from c : ℕ) (login : List ℕ) → (over day H login from c ≡ None → P (LimitSet id)) → ((d : ℕ) → over day H login from c ≡ Some d → P (Over id d (used day H login d))) → P (set_or_over day H id login (over day H login from c))
by_over P day H id from c login set more = elim (option_cases (over day H login from c)) [ inl none ↦ rw none (set none) | inr p ↦ rw p.1 (more p.0 p.1) ]

-- from the empty history on, by one answer more
pub of_legal : (day : ℕ → ℕ) (default : ℕ) (P : List Entry → Type 0) → P [] → ((H : List Entry) (r : Request) → P H → P (appended day default H r)) → (H : List Entry) → IsLegal day default H → P H
of_legal day default P none more H legal = subst P (sym legal.built) (by_pushes (λ rs. P (build day default rs)) none (λ rs r p. subst P (sym (fold_push (appended day default) [] rs r)) (more (build day default rs) r p)) (requests H))
