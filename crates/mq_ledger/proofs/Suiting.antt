-- Each reply is one to its request; and what the ledger grants, settles and releases is of open transactions.
use Rattle.mq_ledger.proofs.Words.{AllByRecursion, Entry, Granted, Id, IsLegal, IsOpenTo, Limit, List, ListRequest, None, Old, Option, Release, Released, Reply, Request, Reserve, Retire, Retired, Settle, Settled, Some, Suits, Usage, all_at, all_push, answer, cap, either, granted_or_full, has_id}
use Rattle.mq_ledger.proofs.Words.{held, id_of, inl, inr, is_below, none_some, refl, reply, reply_by, reply_to, requests, same_request, settled_or_too_many, some_is, stored, subst, sym, transaction, true, used, ℕ, ◌≡◌, ◌≤◌}
use Rattle.mq_request.specs.declared.message.Reply.TheVariants.{Conflict}
use Rattle.mq_ledger.proofs.Answering.{by_open, by_room, by_held, by_over, of_legal}
use Rattle.mq_ledger.proofs.Basics.{found}
use Rattle.mq_ledger.proofs.Transactions.{entry}

-- Kinds and numbers.

pub answer_suits : (day : ℕ → ℕ) (default : ℕ) (H : List Entry) (r : Request) → Suits r (answer day default H r)
answer_suits day default H (Reserve id txn moment login count) =
    let P : Reply → Type 0 = Suits (Reserve id txn moment login count) in
    let n : ℕ = used day H login (day moment) in
    let limit : ℕ = cap default H login (day moment) in
    by_open P H id txn moment login (granted_or_full id n limit count) refl refl (λ _. by_room P id n limit count refl (λ _. refl))
answer_suits day default H (Settle id txn moment login count) =
    let P : Reply → Type 0 = Suits (Settle id txn moment login count) in
    let n : ℕ = held H (transaction id txn) in
    by_open P H id txn moment login (settled_or_too_many id n count) refl refl (λ _. by_held P id n count refl (λ _. (refl, refl)))
answer_suits day default H (Release id txn moment login) = by_open (Suits (Release id txn moment login)) H id txn moment login (Released id (held H (transaction id txn))) refl refl (λ _. refl)
answer_suits day default H (Limit id from c login) = by_over (Suits (Limit id from c login)) day H id from c login (λ _. refl) (λ d _. refl)
answer_suits day default H (Usage login d) = (refl, refl)
answer_suits day default H (ListRequest d after) = refl
answer_suits day default H (Retire id) = refl

abbrev pub AreSuited : List Entry → Type 0
AreSuited H = AllByRecursion (λ e. Suits e.request e.reply) H

pub legal_suited : (day : ℕ → ℕ) (default : ℕ) (H : List Entry) → IsLegal day default H → AreSuited H
legal_suited day default = of_legal day default AreSuited tt (λ H r all. all_push (λ e. Suits e.request e.reply) H (entry r (answer day default H r)) all (answer_suits day default H r))

-- each numbered request can get what has its number alone
numbered_suits : (r : Request) (id : Id) → id_of r ≡ Some id → Suits r (Conflict id) × Suits r (Old id)
numbered_suits (Usage login d) id e = absurd (none_some id e)
numbered_suits (ListRequest d after) id e = absurd (none_some id e)
numbered_suits r id e = (sym (some_is _ _ e), sym (some_is _ _ e))

-- the test of two requests finds equal ones
abbrev pub FindsSame : Type 0
FindsSame = (r q : Request) → same_request r q ≡ true → r ≡ q

reply_by_suits : FindsSame → (day : ℕ → ℕ) (default : ℕ) (H : List Entry) (r : Request) (id : Id) → AreSuited H → id_of r ≡ Some id → (o : Option Entry) → stored H id ≡ o → Suits r (reply_by day default H r id o)
reply_by_suits finds day default H r id all e None h = answer_suits day default H r
reply_by_suits finds day default H r id all e (Some x) h = elim (either (same_request r x.request)) [
  | inl t ↦ rw t (let P : Request → Type 0 = λ q. Suits q x.reply in subst P (sym (finds r x.request t)) (all_at (λ e. Suits e.request e.reply) H x all (found (λ e. has_id id e.request) H x h).0))
  | inr f ↦ rw f (numbered_suits r id e).0
]

reply_to_suits : FindsSame → (day : ℕ → ℕ) (default : ℕ) (H : List Entry) (r : Request) → AreSuited H → (o : Option Id) → id_of r ≡ o → Suits r (reply_to day default H r o)
reply_to_suits finds day default H r all None e = answer_suits day default H r
reply_to_suits finds day default H r all (Some id) e = elim (either (is_below (requests H) id)) [
  | inl t ↦ rw t (numbered_suits r id e).1
  | inr f ↦ rw f (reply_by_suits finds day default H r id all e (stored H id) refl)
]

pub reply_suits : FindsSame → (day : ℕ → ℕ) (default : ℕ) (H : List Entry) (r : Request) → IsLegal day default H → Suits r (reply day default H r)
reply_suits finds day default H r legal = reply_to_suits finds day default H r (legal_suited day default H legal) (id_of r) refl

-- What is granted, settled and released.

abbrev pub IsSettledOf : List Entry → Id → ℕ → ℕ → List ℕ → ℕ → Type 0
IsSettledOf H id txn moment login count = IsOpenTo moment login H (transaction id txn) × (count ≤ held H (transaction id txn))

-- the transaction that an answer grants to, settles or releases is open; and what is settled is held
abbrev pub Opens : List Entry → Request → Reply → Type 0
Opens H (Reserve id txn moment login count) (Granted id' n) = IsOpenTo moment login H (transaction id txn)
Opens H (Settle id txn moment login count) (Settled id' n) = IsSettledOf H id txn moment login count
Opens H (Release id txn moment login) (Released id' n) = IsOpenTo moment login H (transaction id txn)
Opens H (Retire id) (Retired id') = Unit {0}
Opens H (Retire id) _ = ⊥
Opens H _ _ = Unit {0}

pub answer_opens : (day : ℕ → ℕ) (default : ℕ) (H : List Entry) (r : Request) → Opens H r (answer day default H r)
answer_opens day default H (Reserve id txn moment login count) =
    let P : Reply → Type 0 = Opens H (Reserve id txn moment login count) in
    let n : ℕ = used day H login (day moment) in
    let limit : ℕ = cap default H login (day moment) in
    by_open P H id txn moment login (granted_or_full id n limit count) tt tt (λ o. by_room P id n limit count tt (λ _. o))
answer_opens day default H (Settle id txn moment login count) =
    let P : Reply → Type 0 = Opens H (Settle id txn moment login count) in
    let n : ℕ = held H (transaction id txn) in
    by_open P H id txn moment login (settled_or_too_many id n count) tt tt (λ o. by_held P id n count tt (λ enough. (o, enough)))
answer_opens day default H (Release id txn moment login) = by_open (Opens H (Release id txn moment login)) H id txn moment login (Released id (held H (transaction id txn))) tt tt (λ o. o)
answer_opens day default H (Limit id from c login) = by_over (Opens H (Limit id from c login)) day H id from c login (λ _. tt) (λ d _. tt)
answer_opens day default H r = tt
