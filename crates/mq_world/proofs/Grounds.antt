-- What was let through was granted in some ledger, under numbers of the run. H has the entries of all ledgers.
use Rattle.mq_world.proofs.Words.{Action, AreUnderway, Ask, RecipientAnswer, Bool, Close, CloseEnd, Closed, Drain, Entry, Exchange, HeldTransaction, In, IsUnderway, List, Live, Never, None, Option, Reply, Request, Some, Source, TransactionState, Step, Transaction, View, [], after, after_ask, after_close, answer_of, ap, arith}
use Rattle.mq_world.proofs.Words.{clash, either, false, granted, granted_in, held_by, if◌then◌else◌, inl, inr, is_of, is_other, length, let_through, let_through_at, nat_le, nat_tests, neither_first, neither_second, none_some, not, not_false, number_is, opened, refl, refuses, reserve_of, same_text}
use Rattle.mq_world.proofs.Words.{same_transaction, some_is, subst, sum_by, sum_by-le-sum_by, sym, tries_in, true, view, ℕ, ◌&&◌, ◌+◌, ◌==◌, ◌∙◌, ◌∷◌, ◌≡◌, ◌≤◌}
use Rattle.mq_request.specs.declared.message.Reply.TheVariants as reply
use Rattle.mq_client.specs.declared.recipient_answer.RecipientAnswer.TheVariants as asked
use Rattle.mq_client.proofs.WaitingOff.{seq_of}
use Rattle.mq_world.proofs.Basics.{sum_grows}
use Rattle.mq_world.proofs.Ranges.{next_among, free_ask}

abbrev pub of_source : Source → ℕ → Transaction
of_source s t = record { host = s.host; run = s.run; txn = t }

abbrev pub is_grant : Reply → Bool
is_grant (reply.Granted id used) = true
is_grant _ = false

-- the reserve under the next number was granted
pub record GrantedIn (s : Source) (H : List Entry) (n txn moment : ℕ) (login : List ℕ) : Type 0 where
  pub entry : Entry
  pub among : In entry H
  pub request : entry.request ≡ reserve_of s (n + 1) txn moment login
  pub granted : is_grant entry.reply ≡ true

-- on F or a later day a recipient that was let through was granted
abbrev pub IsGround : (day : ℕ → ℕ) → (F : ℕ) → Source → List Entry → View → Action → List Exchange → Type 0
IsGround day F s H v (Ask txn moment login) g = answer_of g ≡ asked.Granted → F ≤ day moment → GrantedIn s H v.numbers txn moment login
IsGround day F s H v (Close txn end) g = Unit {0}
IsGround day F s H v Drain g = Unit {0}

abbrev pub IsGrounded : (day : ℕ → ℕ) → (F : ℕ) → Source → List Entry → List Step → Type 0
IsGrounded day F s H [] = Unit {0}
IsGrounded day F s H (x ∷ P) = IsGround day F s H (view s P) x.action x.group × IsGrounded day F s H P

-- the moment of a transaction
abbrev pub at_of : TransactionState → ℕ
at_of Never = 0
at_of (Live h) = h.moment
at_of (Closed end number h) = h.moment

abbrev pub let_at : TransactionState → ℕ
let_at Never = 0
let_at (Live h) = h.granted
let_at (Closed end number h) = h.granted

abbrev pub one_upto : Transaction → ℕ → Entry → ℕ
one_upto t n e = if is_of t e.request && nat_le (seq_of e.request) n then granted e.request e.reply else 0

-- what was granted of the transaction under numbers up to that
abbrev pub upto : List Entry → Transaction → ℕ → ℕ
upto H t n = sum_by (one_upto t n) H

one_more : (t : Transaction) (n : ℕ) (e : Entry) → one_upto t n e ≤ one_upto t (n + 1) e
one_more t n e = elim (either (nat_le (seq_of e.request) n)) [
  | inr f ↦ (let z : one_upto t n e ≡ 0 = elim (either (is_of t e.request)) [ inl y ↦ rw (y, f) refl | inr k ↦ rw k refl ] in omega (arith, z))
  | inl y ↦ (let m : nat_le (seq_of e.request) (n + 1) ≡ true = grind (arith, nat_tests, y) in rw (y, m) (omega arith))
]

pub upto_more : (H : List Entry) (t : Transaction) (n : ℕ) → upto H t n ≤ upto H t (n + 1)
upto_more H t n = sum_by-le-sum_by (one_upto t n) (one_upto t (n + 1)) H (one_more t n)

pub upto_all : (H : List Entry) (t : Transaction) (n : ℕ) → upto H t n ≤ granted_in H t
upto_all H t n = sum_by-le-sum_by (one_upto t n) (λ e. if is_of t e.request then granted e.request e.reply else 0) H (λ e. elim (either (is_of t e.request)) [
  | inl y ↦ elim (either (nat_le (seq_of e.request) n)) [ inl m ↦ rw (y, m) (omega arith) | inr m ↦ rw (y, m) (omega arith) ]
  | inr k ↦ rw k (omega arith)
])

granted_one : (s : Source) (n txn moment : ℕ) (login : List ℕ) (a : Reply) → is_grant a ≡ true → granted (reserve_of s n txn moment login) a ≡ 1
granted_one s n txn moment login (reply.Granted i u) h = refl
granted_one s n txn moment login a h = absurd (clash false h refl)

abbrev pub IsSameAsItself : Type 0
IsSameAsItself = (t : Transaction) → same_transaction t t ≡ true

one_there : IsSameAsItself → (s : Source) (n txn moment : ℕ) (login : List ℕ) (r : Request) (a : Reply) → r ≡ reserve_of s (n + 1) txn moment login → is_grant a ≡ true
    → one_upto (of_source s txn) n (record { request = r; reply = a }) + 1 ≤ one_upto (of_source s txn) (n + 1) (record { request = r; reply = a })
one_there I s n txn moment login r a e h =
    let F : Request → Type 0 = λ q. one_upto (of_source s txn) n (record { request = q; reply = a }) + 1 ≤ one_upto (of_source s txn) (n + 1) (record { request = q; reply = a }) in
    let y : same_transaction (of_source s txn) (of_source s txn) ≡ true = I (of_source s txn) in
    let m : nat_le (n + 1) (n + 1) ≡ true = grind (arith, nat_tests) in
    let k : nat_le (n + 1) n ≡ false = grind (arith, nat_tests) in
    subst F (sym e) (rw (y, m, k, granted_one s (n + 1) txn moment login a h) (omega arith))

upto_grows : IsSameAsItself → (s : Source) (H : List Entry) (n txn moment : ℕ) (login : List ℕ) → GrantedIn s H n txn moment login → upto H (of_source s txn) n + 1 ≤ upto H (of_source s txn) (n + 1)
upto_grows I s H n txn moment login g = sum_grows (one_upto (of_source s txn) n) (one_upto (of_source s txn) (n + 1)) (one_more (of_source s txn) n) g.entry H g.among (one_there I s n txn moment login g.entry.request g.entry.reply g.request g.granted)

-- what was let through of a transaction of F or a later day
abbrev pub AllLet : (day : ℕ → ℕ) → (F : ℕ) → Source → List Entry → View → Type 0
AllLet day F s H v = (t : ℕ) → F ≤ day (at_of (v.standing t)) → let_at (v.standing t) ≤ upto H (of_source s t) v.numbers

opened_let : (day : ℕ → ℕ) (F moment : ℕ) (login : List ℕ) (st : TransactionState) (n : ℕ) → (opened moment login (held_by st)).moment ≡ moment → F ≤ day moment → (F ≤ day (at_of st) → let_at st ≤ n) → (opened moment login (held_by st)).granted ≤ n
opened_let day F moment login (Live h) n same f all = all (subst (λ x. F ≤ day x) (sym same) f)
opened_let day F moment login st n same f all = omega arith

let_here : IsSameAsItself → (s : Source) (H : List Entry) (n txn moment : ℕ) (login : List ℕ) (a : RecipientAnswer) (h : HeldTransaction) → (a ≡ asked.Granted → GrantedIn s H n txn moment login) → h.granted ≤ upto H (of_source s txn) n → (let_through a h).granted ≤ upto H (of_source s txn) (n + 1)
let_here I s H n txn moment login asked.Granted h ground le = (let m = upto_grows I s H n txn moment login (ground refl) in omega (arith, le, m))
let_here I s H n txn moment login a h ground le = (let m = upto_more H (of_source s txn) n in omega (arith, le, m))

-- an ask that isn't refused is of the moment of its transaction
opened_at : (moment : ℕ) (login : List ℕ) (o : Option HeldTransaction) (live numbers waiting : ℕ) → refuses o live numbers waiting moment login ≡ false → (opened moment login o).moment ≡ moment
opened_at moment login None live numbers waiting free = refl
opened_at moment login (Some h) live numbers waiting free =
    let same : is_other h moment login ≡ false = neither_first (is_other h moment login) _ free in
    number_is h.moment moment (not_false (h.moment == moment) (neither_second (not (same_text h.login login)) (not (h.moment == moment)) same))

let_ask : (day : ℕ → ℕ) (F : ℕ) → IsSameAsItself → (s : Source) (H : List Entry) (v : View) (txn moment : ℕ) (login : List ℕ) (x : Exchange) (g : List Exchange) → (opened moment login (held_by (v.standing txn))).moment ≡ moment
    → (answer_of (x ∷ g) ≡ asked.Granted → F ≤ day moment → GrantedIn s H v.numbers txn moment login) → AllLet day F s H v → AllLet day F s H (after_ask txn moment login (x ∷ g) v)
let_ask day F I s H v txn moment login x g same_at ground all = λ t. elim (either (txn == t)) [
  | inr n ↦ rw n (λ f. (let a = all t f in let m = upto_more H (of_source s t) v.numbers in omega (arith, a, m)))
  | inl y ↦ (let same : txn ≡ t = number_is txn t y in
      let o : HeldTransaction = opened moment login (held_by (v.standing txn)) in
      let here : F ≤ day (let_through (answer_of (x ∷ g)) o).moment → (let_through (answer_of (x ∷ g)) o).granted ≤ upto H (of_source s txn) (v.numbers + 1) = λ f. (
      let g' : F ≤ day moment = subst (λ z. F ≤ day z) (let_through_at (answer_of (x ∷ g)) o ∙ same_at) f in
      let b = opened_let day F moment login (v.standing txn) (upto H (of_source s txn) v.numbers) same_at g' (all txn) in
      let_here I s H v.numbers txn moment login (answer_of (x ∷ g)) o (λ z. ground z g') b) in
      let G : ℕ → Type 0 = λ u. F ≤ day (let_through (answer_of (x ∷ g)) o).moment → (let_through (answer_of (x ∷ g)) o).granted ≤ upto H (of_source s u) (v.numbers + 1) in
      rw y (subst G same here))
]

held_let : (st : TransactionState) (h : HeldTransaction) → held_by st ≡ Some h → (let_at st ≡ h.granted) × (at_of st ≡ h.moment)
held_let (Live k) h e = (ap (λ (x : HeldTransaction). x.granted) (some_is k h e), ap (λ (x : HeldTransaction). x.moment) (some_is k h e))
held_let st h e = absurd (none_some h e)

let_close : (day : ℕ → ℕ) (F : ℕ) (s : Source) (H : List Entry) (v : View) (txn : ℕ) (end : CloseEnd) (g : List Exchange) (o : Option HeldTransaction) → held_by (v.standing txn) ≡ o → AllLet day F s H v → AllLet day F s H (after_close s txn end g v o)
let_close day F s H v txn end g None e all = all
let_close day F s H v txn end g (Some h) e all = λ t. elim (either (txn == t)) [
  | inr n ↦ rw n (λ f. (let a = all t f in let m = upto_more H (of_source s t) v.numbers in omega (arith, a, m)))
  | inl y ↦ (let same : txn ≡ t = number_is txn t y in
      let b = held_let (v.standing txn) h e in
      let here : F ≤ day h.moment → h.granted ≤ upto H (of_source s txn) (v.numbers + 1) = λ f. (
      let a = all txn (subst (λ z. F ≤ day z) (sym b.1) f) in
      let c = b.0 in
      let m = upto_more H (of_source s txn) v.numbers in
      omega (arith, a, c, m)) in
      let G : ℕ → Type 0 = λ u. F ≤ day h.moment → h.granted ≤ upto H (of_source s u) (v.numbers + 1) in
      rw y (subst G same here))
]

let_step : (day : ℕ → ℕ) (F : ℕ) → IsSameAsItself → (s : Source) (tries : ℕ) (H : List Entry) (P : List Step) (a : Action) (g : List Exchange) (k : Bool) → IsUnderway s tries P (record { action = a; group = g; quiet = k }) → IsGround day F s H (view s P) a g → AllLet day F s H (view s P)
    → AllLet day F s H (after s (view s P) a g)
let_step day F I s tries H P (Ask txn moment login) [] k u ok all = all
let_step day F I s tries H P (Ask txn moment login) (x ∷ g) k u ok all =
    let v = view s P in
    let free = (free_ask (refuses (held_by (v.standing txn)) (length v.live) v.numbers (length v.waiting) moment login) (reserve_of s (v.numbers + 1) txn moment login) x.request (next_among (tries_in tries k) _ g x.request u.0)).0 in
    let_ask day F I s H v txn moment login x g (opened_at moment login (held_by (v.standing txn)) (length v.live) v.numbers (length v.waiting) free) ok all
let_step day F I s tries H P (Close txn end) g k u ok all = let_close day F s H (view s P) txn end g (held_by ((view s P).standing txn)) refl all
let_step day F I s tries H P Drain g k u ok all = all

all_let : (day : ℕ → ℕ) (F : ℕ) → IsSameAsItself → (s : Source) (tries : ℕ) (H : List Entry) (P : List Step) → AreUnderway s tries P → IsGrounded day F s H P → AllLet day F s H (view s P)
all_let day F I s tries H [] u ground = λ t f. omega arith
all_let day F I s tries H (x ∷ P) u ground = let_step day F I s tries H P x.action x.group x.quiet u.0 ground.0 (all_let day F I s tries H P u.1 ground.1)

-- what was let through was granted
pub was_granted : (day : ℕ → ℕ) (F : ℕ) → IsSameAsItself → (s : Source) (tries : ℕ) (H : List Entry) (P : List Step) → AreUnderway s tries P → IsGrounded day F s H P → (t : ℕ) → F ≤ day (at_of ((view s P).standing t)) → let_at ((view s P).standing t) ≤ granted_in H (of_source s t)
was_granted day F I s tries H P u ground t f = let a = all_let day F I s tries H P u ground t f in let b = upto_all H (of_source s t) (view s P).numbers in omega (arith, a, b)

-- ---- what was granted stays granted

ground_one : (day : ℕ → ℕ) (F : ℕ) (s : Source) (H K : List Entry) (v : View) (a : Action) (g : List Exchange) → ((txn moment : ℕ) (login : List ℕ) → F ≤ day moment → GrantedIn s H v.numbers txn moment login → GrantedIn s K v.numbers txn moment login) → IsGround day F s H v a g → IsGround day F s K v a g
ground_one day F s H K v (Ask txn moment login) g stays h = λ o f. stays txn moment login f (h o f)
ground_one day F s H K v a g stays h = tt

-- in another history that has it still
pub ground_kept : (day : ℕ → ℕ) (F : ℕ) (s : Source) (H K : List Entry) → ((n txn moment : ℕ) (login : List ℕ) → F ≤ day moment → GrantedIn s H n txn moment login → GrantedIn s K n txn moment login) → (P : List Step) → IsGrounded day F s H P → IsGrounded day F s K P
ground_kept day F s H K stays [] h = tt
ground_kept day F s H K stays (x ∷ P) h = (ground_one day F s H K (view s P) x.action x.group (stays (view s P).numbers) h.0, ground_kept day F s H K stays P h.1)

pub ground_in : (day : ℕ → ℕ) (F : ℕ) (s : Source) (H K : List Entry) → ((e : Entry) → In e H → In e K) → (P : List Step) → IsGrounded day F s H P → IsGrounded day F s K P
ground_in day F s H K there P h = ground_kept day F s H K (λ n txn moment login f k. record { entry = k.entry; among = there k.entry k.among; request = k.request; granted = k.granted }) P h
