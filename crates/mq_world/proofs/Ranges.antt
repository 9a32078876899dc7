-- What a run sends is in range, where its asks are.
use Rattle.mq_world.proofs.Words.{Action, AllByRecursion, AreUnderway, Ask, RecipientAnswer, Bool, Close, CloseEnd, ComeInTurn, Drain, Exchange, HeldTransaction, In, IsBounded, IsHost, IsId, IsLogin, IsMoment, IsOrdinal, IsRequest, IsRun, IsWithin, List, Live, None, Option, Release, Request, Settle, Some, Source}
use Rattle.mq_world.proofs.Words.{TransactionState, Step, View, [], after, after_ask, after_close, all_at, all_drop, all_push, answer_of, ap, arith, between, closing_of, decisions, either, failures, false, first_so, held_by, held_for, id_of, if◌then◌else◌, inl, inr, is_commit, is_other, lacks_numbers}
use Rattle.mq_world.proofs.Words.{le_of, length, let_through, nat_le, nat_tests, neither_first, neither_second, next, next_of, none_some, number_is, opened, queue_of, refl, refuses, reserve_of, second_so, slice_get, some_is, subst, tries_in, true, view, ℕ, ◌&&◌, ◌+◌, ◌<◌, ◌==◌, ◌∷◌, ◌≡◌}
use Rattle.mq_client.specs.HeldTransactions.{IsHeld}
use Rattle.mq_client.specs.declared.recipient_answer.RecipientAnswer.TheVariants as asked
use Rattle.mq_world.specs.World.{begun}
use Rattle.mq_world.proofs.Basics.{in_get}

-- a number between two is in their range
pub within : {low high n : ℕ} → between low high n ≡ true → IsWithin low high n
within {low = low} {high = high} {n = n} is = record { from = le_of low n (first_so (nat_le low n) (nat_le n high) is); to = le_of n high (second_so (nat_le low n) (nat_le n high) is) }

-- an action asks with a transaction, a moment and a login in range
abbrev pub IsAsked : Action → Type 0
IsAsked (Ask txn moment login) = IsOrdinal txn × IsMoment moment × IsLogin login
IsAsked (Close txn end) = Unit {0}
IsAsked Drain = Unit {0}

abbrev pub AreAsked : List Step → Type 0
AreAsked P = AllByRecursion (λ x. IsAsked x.action) P

pub record IsRanged (v : View) : Type 0 where
  pub held : (t : ℕ) (h : HeldTransaction) → v.standing t ≡ Live h → IsHeld t h
  pub waiting : AllByRecursion IsRequest v.waiting

-- ---- the next request is one of the queue

pub unless : {A : Type 0} (b : Bool) (o : Option A) (q : A) → (if b then None else o) ≡ Some q → o ≡ Some q
unless true o q h = absurd (none_some q h)
unless false o q h = h

pub next_among : (tries : ℕ) (queue : List Request) (g : List Exchange) (q : Request) → next_of tries queue g ≡ Some q → In q queue
next_among tries queue g q e = in_get queue (decisions g) q (unless (nat_le tries (failures g)) (slice_get queue (decisions g)) q e)

-- an ask that has a next exchange isn't refused, and that exchange is of its reserve
pub free_ask : (b : Bool) (r q : Request) → In q (if b then [] else r ∷ []) → (b ≡ false) × (r ≡ q)
free_ask true r q i = absurd i
free_ask false r q (inl e) = (refl, e)
free_ask false r q (inr i) = absurd i

-- ---- requests

is_id : (s : Source) (n : ℕ) → IsHost s.host → IsRun s.run → n < 4294967295 → IsId (id_of s (n + 1))
is_id s n h r less = record { host = h; run = r; number = record { from = omega arith; to = omega (arith, less) } }

closing_in_range : (s : Source) (n txn : ℕ) (end : CloseEnd) (h : HeldTransaction) → IsHost s.host → IsRun s.run → n < 4294967295 → IsHeld txn h → IsRequest (closing_of s (n + 1) txn end h)
closing_in_range s n txn end h host run less i = by_kind (is_commit end) (nat_le 1 h.granted) refl
  where
    by_kind : (b c : Bool) → nat_le 1 h.granted ≡ c → IsRequest (if b && c then Settle (id_of s (n + 1)) txn h.moment h.login h.granted else Release (id_of s (n + 1)) txn h.moment h.login)
    by_kind true true e = (is_id s n host run less, i.number, i.moment, i.login, record { from = grind (arith, nat_tests, e); to = (let g = i.granted in omega (arith, g)) })
    by_kind true false e = (is_id s n host run less, i.number, i.moment, i.login)
    by_kind false c e = (is_id s n host run less, i.number, i.moment, i.login)

-- ---- steps

let_held : (txn : ℕ) (a : RecipientAnswer) (h : HeldTransaction) → IsOrdinal txn → IsMoment h.moment → IsLogin h.login → h.granted < 1000 → IsHeld txn (let_through a h)
let_held txn asked.Granted h t m l g = record { number = t; moment = m; login = l; granted = omega (arith, g) }
let_held txn a h t m l g = record { number = t; moment = m; login = l; granted = omega (arith, g) }

held_by_live : (st : TransactionState) (h : HeldTransaction) → held_by st ≡ Some h → st ≡ Live h
held_by_live (Live k) h e = ap Live (some_is k h e)
held_by_live st h e = absurd (none_some h e)

asked_held : (txn moment : ℕ) (login : List ℕ) (answer : RecipientAnswer) (o : Option HeldTransaction) (live numbers waiting : ℕ) → IsOrdinal txn × IsMoment moment × IsLogin login → ((h : HeldTransaction) → o ≡ Some h → IsHeld txn h) → refuses o live numbers waiting moment login ≡ false → IsHeld txn (let_through answer (opened moment login o))
asked_held txn moment login answer None live numbers waiting i held free = let_held txn answer (opened moment login None) i.0 i.1 i.2 (omega arith)
asked_held txn moment login answer (Some h) live numbers waiting i held free =
    let k = held h refl in
    let few : nat_le 1000 h.granted ≡ false = neither_first (nat_le 1000 h.granted) (lacks_numbers numbers live) (neither_second (is_other h moment login) _ free) in
    let_held txn answer h k.number k.moment k.login (grind (arith, nat_tests, few))

ranged_ask : (s : Source) (tries txn moment : ℕ) (login : List ℕ) (x : Exchange) (g : List Exchange) (v : View) → IsOrdinal txn × IsMoment moment × IsLogin login → ComeInTurn tries (queue_of s v (held_for v (Ask txn moment login)) (Ask txn moment login)) (x ∷ g) → IsRanged v → IsRanged (after_ask txn moment login (x ∷ g) v)
ranged_ask s tries txn moment login x g v i turns r =
    let free = (free_ask (refuses (held_by (v.standing txn)) (length v.live) v.numbers (length v.waiting) moment login) _ x.request (next_among tries _ g x.request turns.0)).0 in
    let old = λ (h : HeldTransaction) (e : held_by (v.standing txn) ≡ Some h). r.held txn h (held_by_live (v.standing txn) h e) in
    let new : IsHeld txn (let_through (answer_of (x ∷ g)) (opened moment login (held_by (v.standing txn)))) = asked_held txn moment login (answer_of (x ∷ g)) (held_by (v.standing txn)) (length v.live) v.numbers (length v.waiting) i old free in
    record {
      held = λ t h e. elim (either (txn == t)) [
        | inl y ↦ (let is : let_through (answer_of (x ∷ g)) (opened moment login (held_by (v.standing txn))) ≡ h = cc (rw y at e) in
            let same : txn ≡ t = number_is txn t y in
            let F : ℕ → Type 0 = λ u. IsHeld u h in
            subst F same (subst (IsHeld txn) is new))
        | inr n ↦ r.held t h (rw n at e)
      ];
      waiting = r.waiting;
    }

ranged_close : (s : Source) (txn : ℕ) (end : CloseEnd) (g : List Exchange) (v : View) (o : Option HeldTransaction) → held_by (v.standing txn) ≡ o → IsHost s.host → IsRun s.run → ((h : HeldTransaction) → o ≡ Some h → v.numbers < 4294967295) → IsRanged v → IsRanged (after_close s txn end g v o)
ranged_close s txn end g v None is host run less r = r
ranged_close s txn end g v (Some h) is host run less r =
    let old : IsHeld txn h = r.held txn h (held_by_live (v.standing txn) h is) in
    record {
      held = λ t k e. elim (either (txn == t)) [
        | inl y ↦ (let no : ⊥ = cc (rw y at e) in absurd no)
        | inr n ↦ r.held t k (rw n at e)
      ];
      waiting = all_drop IsRequest (decisions g) _ (all_push IsRequest v.waiting _ r.waiting (closing_in_range s v.numbers txn end h host run (less h refl) old));
    }

-- a close of a live transaction has a number left
close_number : (s : Source) (txn : ℕ) (end : CloseEnd) (v : View) (o : Option HeldTransaction) → IsBounded (after_close s txn end [] v o) → (h : HeldTransaction) → o ≡ Some h → v.numbers < 4294967295
close_number s txn end v None b h e = absurd (none_some h e)
close_number s txn end v (Some k) b h e = let n = b.numbers in omega (arith, n)

abbrev pub AreBounded : Type 0
AreBounded = (s : Source) (tries : ℕ) (P : List Step) → AreUnderway s tries P → IsBounded (view s P)

ranged_step : AreBounded → (s : Source) (tries : ℕ) (a : Action) (g : List Exchange) (k : Bool) (P : List Step) → IsHost s.host → IsRun s.run → IsAsked a → AreUnderway s tries (record { action = a; group = g; quiet = k } ∷ P) → IsRanged (view s P) → IsRanged (after s (view s P) a g)
ranged_step B s tries (Ask txn moment login) [] k P host run i u r = r
ranged_step B s tries (Ask txn moment login) (x ∷ g) k P host run i u r = ranged_ask s (tries_in tries k) txn moment login x g (view s P) i u.0 r
ranged_step B s tries (Close txn end) g k P host run i u r =
    ranged_close s txn end g (view s P) (held_by ((view s P).standing txn)) refl host run (close_number s txn end (view s P) (held_by ((view s P).standing txn)) (B s tries (begun k (Close txn end) ∷ P) (tt, u.1))) r
ranged_step B s tries Drain g k P host run i u r = record { held = r.held; waiting = all_drop IsRequest (decisions g) _ r.waiting }

pub ranged : AreBounded → (s : Source) (tries : ℕ) (P : List Step) → IsHost s.host → IsRun s.run → AreAsked P → AreUnderway s tries P → IsRanged (view s P)
ranged B s tries [] host run asked u = record { held = λ t h e. (let no : ⊥ = cc in absurd no); waiting = tt }
ranged B s tries (x ∷ P) host run asked u = ranged_step B s tries x.action x.group x.quiet P host run asked.0 u (ranged B s tries P host run asked.1 u.1)

-- ---- the next request is in range

next_ask : (s : Source) (tries txn moment : ℕ) (login : List ℕ) (g : List Exchange) (v : View) (q : Request) → IsHost s.host → IsRun s.run → IsOrdinal txn × IsMoment moment × IsLogin login → v.numbers < 4294967295 → next s tries v (Ask txn moment login) g ≡ Some q → IsRequest q
next_ask s tries txn moment login g v q host run i less e =
    let f = free_ask (refuses (held_by (v.standing txn)) (length v.live) v.numbers (length v.waiting) moment login) (reserve_of s (v.numbers + 1) txn moment login) q (next_among tries _ g q e) in
    let r : IsRequest (reserve_of s (v.numbers + 1) txn moment login) = (is_id s v.numbers host run less, i.0, i.1, i.2, record { from = omega arith; to = omega arith }) in
    subst IsRequest f.1 r

next_close : (s : Source) (tries txn : ℕ) (end : CloseEnd) (g : List Exchange) (v : View) (o : Option HeldTransaction) (q : Request) → held_by (v.standing txn) ≡ o → IsHost s.host → IsRun s.run → ((h : HeldTransaction) → o ≡ Some h → v.numbers < 4294967295) → IsRanged v → next_of tries (queue_of s v o (Close txn end)) g ≡ Some q → IsRequest q
next_close s tries txn end g v None q is host run less r e = absurd (next_among tries [] g q e)
next_close s tries txn end g v (Some h) q is host run less r e =
    let old : IsHeld txn h = r.held txn h (held_by_live (v.standing txn) h is) in
    let all = all_push IsRequest v.waiting (closing_of s (v.numbers + 1) txn end h) r.waiting (closing_in_range s v.numbers txn end h host run (less h refl) old) in
    all_at IsRequest _ q all (next_among tries _ g q e)

-- an ask with an exchange used a number
ask_number : (s : Source) (txn moment : ℕ) (login : List ℕ) (x : Exchange) (g : List Exchange) (v : View) → IsBounded (after_ask txn moment login (x ∷ g) v) → v.numbers < 4294967295
ask_number s txn moment login x g v b = let n = b.numbers in omega (arith, n)

-- x is the exchange of the next request
pub next_in_range : AreBounded → (s : Source) (tries : ℕ) (a : Action) (g : List Exchange) (k : Bool) (x : Exchange) (P : List Step) → IsHost s.host → IsRun s.run → AreAsked (record { action = a; group = g; quiet = k } ∷ P) → AreUnderway s tries (record { action = a; group = x ∷ g; quiet = k } ∷ P) → IsRequest x.request
next_in_range B s tries (Ask txn moment login) g k x P host run asked u =
    next_ask s (tries_in tries k) txn moment login g (view s P) x.request host run asked.0 (ask_number s txn moment login x g (view s P) (B s tries (record { action = Ask txn moment login; group = x ∷ g; quiet = k } ∷ P) u)) u.0.0
next_in_range B s tries (Close txn end) g k x P host run asked u =
    next_close s (tries_in tries k) txn end g (view s P) (held_by ((view s P).standing txn)) x.request refl host run (close_number s txn end (view s P) (held_by ((view s P).standing txn)) (B s tries (begun k (Close txn end) ∷ P) (tt, u.1))) (ranged B s tries P host run asked.1 u.1) u.0.0
next_in_range B s tries Drain g k x P host run asked u =
    all_at IsRequest (view s P).waiting x.request (ranged B s tries P host run asked.1 u.1).waiting (next_among (tries_in tries k) (view s P).waiting g x.request u.0.0)
