-- Each number has one request, and each request that is sent is the one of its number.
use Rattle.std.proofs.Common.{◌≡◌, ℕ, ◌+◌, ◌≤◌, ◌==◌, ◌||◌, not, nat_le, Bool, false, true, List, [], ◌∷◌, ◌++◌, refl, sym, ap, ◌∙◌, subst, arith, inl, inr, Option, None, Some, is_some, if◌then◌else◌}
use Rattle.mq_client.proofs.Words.{Action, AllByRecursion, AreUnderway, Ask, RecipientAnswer, AsksForNoClosed, Close, CloseEnd, Closed, ComeInTurn, Drain, Exchange, HeldTransaction, Id, IsNumbered, Live, Never, NoneReturns, Release, Request, Settle, SettlesWhatWasLet, Source, TransactionState, Step, Suits, View, WasCommitted, after, after_close, all_append, all_drop, all_push, answer_of, closing_of, decisions, eq-eqb, eqb-true, exchanges_in, held_by, held_for, id_in, id_of, is_closed, is_other, length, let_through, live_in, ne_eqb, neither_first, neither_second, none_some, not_false, numbers_in, opened, option_map, option_or, queue_of, refuses, request_by, request_under, reserve_of, same_text, some_is, takes_number, tries_in, txn_in, view, weaker}
use Rattle.std.specs.Cmp.Lexicographic.{bytes_decides}
use Rattle.mq_track.specs.declared.closing.CloseEnd.TheVariants as ending
use Rattle.mq_client.specs.declared.recipient_answer.RecipientAnswer.TheVariants as asked
use Rattle.mq_client.proofs.ReadingOff.{live_read, numbers_read}
use Rattle.mq_client.proofs.Turning.{next_in_queue}
use Rattle.mq_client.proofs.Bounding.{asked_free}
use Rattle.mq_client.proofs.Basics.{all_at, mapped_some, of_closing, of_either}

-- ---- the request of a step

-- what a step that takes a number asks has that number
closing_id : (s : Source) (n txn : ℕ) (end : CloseEnd) (h : HeldTransaction) → id_in (closing_of s n txn end h) ≡ Some (id_of s n)
closing_id s n txn end h = of_closing (λ (q : Request). id_in q ≡ Some (id_of s n)) s n txn end h refl refl

request_id : (s : Source) (P : List Step) (a : Action) (group : List Exchange) (q : Request) → request_by s P a group ≡ Some q → (id_in q ≡ Some (id_of s (numbers_in P + 1))) × (takes_number P a group ≡ true)
request_id s P (Ask txn moment login) [] q e = absurd (none_some q e)
request_id s P (Ask txn moment login) (x ∷ group) q e = (ap id_in (sym (some_is (reserve_of s (numbers_in P + 1) txn moment login) q e)), refl)
request_id s P (Close txn end) group q e =
    let (h, there, is) = mapped_some (closing_of s (numbers_in P + 1) txn end) (live_in P txn) q e in
    (ap id_in (sym is) ∙ closing_id s (numbers_in P + 1) txn end h, ap is_some there)
request_id s P Drain group q e = absurd (none_some q e)

pub more_numbers : (n : ℕ) (b : Bool) → n ≤ (if b then n + 1 else n)
more_numbers n b = of_either (λ (m : ℕ). n ≤ m) b (n + 1) n (omega arith) (omega arith)

numbers_grow : (x : Step) (P : List Step) → numbers_in P ≤ numbers_in (x ∷ P)
numbers_grow x P = more_numbers (numbers_in P) (takes_number P x.action x.group)

-- one of the step's number
newest : (s : Source) (x : Step) (P : List Step) (q : Request) → request_by s P x.action x.group ≡ Some q → IsNumbered s (x ∷ P) q
newest s x P q e =
    let (id, takes) = request_id s P x.action x.group q e in
    record {
      number = numbers_in P + 1;
      used = rw takes (omega arith);
      id = id;
      under = rw (eq-eqb (numbers_in P + 1) (numbers_in P + 1) refl, e) refl;
    }

-- one that stood before it
older : (s : Source) (x : Step) (P : List Step) (q : Request) → IsNumbered s P q → IsNumbered s (x ∷ P) q
older s x P q i = record {
  number = i.number;
  used = omega (arith, i.used, numbers_grow x P);
  id = i.id;
  under = rw (ne_eqb (numbers_in P + 1) i.number (λ e. omega (arith, e, i.used))) i.under;
}

-- ---- what is sent

reserve_numbered : (b : Bool) (s : Source) (P : List Step) (txn moment : ℕ) (login : List ℕ) (y : Exchange) (group : List Exchange) (k : Bool) (n : ℕ) → n ≡ numbers_in P
    → AllByRecursion (IsNumbered s (record { action = Ask txn moment login; group = y ∷ group; quiet = k } ∷ P)) (if b then [] else reserve_of s (n + 1) txn moment login ∷ [])
reserve_numbered true s P txn moment login y group k n e = tt
reserve_numbered false s P txn moment login y group k n e = (newest s (record { action = Ask txn moment login; group = y ∷ group; quiet = k }) P (reserve_of s (n + 1) txn moment login) (ap (λ k. Some (reserve_of s (k + 1) txn moment login)) (sym e)), tt)

all_older : (s : Source) (x : Step) (P : List Step) (qs : List Request) → AllByRecursion (IsNumbered s P) qs → AllByRecursion (IsNumbered s (x ∷ P)) qs
all_older s x P qs all = weaker (IsNumbered s P) (IsNumbered s (x ∷ P)) (older s x P) qs all

closing_numbered : (s : Source) (P : List Step) (v : View) (txn : ℕ) (end : CloseEnd) (group : List Exchange) (k : Bool) (h : HeldTransaction) → v.numbers ≡ numbers_in P → live_in P txn ≡ Some h → AllByRecursion (IsNumbered s P) v.waiting
    → AllByRecursion (IsNumbered s (record { action = Close txn end; group = group; quiet = k } ∷ P)) (v.waiting ++ closing_of s (v.numbers + 1) txn end h ∷ [])
closing_numbered s P v txn end group k h n live w =
    let x : Step = record { action = Close txn end; group = group; quiet = k } in
    let q = closing_of s (v.numbers + 1) txn end h in
    all_push (IsNumbered s (x ∷ P)) v.waiting q (all_older s x P v.waiting w)
    (newest s x P q (ap (option_map (closing_of s (numbers_in P + 1) txn end)) live ∙ ap (λ k. Some (closing_of s (k + 1) txn end h)) (sym n)))

queue_numbered : (s : Source) (P : List Step) (v : View) (a : Action) (group : List Exchange) (k : Bool) (o : Option HeldTransaction) (y : Exchange) → held_for v a ≡ o → v.numbers ≡ numbers_in P → ((t : ℕ) → held_by (v.standing t) ≡ live_in P t) → AllByRecursion (IsNumbered s P) v.waiting
    → AllByRecursion (IsNumbered s (record { action = a; group = y ∷ group; quiet = k } ∷ P)) (queue_of s v o a)
queue_numbered s P v (Ask txn moment login) group k o y e n live w = reserve_numbered (refuses o (length v.live) v.numbers (length v.waiting) moment login) s P txn moment login y group k v.numbers n
queue_numbered s P v (Close txn end) group k None y e n live w = tt
queue_numbered s P v (Close txn end) group k (Some h) y e n live w = closing_numbered s P v txn end (y ∷ group) k h n (sym (live txn) ∙ e) w
queue_numbered s P v Drain group k o y e n live w = all_older s (record { action = Drain; group = y ∷ group; quiet = k }) P v.waiting w

turns_numbered : (n : ℕ) (queue : List Request) (F : Request → Type 0) (group : List Exchange) → AllByRecursion F queue → ComeInTurn n queue group → AllByRecursion (λ x. F x.request) group
turns_numbered n queue F [] all turns = tt
turns_numbered n queue F (x ∷ group) all turns =
    (all_at F (decisions group) queue x.request all (next_in_queue n queue group x.request turns.0).1, turns_numbered n queue F group all turns.2)

group_numbered : (s : Source) (n : ℕ) (P : List Step) (v : View) (a : Action) (group : List Exchange) (k : Bool) → v.numbers ≡ numbers_in P → ((t : ℕ) → held_by (v.standing t) ≡ live_in P t) → AllByRecursion (IsNumbered s P) v.waiting
    → ComeInTurn n (queue_of s v (held_for v a) a) group → AllByRecursion (λ x. IsNumbered s (record { action = a; group = group; quiet = k } ∷ P) x.request) group
group_numbered s n P v a [] k e live w turns = tt
group_numbered s n P v a (y ∷ group) k e live w turns = turns_numbered n (queue_of s v (held_for v a) a) (IsNumbered s (record { action = a; group = y ∷ group; quiet = k } ∷ P)) (y ∷ group) (queue_numbered s P v a group k (held_for v a) y refl e live w) turns

closed_waiting : (s : Source) (P : List Step) (v : View) (txn : ℕ) (end : CloseEnd) (group : List Exchange) (k : Bool) (o : Option HeldTransaction) → v.numbers ≡ numbers_in P → live_in P txn ≡ o → AllByRecursion (IsNumbered s P) v.waiting
    → AllByRecursion (IsNumbered s (record { action = Close txn end; group = group; quiet = k } ∷ P)) (after_close s txn end group v o).waiting
closed_waiting s P v txn end group k None n live w = all_older s (record { action = Close txn end; group = group; quiet = k }) P v.waiting w
closed_waiting s P v txn end group k (Some h) n live w =
    all_drop (IsNumbered s (record { action = Close txn end; group = group; quiet = k } ∷ P)) (decisions group) (v.waiting ++ closing_of s (v.numbers + 1) txn end h ∷ []) (closing_numbered s P v txn end group k h n live w)

waiting_step : (s : Source) (P : List Step) (v : View) (a : Action) (group : List Exchange) (k : Bool) → v.numbers ≡ numbers_in P → ((t : ℕ) → held_by (v.standing t) ≡ live_in P t) → AllByRecursion (IsNumbered s P) v.waiting
    → AllByRecursion (IsNumbered s (record { action = a; group = group; quiet = k } ∷ P)) (after s v a group).waiting
waiting_step s P v (Ask txn moment login) [] k n live w = all_older s (record { action = Ask txn moment login; group = []; quiet = k }) P v.waiting w
waiting_step s P v (Ask txn moment login) (x ∷ group) k n live w = all_older s (record { action = Ask txn moment login; group = x ∷ group; quiet = k }) P v.waiting w
waiting_step s P v (Close txn end) group k n live w = closed_waiting s P v txn end group k (held_by (v.standing txn)) n (sym (live txn)) w
waiting_step s P v Drain group k n live w = all_drop (IsNumbered s (record { action = Drain; group = group; quiet = k } ∷ P)) (decisions group) v.waiting (all_older s (record { action = Drain; group = group; quiet = k }) P v.waiting w)

-- each request that waits has a number of its own
pub waiting_numbered : (s : Source) (P : List Step) → AllByRecursion (IsNumbered s P) (view s P).waiting
waiting_numbered s [] = tt
waiting_numbered s (x ∷ P) = waiting_step s P (view s P) x.action x.group x.quiet (numbers_read s P) (live_read s P) (waiting_numbered s P)

-- and so has each that was sent
pub sent_numbered : (s : Source) (n : ℕ) (P : List Step) → AreUnderway s n P → AllByRecursion (λ x. IsNumbered s P x.request) (exchanges_in P)
sent_numbered s n [] u = tt
sent_numbered s n (x ∷ P) u =
    all_append (λ y. IsNumbered s (x ∷ P) y.request) x.group (exchanges_in P)
    (group_numbered s (tries_in n x.quiet) P (view s P) x.action x.group x.quiet (numbers_read s P) (live_read s P) (waiting_numbered s P) u.0)
    (weaker (λ y. IsNumbered s P y.request) (λ y. IsNumbered s (x ∷ P) y.request) (λ y. older s x P y.request) (exchanges_in P) (sent_numbered s n P u.1))

pub one_request : (s : Source) (P : List Step) (q r : Request) → IsNumbered s P q → IsNumbered s P r → id_in q ≡ id_in r → q ≡ r
one_request s P q r i j e =
    let same : i.number ≡ j.number = ap (λ (a : Id). a.number) (some_is (id_of s i.number) (id_of s j.number) (sym i.id ∙ e ∙ j.id)) in
    some_is q r (sym i.under ∙ ap (request_under s P) same ∙ j.under)

-- two exchanges under one number are of one request
pub one_for_each : (s : Source) (n : ℕ) (P : List Step) → AreUnderway s n P → AllByRecursion (λ x. AllByRecursion (λ y. id_in x.request ≡ id_in y.request → x.request ≡ y.request) (exchanges_in P)) (exchanges_in P)
one_for_each s n P u =
    let all = sent_numbered s n P u in
    weaker (λ x. IsNumbered s P x.request) (λ x. AllByRecursion (λ y. id_in x.request ≡ id_in y.request → x.request ≡ y.request) (exchanges_in P)) (λ x i. weaker (λ y. IsNumbered s P y.request) (λ y. id_in x.request ≡ id_in y.request → x.request ≡ y.request) (λ y j e. one_request s P x.request y.request i j e) (exchanges_in P) all)
    (exchanges_in P) all

-- ---- what a settle asks for

closing_settle : (s : Source) (n t : ℕ) (end : CloseEnd) (h : HeldTransaction) (id : Id) (txn moment count : ℕ) (login : List ℕ) → closing_of s n t end h ≡ Settle id txn moment login count
    → (t ≡ txn) × (end ≡ ending.Commit) × (h.moment ≡ moment) × (h.login ≡ login) × (h.granted ≡ count)
closing_settle s n t ending.Rollback h id txn moment count login e = let no : ⊥ = cc in absurd no
closing_settle s n t ending.Commit h id txn moment count login e = by_count (nat_le 1 h.granted) e
  where
    by_count : (b : Bool) → (if b then Settle (id_of s n) t h.moment h.login h.granted else Release (id_of s n) t h.moment h.login) ≡ Settle id txn moment login count
        → (t ≡ txn) × (ending.Commit ≡ ending.Commit) × (h.moment ≡ moment) × (h.login ≡ login) × (h.granted ≡ count)
    by_count true f = (cc, refl, cc, cc, cc)
    by_count false f = let no : ⊥ = cc in absurd no

later_committed : (x : Step) (P : List Step) (txn moment : ℕ) (login : List ℕ) (count : ℕ) → WasCommitted P txn moment login count → WasCommitted (x ∷ P) txn moment login count
later_committed x P txn moment login count w = record {
  later = x ∷ w.later;
  group = w.group;
  quiet = w.quiet;
  before = w.before;
  held = w.held;
  whole = ap (λ l. x ∷ l) w.whole;
  live = w.live;
  moment_is = w.moment_is;
  login_is = w.login_is;
  count_is = w.count_is;
}

committed_by : (s : Source) (P : List Step) (a : Action) (group : List Exchange) (k : Bool) (id : Id) (txn moment count : ℕ) (login : List ℕ) → request_by s P a group ≡ Some (Settle id txn moment login count) → WasCommitted (record { action = a; group = group; quiet = k } ∷ P) txn moment login count
committed_by s P (Ask t m l) [] k id txn moment count login e = absurd (none_some _ e)
committed_by s P (Ask t m l) (x ∷ group) k id txn moment count login e = absurd cc
committed_by s P Drain group k id txn moment count login e = absurd (none_some _ e)
committed_by s P (Close t end) group k id txn moment count login e =
    let (h, there, is) = mapped_some (closing_of s (numbers_in P + 1) t end) (live_in P t) (Settle id txn moment login count) e in
    let (same, by, moment_is, login_is, count_is) = closing_settle s (numbers_in P + 1) t end h id txn moment count login is in
    record {
      later = [];
      group = group;
      quiet = k;
      before = P;
      held = h;
      whole = ap (λ j. record { action = Close j end; group = group; quiet = k } ∷ P) same ∙ ap (λ j. record { action = Close txn j; group = group; quiet = k } ∷ P) by;
      live = ap (live_in P) (sym same) ∙ there;
      moment_is = moment_is;
      login_is = login_is;
      count_is = count_is;
    }

-- the request of a number is that of the newest step, or stood before it
under_either : (s : Source) (x : Step) (P : List Step) (n : ℕ) (q : Request) (F : Type 0) → (numbers_in P + 1 ≡ n → request_by s P x.action x.group ≡ Some q → F) → (request_under s P n ≡ Some q → F) → request_under s (x ∷ P) n ≡ Some q → F
under_either s x P n q F newest before e = by_number (numbers_in P + 1 == n) (request_by s P x.action x.group) refl refl e
  where
    by_number : (b : Bool) (o : Option Request) → (numbers_in P + 1 == n) ≡ b → request_by s P x.action x.group ≡ o → (if b then option_or o (request_under s P n) else request_under s P n) ≡ Some q → F
    by_number true None i f e = before e
    by_number true (Some r) i f e = newest (eqb-true (numbers_in P + 1) n i) (f ∙ e)
    by_number false o i f e = before e

committed : (s : Source) (P : List Step) (n : ℕ) (id : Id) (txn moment count : ℕ) (login : List ℕ) → request_under s P n ≡ Some (Settle id txn moment login count) → WasCommitted P txn moment login count
committed s [] n id txn moment count login e = absurd (none_some _ e)
committed s (x ∷ P) n id txn moment count login e =
    under_either s x P n _ _ (λ i f. committed_by s P x.action x.group x.quiet id txn moment count login f) (λ f. later_committed x P txn moment login count (committed s P n id txn moment count login f)) e

settles : (s : Source) (P : List Step) (q : Request) → IsNumbered s P q → SettlesWhatWasLet P q
settles s P (Settle id txn moment login count) i = committed s P i.number id txn moment count login i.under
settles s P q i = tt

-- each settle that was sent asks for what was let through
pub all_settle : (s : Source) (n : ℕ) (P : List Step) → AreUnderway s n P → AllByRecursion (λ x. SettlesWhatWasLet P x.request) (exchanges_in P)
all_settle s n P u = weaker (λ x. IsNumbered s P x.request) (λ x. SettlesWhatWasLet P x.request) (λ x i. settles s P x.request i) (exchanges_in P) (sent_numbered s n P u)

-- ---- what the requests of a transaction are

pub let_through_at : (answer : RecipientAnswer) (h : HeldTransaction) → (let_through answer h).moment ≡ h.moment
let_through_at asked.Granted h = refl
let_through_at answer h = refl

-- what an ask lets through changes no reserve
let_reserve : (s : Source) (n t : ℕ) (answer : RecipientAnswer) (h : HeldTransaction) → reserve_of s n t h.moment h.login ≡ reserve_of s n t (let_through answer h).moment (let_through answer h).login
let_reserve s n t asked.Granted h = refl
let_reserve s n t answer h = refl

pub ended_not : (end : CloseEnd) (number : ℕ) (h : HeldTransaction) → is_closed (Closed end number h) ≡ false → ⊥
ended_not end number h e = cc (e)

-- an ask of a live transaction that isn't refused has its login and moment
same_asked : (h : HeldTransaction) (moment : ℕ) (login : List ℕ) (more : Bool) → (is_other h moment login || more) ≡ false → (h.login ≡ login) × (h.moment ≡ moment)
same_asked h moment login more e =
    let same = neither_first (is_other h moment login) more e in
    ((bytes_decides h.login login).0 (not_false _ (neither_first (not (same_text h.login login)) _ same)), eqb-true h.moment moment (not_false _ (neither_second (not (same_text h.login login)) _ same)))

-- a reserve of a transaction that an ask finds live
reserve_stays : (s : Source) (n t moment : ℕ) (login : List ℕ) (answer : RecipientAnswer) (st : TransactionState) (q : Request) → is_closed st ≡ false → Suits s n t st q → Suits s n t (Live (let_through answer (opened moment login (held_by st)))) q
reserve_stays s n t moment login answer Never q e suits = absurd suits
reserve_stays s n t moment login answer (Live h) q e suits = suits ∙ let_reserve s n t answer h
reserve_stays s n t moment login answer (Closed end number h) q e suits = absurd (ended_not end number h e)

reserve_new : (s : Source) (n t moment : ℕ) (login : List ℕ) (answer : RecipientAnswer) (o : Option HeldTransaction) (live numbers waiting : ℕ) → refuses o live numbers waiting moment login ≡ false
    → reserve_of s n t moment login ≡ reserve_of s n t (let_through answer (opened moment login o)).moment (let_through answer (opened moment login o)).login
reserve_new s n t moment login answer None live numbers waiting free = let_reserve s n t answer (opened moment login None)
reserve_new s n t moment login answer (Some h) live numbers waiting free =
    let (same_login, same_at) = same_asked h moment login _ free in
    ap (λ (m : ℕ). reserve_of s n t m login) (sym same_at) ∙ ap (λ (l : List ℕ). reserve_of s n t h.moment l) (sym same_login) ∙ let_reserve s n t answer h

closed_stays : (s : Source) (n t number : ℕ) (end : CloseEnd) (h : HeldTransaction) (st : TransactionState) (q : Request) → held_by st ≡ Some h → Suits s n t st q → Suits s n t (Closed end number h) q
closed_stays s n t number end h Never q e suits = absurd suits
closed_stays s n t number end h (Live k) q e suits = inl (subst (λ (x : HeldTransaction). q ≡ reserve_of s n t x.moment x.login) (some_is k h e) suits)
closed_stays s n t number end h (Closed end' number' k) q e suits = absurd (none_some h e)

-- an older request
suits_old : (s : Source) (n t : ℕ) (q : Request) (v : View) (a : Action) (group : List Exchange) → AsksForNoClosed v a → Suits s n t (v.standing t) q → Suits s n t ((after s v a group).standing t) q
suits_old s n t q v (Ask txn moment login) [] fresh suits = suits
suits_old s n t q v (Ask txn moment login) (x ∷ group) fresh suits = by_txn (txn == t) refl
  where
    by_txn : (b : Bool) → (txn == t) ≡ b → Suits s n t (if b then Live (let_through (answer_of (x ∷ group)) (opened moment login (held_by (v.standing txn)))) else v.standing t) q
    by_txn true e =
        let is : txn ≡ t = eqb-true txn t e in
        reserve_stays s n t moment login (answer_of (x ∷ group)) (v.standing txn) q fresh (subst (λ (u : ℕ). Suits s n t (v.standing u) q) (sym is) suits)
    by_txn false e = suits
suits_old s n t q v (Close txn end) group fresh suits = by_held (held_by (v.standing txn)) refl
  where
    by_txn : (h : HeldTransaction) (b : Bool) → (txn == t) ≡ b → held_by (v.standing txn) ≡ Some h → Suits s n t (if b then Closed end (v.numbers + 1) h else v.standing t) q
    by_txn h true e f =
        let is : txn ≡ t = eqb-true txn t e in
        closed_stays s n t (v.numbers + 1) end h (v.standing txn) q f (subst (λ (u : ℕ). Suits s n t (v.standing u) q) (sym is) suits)
    by_txn h false e f = suits

    by_held : (o : Option HeldTransaction) → held_by (v.standing txn) ≡ o → Suits s n t ((after_close s txn end group v o).standing t) q
    by_held None f = suits
    by_held (Some h) f = by_txn h (txn == t) refl f
suits_old s n t q v Drain group fresh suits = suits

closing_txn : (s : Source) (n txn : ℕ) (end : CloseEnd) (h : HeldTransaction) → txn_in (closing_of s n txn end h) ≡ Some txn
closing_txn s n txn end h = of_closing (λ (q : Request). txn_in q ≡ Some txn) s n txn end h refl refl

-- the request of the step
suits_new : (s : Source) (tries n t : ℕ) (q : Request) (P : List Step) (v : View) (a : Action) (group : List Exchange) → v.numbers ≡ numbers_in P → ((u : ℕ) → held_by (v.standing u) ≡ live_in P u) → ComeInTurn tries (queue_of s v (held_for v a) a) group
    → numbers_in P + 1 ≡ n → request_by s P a group ≡ Some q → txn_in q ≡ Some t → Suits s n t ((after s v a group).standing t) q
suits_new s tries n t q P v (Ask txn moment login) [] same live turns is e named = absurd (none_some q e)
suits_new s tries n t q P v (Ask txn moment login) (x ∷ group) same live turns is e named =
    let r = reserve_of s (numbers_in P + 1) txn moment login in
    let what : r ≡ q = some_is r q e in
    let mine : txn ≡ t = some_is txn t (ap txn_in what ∙ named) in
    let free = asked_free _ tries (reserve_of s (v.numbers + 1) txn moment login) x.request group turns.0 in
    let h = let_through (answer_of (x ∷ group)) (opened moment login (held_by (v.standing txn))) in
    let new = reserve_new s n t moment login (answer_of (x ∷ group)) (held_by (v.standing txn)) (length v.live) v.numbers (length v.waiting) free in
    rw (eq-eqb txn t mine) (sym what ∙ ap (λ k. reserve_of s k txn moment login) is ∙ ap (λ k. reserve_of s n k moment login) mine ∙ new)
suits_new s tries n t q P v Drain group same live turns is e named = absurd (none_some q e)
suits_new s tries n t q P v (Close txn end) group same live turns is e named =
    let (h, there, what) = mapped_some (closing_of s (numbers_in P + 1) txn end) (live_in P txn) q e in
    let mine : txn ≡ t = some_is txn t (sym (closing_txn s (numbers_in P + 1) txn end h) ∙ ap txn_in what ∙ named) in
    let held : held_by (v.standing txn) ≡ Some h = live txn ∙ there in
    rw (held, eq-eqb txn t mine) (inr (sym is ∙ ap (λ k. k + 1) (sym same), sym what ∙ ap (λ k. closing_of s k txn end h) is ∙ ap (λ k. closing_of s n k end h) mine))

-- where no closed transaction was asked for again, each request suits its transaction
pub all_suit : (s : Source) (tries : ℕ) (P : List Step) → AreUnderway s tries P → NoneReturns s P → (n t : ℕ) (q : Request) → request_under s P n ≡ Some q → txn_in q ≡ Some t → Suits s n t ((view s P).standing t) q
all_suit s tries [] u fresh n t q e named = absurd (none_some q e)
all_suit s tries (x ∷ P) u fresh n t q e named =
    under_either s x P n q _ (λ i f. suits_new s (tries_in tries x.quiet) n t q P (view s P) x.action x.group (numbers_read s P) (live_read s P) u.0 i f named)
    (λ f. suits_old s n t q (view s P) x.action x.group fresh.0 (all_suit s tries P u.1 fresh.1 n t q f named)) e
