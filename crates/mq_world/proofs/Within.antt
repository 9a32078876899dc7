-- What was let through is held or settled by the ledgers together: of a transaction, and of a login and day.
use Rattle.mq_world.proofs.Words.{Action, AllByRecursion, AreDistinct, AreUnderway, Ask, Book, Bool, Close, CloseEnd, Closed, Drain, Entry, Exchange, HeldTransaction, In, IsLegalBook, List, Live, Never, None, NoneReturns, Option, Reply, Request, Some, Source, TransactionState, Step, Suits, Transaction, View, Zone, []}
use Rattle.mq_world.proofs.Words.{after, after_ask, after_close, answer_by, answer_of, ap, arith, both_so, clash, closes, closing_of, counted, counted_in, day_of, decisions, either, ended_not, failures, false, first_so, granted, granted_in, held, held_by, held_on, if◌then◌else◌, inl, inr, is_closed}
use Rattle.mq_world.proofs.Words.{is_for, is_of, is_some, length, let_through, list_any, named, names_for, nat_le, nat_tests, next_of, none_some, number_is, opened, option_cases, refl, refuses, reserve_of, same_text, second_so, settled_in, settled_on, slice_get, some_is, subst, suc, sum_by}
use Rattle.mq_world.proofs.Words.{sum_by-append, sum_by-cons, sum_by-le-sum_by, sym, tries_in, true, view, zero, zero_or_more, ℕ, ◌&&◌, ◌+◌, ◌<◌, ◌==◌, ◌∙◌, ◌∷◌, ◌≡◌, ◌≤◌, ◌⊎◌}
use Rattle.mq_track.specs.declared.closing.CloseEnd.TheVariants as ending
use Rattle.mq_client.specs.declared.recipient_answer.RecipientAnswer.TheVariants as asked
use Rattle.mq_world.specs.World.{with_exchange}
use Rattle.mq_world.specs.Law.{counting, granted_of, let_by, is_on, let_on}
use Rattle.mq_world.specs.Running.{step_of}
use Rattle.mq_world.specs.Together.{kept_of, used_of, cap_of}
use Rattle.mq_ledger.proofs.Basics.{found, none_passes, sum_nothing, two_sums_are}
use Rattle.mq_client.proofs.Basics.{of_closing}
use Rattle.mq_world.proofs.Basics.{in_front, in_back, any_found, sum_has}
use Rattle.mq_world.proofs.Known.{OfLedgers, OfSums}
use Rattle.mq_world.proofs.Pools.{pool, in_one}
use Rattle.mq_world.proofs.Ranges.{unless}
use Rattle.mq_world.proofs.Grounds.{of_source, let_at, at_of}
use Rattle.mq_world.proofs.Runs.{is_settle, count_of, AllSuit, failing, so_far}
use Rattle.mq_world.proofs.Takes.{SuitsUnder, not_ended, reserve_closes, closes_not, closes_settled}

-- ---- an exchange on its way lets nothing through

-- what counts is the same, or nothing was let through
abbrev Counts : TransactionState → TransactionState → Type 0
Counts st now = (let_by st ≡ 0) ⊎ (counting st ≡ counting now)

undecided_at : (r : Request) (b : Bool) (d : ℕ) (q : Request) → slice_get (if b then [] else r ∷ []) d ≡ Some q → d ≡ 0
undecided_at r true d q e = absurd (none_some q e)
undecided_at r false zero q e = refl
undecided_at r false (suc d) q e = absurd (none_some q e)

decided_one : (o : Option Reply) (n : ℕ) → (if is_some o then n + 1 else n) ≡ 0 → answer_by o ≡ asked.Unavailable
decided_one None n e = refl
decided_one (Some a) n e = absurd (omega (arith, e))

-- an ask with a next exchange had no answer yet
still_unavailable : (tries : ℕ) (r q : Request) (b : Bool) (g : List Exchange) → next_of tries (if b then [] else r ∷ []) g ≡ Some q → answer_of g ≡ asked.Unavailable
still_unavailable tries r q b [] e = refl
still_unavailable tries r q b (x ∷ g) e =
    decided_one x.decided (decisions g) (undecided_at r b (decisions (x ∷ g)) q (unless (nat_le tries (failures (x ∷ g))) (slice_get (if b then [] else r ∷ []) (decisions (x ∷ g))) q e))

first_exchange : (moment : ℕ) (login : List ℕ) (st : TransactionState) → is_closed st ≡ false → Counts st (Live (let_through asked.Unavailable (opened moment login (held_by st))))
first_exchange moment login Never e = inl refl
first_exchange moment login (Live h) e = inr refl
first_exchange moment login (Closed end number h) e = absurd (ended_not end number h e)

counts_ask : (tries txn moment : ℕ) (login : List ℕ) (r q : Request) (b : Bool) (g : List Exchange) (v : View) → is_closed (v.standing txn) ≡ false → next_of tries (if b then [] else r ∷ []) g ≡ Some q → (t : ℕ)
    → Counts ((after_ask txn moment login g v).standing t) ((after_ask txn moment login (failing q ∷ g) v).standing t)
counts_ask tries txn moment login r q b [] v fresh_one e t = elim (either (txn == t)) [
  | inr n ↦ rw n (inr refl)
  | inl y ↦ (let same : txn ≡ t = number_is txn t y in
      let F : ℕ → Type 0 = λ u. Counts (v.standing u) (Live (let_through asked.Unavailable (opened moment login (held_by (v.standing txn))))) in
      rw y (subst F same (first_exchange moment login (v.standing txn) fresh_one)))
]
counts_ask tries txn moment login r q b (x ∷ g) v fresh_one e t = elim (either (txn == t)) [
  | inr n ↦ rw n (inr refl)
  | inl y ↦ (let none : answer_of (x ∷ g) ≡ asked.Unavailable = still_unavailable tries r q b (x ∷ g) e in
      rw y (inr (ap (λ a. Some (let_through a (opened moment login (held_by (v.standing txn))))) none)))
]

counts_close : (s : Source) (txn : ℕ) (end : CloseEnd) (g : List Exchange) (q : Request) (v : View) (o : Option HeldTransaction) (t : ℕ) → Counts ((after_close s txn end g v o).standing t) ((after_close s txn end (failing q ∷ g) v o).standing t)
counts_close s txn end g q v None t = inr refl
counts_close s txn end g q v (Some h) t = inr refl

counts_step : (s : Source) (tries : ℕ) (a : Action) (g : List Exchange) (quiet : Bool) (q : Request) (P : List Step) → AreUnderway s tries (step_of a quiet (failing q ∷ g) ∷ P) → NoneReturns s (step_of a quiet (failing q ∷ g) ∷ P) → (t : ℕ)
    → Counts ((after s (view s P) a g).standing t) ((after s (view s P) a (failing q ∷ g)).standing t)
counts_step s tries (Ask txn moment login) g quiet q P u back t =
    counts_ask (tries_in tries quiet) txn moment login (reserve_of s ((view s P).numbers + 1) txn moment login) q (refuses (held_by ((view s P).standing txn)) (length (view s P).live) (view s P).numbers (length (view s P).waiting) moment login) g (view s P) back.0 u.0.0 t
counts_step s tries (Close txn end) g quiet q P u back t = counts_close s txn end g q (view s P) (held_by ((view s P).standing txn)) t
counts_step s tries Drain g quiet q P u back t = inr refl

counts_past : (s : Source) (tries : ℕ) (q : Request) (P : List Step) → AreUnderway s tries (with_exchange (failing q) P) → NoneReturns s (with_exchange (failing q) P) → (t : ℕ) → Counts ((view s P).standing t) ((view s (with_exchange (failing q) P)).standing t)
counts_past s tries q [] u back t = inr refl
counts_past s tries q (x ∷ P) u back t = counts_step s tries x.action x.group x.quiet q P u back t

pub counts_so_far : (s : Source) (tries : ℕ) (o : Option Request) (P : List Step) → AreUnderway s tries (so_far o P) → NoneReturns s (so_far o P) → (t : ℕ) → Counts ((view s P).standing t) ((view s (so_far o P)).standing t)
counts_so_far s tries None P u back t = inr refl
counts_so_far s tries (Some q) P u back t = counts_past s tries q P u back t

-- ---- one transaction

abbrev closes_it : Transaction → Entry → Bool
closes_it t e = is_of t e.request && closes e.reply

-- where no ledger has settled or released it, each holds what it granted, or has settled that by a retire
kept_each : OfLedgers → (bs : List Book) (t : Transaction) → ((e : Entry) → In e (pool bs) → is_of t e.request ≡ true → closes e.reply ≡ false) → granted_in (pool bs) t ≤ sum_by (kept_of t) bs
kept_each L [] t each = omega arith
kept_each L (b ∷ bs) t each =
    let kept = L.kept b.history t (not_ended b.history t (λ e i. each e (in_front b.history (pool bs) e i))) in
    let rest = kept_each L bs t (λ e i. each e (in_back b.history (pool bs) e i)) in
    let parts = sum_by-append (λ e. if is_of t e.request then granted e.request e.reply else 0) b.history (pool bs) in
    omega (arith, kept, rest, parts, sum_by-cons (kept_of t) b bs)

closing_count : (s : Source) (n t : ℕ) (k : HeldTransaction) → is_settle (closing_of s n t ending.Commit k) ≡ true → count_of (closing_of s n t ending.Commit k) ≡ k.granted
closing_count s n t k = of_closing (λ r. is_settle r ≡ true → count_of r ≡ k.granted) s n t ending.Commit k (λ y. refl) (λ y. absurd (clash false y refl))

closing_settle : (s : Source) (n t : ℕ) (k : HeldTransaction) → 0 < k.granted → is_settle (closing_of s n t ending.Commit k) ≡ true
closing_settle s n t k some = let one : nat_le 1 k.granted ≡ true = grind (arith, nat_tests, some) in rw one refl

-- a ledger that closed a committed transaction settled all that was let through, by whichever ledgers
closed_each : (s : Source) (bs : List Book) → AllSuit (pool bs) → (t number : ℕ) (k : HeldTransaction) (e : Entry) → 0 < k.granted → In e (pool bs) → is_of (of_source s t) e.request ≡ true → closes e.reply ≡ true
    → SuitsUnder s t (Closed ending.Commit number k) e.request → k.granted ≤ sum_by (kept_of (of_source s t)) bs
closed_each s bs suits t number k e some i mine shut u = by_suits u.suits
  where
    by_suits : Suits s u.number t (Closed ending.Commit number k) e.request → k.granted ≤ sum_by (kept_of (of_source s t)) bs
    by_suits (inl r) = absurd (clash (closes e.reply) shut (closes_not e.request e.reply (suits e i) (reserve_closes s u.number t k e.request r)))
    by_suits (inr p) =
        let y : is_settle e.request ≡ true = ap is_settle p.1 ∙ closing_settle s u.number t k some in
        let count : count_of e.request ≡ k.granted = ap count_of p.1 ∙ closing_count s u.number t k (sym (ap is_settle p.1) ∙ y) in
        let all = closes_settled e.request e.reply (suits e i) shut y in
        let one = in_one bs e i in
        let H : List Entry = one.book.history in
        let part : (if is_of (of_source s t) e.request then counted e.request e.reply else 0) ≤ counted_in H (of_source s t) = sum_has (λ x. if is_of (of_source s t) x.request then counted x.request x.reply else 0) e H one.entry in
        let own : counted e.request e.reply ≤ counted_in H (of_source s t) = rw mine at part in
        let book = sum_has (kept_of (of_source s t)) one.book bs one.among in
        omega (arith, count, all, own, book)

-- it did not close it
closed_not : (t : Transaction) (e : Entry) → is_of t e.request ≡ true → closes_it t e ≡ false → closes e.reply ≡ false
closed_not t e mine none = elim (either (closes e.reply)) [ inr f ↦ f | inl y ↦ absurd (clash (closes_it t e) (both_so (is_of t e.request) (closes e.reply) mine y) none) ]

-- what was let through of a transaction, the ledgers hold or have settled together
pub standing_each : (s : Source) (bs : List Book) → OfLedgers → AllSuit (pool bs) → (t : ℕ) (st : TransactionState) → let_at st ≤ granted_in (pool bs) (of_source s t)
    → ((e : Entry) → In e (pool bs) → is_of (of_source s t) e.request ≡ true → SuitsUnder s t st e.request) → let_by st ≤ sum_by (kept_of (of_source s t)) bs
standing_each s bs L suits t (Live k) enough each =
    let kept = kept_each L bs (of_source s t) (λ e i mine. (let u = each e i mine in closes_not e.request e.reply (suits e i) (reserve_closes s u.number t k e.request u.suits))) in
    omega (arith, enough, kept)
standing_each s bs L suits t (Closed ending.Commit number k) enough each = elim (zero_or_more k.granted) [
  | inl z ↦ omega (arith, z)
  | inr some ↦ elim (either (list_any (closes_it (of_source s t)) (pool bs))) [
    | inl y ↦ (let f = any_found (closes_it (of_source s t)) (pool bs) y in
        let mine = first_so (is_of (of_source s t) f.0.request) (closes f.0.reply) f.1.1 in
        let shut = second_so (is_of (of_source s t) f.0.request) (closes f.0.reply) f.1.1 in
        closed_each s bs suits t number k f.0 some f.1.0 mine shut (each f.0 f.1.0 mine))
    | inr m ↦ (let kept = kept_each L bs (of_source s t) (λ e i mine. closed_not (of_source s t) e mine (none_passes (closes_it (of_source s t)) (pool bs) e m i)) in
        omega (arith, enough, kept))
  ]
]
standing_each s bs L suits t st enough each = omega arith

-- ---- of a login and day

suits_for : (day : ℕ → ℕ) (l : List ℕ) (d : ℕ) (s : Source) (n t : ℕ) (st : TransactionState) (q : Request) → Suits s n t st q → is_on day l d (counting st) ≡ true → is_for day l d q ≡ true
suits_for day l d s n t Never q u on = absurd u
suits_for day l d s n t (Live k) q u on = ap (is_for day l d) u ∙ on
suits_for day l d s n t (Closed ending.Rollback number k) q u on = absurd (clash false on refl)
suits_for day l d s n t (Closed ending.Commit number k) q (inl r) on = ap (is_for day l d) r ∙ on
suits_for day l d s n t (Closed ending.Commit number k) q (inr p) on = ap (is_for day l d) p.1 ∙ of_closing (λ r. is_for day l d r ≡ true) s n t ending.Commit k on on

on_named : (day : ℕ → ℕ) (H : List Entry) (l : List ℕ) (d : ℕ) (t : Transaction) (e : Entry) (n : ℕ) → named H t ≡ Some e → is_for day l d e.request ≡ true → n ≤ held H t + settled_in H t → n ≤ held_on day H l d t + settled_on day H l d t
on_named day H l d t e n is here le =
    let names : names_for day l d (named H t) ≡ true = ap (names_for day l d) is ∙ here in
    rw names le

pub let_if : (b : Bool) (n m : ℕ) → (b ≡ true → n ≤ m) → (if b then n else 0) ≤ m
let_if true n m f = f refl
let_if false n m f = omega arith

on_each : OfLedgers → (day : ℕ → ℕ) (H : List Entry) (l : List ℕ) (d : ℕ) (s : Source) (t : ℕ) (st : TransactionState) → ((e : Entry) → In e H → is_of (of_source s t) e.request ≡ true → SuitsUnder s t st e.request)
    → is_on day l d (counting st) ≡ true → held H (of_source s t) + settled_in H (of_source s t) ≤ held_on day H l d (of_source s t) + settled_on day H l d (of_source s t)
on_each L day H l d s t st each on = elim (option_cases (named H (of_source s t))) [
  | inl none ↦ (let z = L.unheard H (of_source s t) none in let a = z.1 in let b = z.2 in omega (arith, a, b))
  | inr p ↦ (let f = found (λ x. is_of (of_source s t) x.request) H p.0 p.1 in
      let u = each p.0 f.0 f.1 in
      on_named day H l d (of_source s t) p.0 (held H (of_source s t) + settled_in H (of_source s t)) p.1 (suits_for day l d s u.number t st p.0.request u.suits on) (omega arith))
]

-- what a ledger holds or has settled of a transaction, where it was named with that login and day
abbrev pub kept_on : List ℕ → ℕ → Transaction → Book → ℕ
kept_on l d t b = held_on (day_of b.zone) b.history l d t + settled_on (day_of b.zone) b.history l d t

-- in ledgers of one zone
pub on_all : OfLedgers → (zone : Zone) (bs : List Book) → AllByRecursion (λ b. b.zone ≡ zone) bs → (l : List ℕ) (d : ℕ) (s : Source) (t : ℕ) (st : TransactionState) → ((e : Entry) → In e (pool bs) → is_of (of_source s t) e.request ≡ true → SuitsUnder s t st e.request)
    → is_on (day_of zone) l d (counting st) ≡ true → sum_by (kept_of (of_source s t)) bs ≤ sum_by (kept_on l d (of_source s t)) bs
on_all L zone [] zones l d s t st each on = omega arith
on_all L zone (b ∷ bs) zones l d s t st each on =
    let here : is_on (day_of b.zone) l d (counting st) ≡ true = subst (λ z. is_on (day_of z) l d (counting st) ≡ true) (sym zones.0) on in
    let a = on_each L (day_of b.zone) b.history l d s t st (λ e i. each e (in_front b.history (pool bs) e i)) here in
    let rest = on_all L zone bs zones.1 l d s t st (λ e i. each e (in_back b.history (pool bs) e i)) on in
    omega (arith, a, rest, sum_by-cons (kept_of (of_source s t)) b bs, sum_by-cons (kept_on l d (of_source s t)) b bs)

-- ---- sums over ledgers

-- what some transactions have there is at most what is used
pub sums_on : OfSums → (bs : List Book) → AllByRecursion IsLegalBook bs → (l : List ℕ) (d : ℕ) (ts : List Transaction) → AreDistinct ts → sum_by (λ t. sum_by (kept_on l d t) bs) ts ≤ sum_by (used_of l d) bs
sums_on S [] legal l d ts distinct = omega (arith, sum_nothing (λ _. 0) ts (λ x i. refl))
sums_on S (b ∷ bs) legal l d ts distinct =
    let day : ℕ → ℕ = day_of b.zone in
    let H : List Entry = b.history in
    let split = sum_by-le-sum_by (λ t. sum_by (kept_on l d t) (b ∷ bs)) (λ t. kept_on l d t b + sum_by (kept_on l d t) bs) ts (λ t. omega (arith, sum_by-cons (kept_on l d t) b bs)) in
    let parts = two_sums_are (λ t. kept_on l d t b) (λ t. sum_by (kept_on l d t) bs) (λ t. kept_on l d t b + sum_by (kept_on l d t) bs) ts (λ x i. refl) in
    let two = two_sums_are (held_on day H l d) (settled_on day H l d) (λ t. kept_on l d t b) ts (λ x i. refl) in
    let h = S.held day b.default H l d ts legal.0.legal distinct in
    let g = S.settled day b.default H l d ts legal.0.legal distinct in
    let rest = sums_on S bs legal.1 l d ts distinct in
    omega (arith, split, parts, two, h, g, rest, sum_by-cons (used_of l d) b bs)

-- and that at most the limits
pub within_all : OfSums → (bs : List Book) → AllByRecursion IsLegalBook bs → (l : List ℕ) (d : ℕ) → sum_by (used_of l d) bs ≤ sum_by (cap_of l d) bs
within_all S [] legal l d = omega arith
within_all S (b ∷ bs) legal l d =
    let one = S.within (day_of b.zone) b.default b.history legal.0.legal l d in
    let rest = within_all S bs legal.1 l d in
    omega (arith, one, rest, sum_by-cons (used_of l d) b bs, sum_by-cons (cap_of l d) b bs)

-- ---- before an exchange that is on its way

pub let_from : (day : ℕ → ℕ) (l : List ℕ) (d : ℕ) (st now : TransactionState) (n : ℕ) → Counts st now → let_on day l d now ≤ n → let_on day l d st ≤ n
let_from day l d st now n (inl z) le = let_if (is_on day l d (counting st)) (let_by st) n (λ y. omega (arith, z))
let_from day l d st now n (inr same) le = (let e : let_on day l d st ≡ let_on day l d now = ap (λ c. if is_on day l d c then granted_of c else 0) same in omega (arith, e, le))

pub by_from : (st now : TransactionState) (n : ℕ) → Counts st now → let_by now ≤ n → let_by st ≤ n
by_from st now n (inl z) le = omega (arith, z)
by_from st now n (inr same) le = (let e : let_by st ≡ let_by now = ap granted_of same in omega (arith, e, le))

-- ---- the day of what counts

pub counting_at : (st : TransactionState) (h : HeldTransaction) → counting st ≡ Some h → at_of st ≡ h.moment
counting_at (Live k) h e = ap (λ (x : HeldTransaction). x.moment) (some_is k h e)
counting_at (Closed ending.Commit number k) h e = ap (λ (x : HeldTransaction). x.moment) (some_is k h e)
counting_at st h e = absurd (none_some h e)

pub on_at : (day : ℕ → ℕ) (l : List ℕ) (d : ℕ) (st : TransactionState) → is_on day l d (counting st) ≡ true → day (at_of st) ≡ d
on_at day l d (Live k) on = number_is (day k.moment) d (second_so (same_text l k.login) (day k.moment == d) on)
on_at day l d (Closed ending.Commit number k) on = number_is (day k.moment) d (second_so (same_text l k.login) (day k.moment == d) on)
on_at day l d st on = absurd (clash false on refl)

-- what counted before an exchange that is on its way
pub counts_at : (st now : TransactionState) (n : ℕ) (h : HeldTransaction) → Counts st now → counting st ≡ Some h → (at_of now ≡ h.moment → let_by now ≤ n) → let_by st ≤ n
counts_at st now n h (inl z) is le = omega (arith, z)
counts_at st now n h (inr same) is le = by_from st now n (inr same) (le (counting_at now h (sym same ∙ is)))
