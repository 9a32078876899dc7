-- What one more entry does to what a login has reserved on a day.
use Rattle.mq_ledger.proofs.Words.{AllByRecursion, Bool, Entry, Granted, Id, IsLegal, IsOpenTo, List, Release, Released, Reply, Request, Reserve, Retire, Retired, Settle, Settled, Suits, Transaction, [], abandoned, all_at, answer, ap, arith, clash, closed, closes, concerns, counted, either, ended}
use Rattle.mq_ledger.proofs.Words.{false, first_so, granted, granted_in, has_retired_run, held, if_zero, if◌then◌else◌, inl, inr, is_abandoned, is_at, is_of, is_open, neither_first, not, number_is, or_second, refl, reserved, reserved_of, retires, same_text, same_transaction, second_so, settled}
use Rattle.mq_ledger.proofs.Words.{settled_of, subst, sum_by, sum_by_push, sym, text_is, transaction, true, used, zero_or_more, ℕ, ◌&&◌, ◌++◌, ◌+◌, ◌<◌, ◌==◌, ◌||◌, ◌∙◌, ◌∷◌, ◌≡◌}
use Rattle.mq_lemmas.proofs.Booleans.{or_false}
use Rattle.mq_ledger.specs.History.{is_retired_by, reserved_by_retired, gained, freed, settles}
use Rattle.mq_ledger.proofs.Basics.{sum_same, two_sums_are, sum_if}
use Rattle.mq_ledger.proofs.Entries.{moves_open_alone}
use Rattle.mq_ledger.proofs.Within.{legal_good}
use Rattle.mq_ledger.proofs.Suiting.{Opens, answer_suits, answer_opens}
use Rattle.mq_ledger.proofs.Transactions.{entry, transaction_is, transaction_itself, ended_push, has_retired_run_push, closed_push, at_its, ended_now, IsUniformAt, IsUniform, held_of, moved}

-- An entry that doesn't close leaves what is reserved.

or_and_nothing : (a b : Bool) → (a || (b && false)) ≡ a
or_and_nothing a b = grind arith

-- the request retires no run
abbrev GivesNone : Request → Type 0
GivesNone r = (t : Transaction) → retires r t ≡ false

closed_same : (H : List Entry) (e : Entry) → closes e.reply ≡ false → GivesNone e.request → (t : Transaction) → closed (H ++ e ∷ []) t ≡ closed H t
closed_same H e shut stays t = closed_push H e t ∙ rw (stays t, shut) (or_and_nothing (closed H t) (is_of t e.request))

open_same : (H : List Entry) (e : Entry) → closes e.reply ≡ false → GivesNone e.request → (r : Request) → is_open (H ++ e ∷ []) r ≡ is_open H r
open_same H e shut stays (Reserve id txn moment login count) = ap not (closed_same H e shut stays (transaction id txn))
open_same H e shut stays r = refl

reserved_stays : (day : ℕ → ℕ) (H : List Entry) (e : Entry) (l : List ℕ) (d : ℕ) → closes e.reply ≡ false → GivesNone e.request → sum_by (reserved_of day (H ++ e ∷ []) l d) H ≡ reserved day H l d
reserved_stays day H e l d shut stays = sum_same (reserved_of day (H ++ e ∷ []) l d) (reserved_of day H l d) H (λ x _. (let same = open_same H e shut stays x.request in rw same refl))

-- One that closes a transaction ends what it holds.

of_one : (t u : Transaction) (r : Request) → is_of t r ≡ true → is_of u r ≡ true → t ≡ u
of_one t u (Reserve id txn moment login count) h g = transaction_is t (transaction id txn) h ∙ sym (transaction_is u (transaction id txn) g)
of_one t u (Settle id txn moment login count) h g = transaction_is t (transaction id txn) h ∙ sym (transaction_is u (transaction id txn) g)
of_one t u (Release id txn moment login) h g = transaction_is t (transaction id txn) h ∙ sym (transaction_is u (transaction id txn) g)
of_one t u r h g = cc

pub of_another : (t u : Transaction) (r : Request) → is_of t r ≡ true → same_transaction t u ≡ false → is_of u r ≡ false
of_another t u r h other = elim (either (is_of u r)) [
  | inr f ↦ f
  | inl g ↦ absurd (clash (same_transaction t u) (ap (same_transaction t) (sym (of_one t u r h g)) ∙ transaction_itself t) other)
]

-- a request of a transaction retires no run
of_gives_none : (t : Transaction) (r : Request) → is_of t r ≡ true → GivesNone r
of_gives_none t (Retire id) mine = cc
of_gives_none t r mine = λ u. refl

closed_elsewhere : (H : List Entry) (e : Entry) (t u : Transaction) → is_of t e.request ≡ true → is_of u e.request ≡ false → closed (H ++ e ∷ []) u ≡ closed H u
closed_elsewhere H e t u mine apart = closed_push H e u ∙ rw (of_gives_none t e.request mine u, apart) (or_false (closed H u))

open_elsewhere : (H : List Entry) (e : Entry) (t : Transaction) → is_of t e.request ≡ true → (r : Request) → is_of t r ≡ false → is_open (H ++ e ∷ []) r ≡ is_open H r
open_elsewhere H e t mine (Reserve id txn moment login count) other = ap not (closed_elsewhere H e t (transaction id txn) mine (of_another t (transaction id txn) e.request mine other))
open_elsewhere H e t mine r other = refl

concerned_at : (day : ℕ → ℕ) (moment moment' : ℕ) (login login' l : List ℕ) (d : ℕ) → ((moment == moment') && same_text login login') ≡ true → (same_text l login' && (day moment' == d)) ≡ (same_text l login && (day moment == d))
concerned_at day moment moment' login login' l d here =
    let moment_is : moment ≡ moment' = number_is moment moment' (first_so (moment == moment') (same_text login login') here) in
    let name : login ≡ login' = text_is login login' (second_so (moment == moment') (same_text login login') here) in
    rw (moment_is, name) refl

-- what was granted or settled for that moment and login is of its day and login
pub concerned : (day : ℕ → ℕ) (moment : ℕ) (login : List ℕ) (r : Request) (a : Reply) → 0 < moved r a → is_at moment login r ≡ true → (l : List ℕ) (d : ℕ) → concerns day l d r ≡ (same_text l login && (day moment == d))
concerned day moment login (Reserve id txn moment' login' count) (Granted id' n) some here l d = concerned_at day moment moment' login login' l d here
concerned day moment login (Settle id txn moment' login' count) (Settled id' n) some here l d = concerned_at day moment moment' login login' l d here
concerned day moment login r a some here l d = absurd (omega arith)

-- a granted reserve of the transaction that the entry closes: of its login and day, open before, and then not
record Ends (day : ℕ → ℕ) (H : List Entry) (e : Entry) (moment : ℕ) (login : List ℕ) (r : Request) : Type 0 where
  concerns : (l : List ℕ) (d : ℕ) → concerns day l d r ≡ (same_text l login && (day moment == d))
  before : is_open H r ≡ true
  after : is_open (H ++ e ∷ []) r ≡ false

ends : (day : ℕ → ℕ) (H : List Entry) (e : Entry) (t : Transaction) (moment : ℕ) (login : List ℕ) → is_of t e.request ≡ true → closes e.reply ≡ true → closed H t ≡ false → (r : Request) (a : Reply) → is_of t r ≡ true → 0 < granted r a → is_at moment login r ≡ true → Ends day H e moment login r
ends day H e t moment login mine closing shut (Reserve id txn moment' login' count) (Granted id' n) of some here = record {
  concerns = λ l d. concerned_at day moment moment' login login' l d here;
  before = ap not (at_its (closed H) t (transaction id txn) false of shut);
  after = ap not (at_its (closed (H ++ e ∷ [])) t (transaction id txn) true of (or_second (has_retired_run (H ++ e ∷ []) t) (ended (H ++ e ∷ []) t) (ended_now H e t mine closing)));
}
ends day H e t moment login mine closing shut r a of some here = absurd (omega arith)

ends_at : (day : ℕ → ℕ) (H : List Entry) (e : Entry) (t : Transaction) (moment : ℕ) (login l : List ℕ) (d : ℕ) → is_of t e.request ≡ true → closes e.reply ≡ true → closed H t ≡ false → (x : Entry) → IsUniformAt t moment login x →
    reserved_of day (H ++ e ∷ []) l d x + (if same_text l login && (day moment == d) then held_of t x else 0) ≡ reserved_of day H l d x
ends_at day H e t moment login l d mine closing shut x uniform =
    elim (either (is_of t x.request)) [
      | inr other ↦ (let same = open_elsewhere H e t mine x.request other in rw (same, other) (grind arith))
      | inl of ↦ elim (zero_or_more (granted x.request x.reply)) [
        | inl none ↦ grind (arith, none)
        | inr some ↦ (let g = ends day H e t moment login mine closing shut x.request x.reply of some (uniform of (omega (arith, some))) in
            rw (of, g.concerns l d, g.after, g.before) (grind arith))
      ]
    ]

reserved_ends : (day : ℕ → ℕ) (H : List Entry) (e : Entry) (t : Transaction) (moment : ℕ) (login l : List ℕ) (d : ℕ) → is_of t e.request ≡ true → closes e.reply ≡ true → closed H t ≡ false → AllByRecursion (IsUniformAt t moment login) H →
    sum_by (reserved_of day (H ++ e ∷ []) l d) H + (if same_text l login && (day moment == d) then granted_in H t else 0) ≡ reserved day H l d
reserved_ends day H e t moment login l d mine closing shut uniform =
    let c : Bool = same_text l login && (day moment == d) in
    let part = sum_if c (held_of t) H in
    let both = two_sums_are (reserved_of day (H ++ e ∷ []) l d) (λ x. if c then held_of t x else 0) (reserved_of day H l d) H (λ x i. ends_at day H e t moment login l d mine closing shut x (all_at (IsUniformAt t moment login) H x uniform i)) in
    omega (arith, part, both)

-- The equation.

quiet : (day : ℕ → ℕ) (H : List Entry) (r : Request) (a : Reply) (l : List ℕ) (d : ℕ) → closes a ≡ false → GivesNone r → granted r a ≡ 0 → reserved day (H ++ entry r a ∷ []) l d ≡ reserved day H l d
quiet day H r a l d shut stays none =
    let own : reserved_of day (H ++ entry r a ∷ []) l d (entry r a) ≡ 0 = if_zero (concerns day l d r && is_open (H ++ entry r a ∷ []) r) (granted r a) none in
    omega (arith, own, sum_by_push (reserved_of day (H ++ entry r a ∷ []) l d) H (entry r a), reserved_stays day H (entry r a) l d shut stays)

closing : (day : ℕ → ℕ) (H : List Entry) (r : Request) (a : Reply) (t : Transaction) (moment : ℕ) (login l : List ℕ) (d : ℕ) → IsUniform H → is_of t r ≡ true → closes a ≡ true → granted r a ≡ 0 → IsOpenTo moment login H t →
    reserved day (H ++ entry r a ∷ []) l d + (if same_text l login && (day moment == d) then held H t else 0) ≡ reserved day H l d
closing day H r a t moment login l d uniform mine shuts none o =
    let own : reserved_of day (H ++ entry r a ∷ []) l d (entry r a) ≡ 0 = if_zero (concerns day l d r && is_open (H ++ entry r a ∷ []) r) (granted r a) none in
    let gone = reserved_ends day H (entry r a) t moment login l d mine shuts o.open_still (uniform t moment login o.agreed) in
    let all : reserved day (H ++ entry r a ∷ []) l d + (if same_text l login && (day moment == d) then granted_in H t else 0) ≡ reserved day H l d = omega (arith, own, gone, sum_by_push (reserved_of day (H ++ entry r a ∷ []) l d) H (entry r a)) in
    rw o.open_still all

granting : (day : ℕ → ℕ) (H : List Entry) (id id' : Id) (txn moment : ℕ) (login : List ℕ) (count n : ℕ) (l : List ℕ) (d : ℕ) → IsOpenTo moment login H (transaction id txn) →
    reserved day (H ++ entry (Reserve id txn moment login count) (Granted id' n) ∷ []) l d ≡ reserved day H l d + (if same_text l login && (day moment == d) then count else 0)
granting day H id id' txn moment login count n l d o =
    let e : Entry = entry (Reserve id txn moment login count) (Granted id' n) in
    let still : closed (H ++ e ∷ []) (transaction id txn) ≡ false = closed_same H e refl (λ u. refl) (transaction id txn) ∙ o.open_still in
    let own : reserved_of day (H ++ e ∷ []) l d e ≡ (if same_text l login && (day moment == d) then count else 0) = rw still (grind arith) in
    omega (arith, own, sum_by_push (reserved_of day (H ++ e ∷ []) l d) H e, reserved_stays day H e l d refl (λ u. refl))

-- A retire ends what the runs below its own have reserved.

retire_splits : (c S U : Bool) (a : ℕ) → (if c && not (U || (S || false)) then a else 0) + (if U then (if c && not S then a else 0) else 0) ≡ (if c && not S then a else 0)
retire_splits c S U a = grind arith

and_none : (c : Bool) (a : ℕ) → (if c && false then a else 0) ≡ 0
and_none c a = grind arith

retire_at : (day : ℕ → ℕ) (H : List Entry) (id id' : Id) (l : List ℕ) (d : ℕ) (r : Request) (a : Reply) →
    reserved_of day (H ++ entry (Retire id) (Retired id') ∷ []) l d (entry r a) + (if is_retired_by (Retire id) r then reserved_of day H l d (entry r a) else 0) ≡ reserved_of day H l d (entry r a)
retire_at day H id id' l d (Reserve jd txn moment login count) a =
    let t : Transaction = transaction jd txn in
    rw (closed_push H (entry (Retire id) (Retired id')) t) (retire_splits (same_text l login && (day moment == d)) (closed H t) (retires (Retire id) t) (granted (Reserve jd txn moment login count) a))
retire_at day H id id' l d (Settle jd txn moment login count) a = omega (arith, and_none (same_text l login && (day moment == d)) (granted (Settle jd txn moment login count) a))
retire_at day H id id' l d r a = refl

retiring : (day : ℕ → ℕ) (H : List Entry) (id id' : Id) (l : List ℕ) (d : ℕ) →
    reserved day (H ++ entry (Retire id) (Retired id') ∷ []) l d + reserved_by_retired day H l d (Retire id) ≡ reserved day H l d
retiring day H id id' l d =
    let e : Entry = entry (Retire id) (Retired id') in
    let own : reserved_of day (H ++ e ∷ []) l d e ≡ 0 = refl in
    let both = two_sums_are (reserved_of day (H ++ e ∷ []) l d) (λ x. if is_retired_by (Retire id) x.request then reserved_of day H l d x else 0) (reserved_of day H l d) H (λ x _. retire_at day H id id' l d x.request x.reply) in
    omega (arith, own, both, sum_by_push (reserved_of day (H ++ e ∷ []) l d) H e)

reserved_entry : (day : ℕ → ℕ) (H : List Entry) (l : List ℕ) (d : ℕ) → IsUniform H → (r : Request) (a : Reply) → Suits r a → Opens H r a → reserved day (H ++ entry r a ∷ []) l d + freed day H l d r a ≡ reserved day H l d + gained day l d r a
reserved_entry day H l d uniform (Reserve id txn moment login count) (Granted id' n) suits o = omega (arith, granting day H id id' txn moment login count n l d o)
reserved_entry day H l d uniform (Settle id txn moment login count) (Settled id' n) suits o =
    let none : gained day l d (Settle id txn moment login count) (Settled id' n) ≡ 0 = grind arith in
    omega (arith, none, closing day H (Settle id txn moment login count) (Settled id' n) (transaction id txn) moment login l d uniform (transaction_itself (transaction id txn)) refl refl o.0)
reserved_entry day H l d uniform (Release id txn moment login) (Released id' n) suits o =
    omega (arith, closing day H (Release id txn moment login) (Released id' n) (transaction id txn) moment login l d uniform (transaction_itself (transaction id txn)) refl refl o)
reserved_entry day H l d uniform (Retire id) (Retired id') suits o = omega (arith, retiring day H id id' l d)
reserved_entry day H l d uniform (Retire id) a suits o = absurd o
reserved_entry day H l d uniform r (Settled id' n) suits o = absurd suits
reserved_entry day H l d uniform r (Released id' n) suits o = absurd suits
reserved_entry day H l d uniform r a suits o =
    let none : gained day l d r a ≡ 0 = grind arith in
    omega (arith, none, quiet day H r a l d refl (λ u. refl) refl)

pub reserved_more : (day : ℕ → ℕ) (default : ℕ) (H : List Entry) (e : Entry) (l : List ℕ) (d : ℕ) → IsLegal day default H → e.reply ≡ answer day default H e.request → reserved day (H ++ e ∷ []) l d + freed day H l d e.request e.reply ≡ reserved day H l d + gained day l d e.request e.reply
reserved_more day default H e l d legal is =
    reserved_entry day H l d (legal_good day default H legal).uniform e.request e.reply (subst (Suits e.request) (sym is) (answer_suits day default H e.request)) (subst (Opens H e.request) (sym is) (answer_opens day default H e.request))

-- What one more entry does to what a login has settled on a day.

abandoned_same : (H : List Entry) (r : Request) (a : Reply) → Suits r a → Opens H r a → GivesNone r → (t : Transaction) → abandoned (H ++ entry r a ∷ []) t ≡ abandoned H t
abandoned_same H r a suits o stays t =
    let u : has_retired_run (H ++ entry r a ∷ []) t ≡ has_retired_run H t = has_retired_run_push H (entry r a) t ∙ rw (stays t) refl in
    elim (either (has_retired_run H t)) [
      | inr fresh ↦ rw (u, fresh) refl
      | inl before ↦ (let q = moves_open_alone H t r a suits o (rw before refl) in
          let x : ended (H ++ entry r a ∷ []) t ≡ ended H t = ended_push H (entry r a) t ∙ rw q.no_end (or_false (ended H t)) in
          rw (u, x) refl)
    ]

is_abandoned_same : (H : List Entry) (r : Request) (a : Reply) → Suits r a → Opens H r a → GivesNone r → (q : Request) → is_abandoned (H ++ entry r a ∷ []) q ≡ is_abandoned H q
is_abandoned_same H r a suits o stays (Reserve id txn moment login count) = abandoned_same H r a suits o stays (transaction id txn)
is_abandoned_same H r a suits o stays q = refl

settled_stays : (day : ℕ → ℕ) (H : List Entry) (r : Request) (a : Reply) (l : List ℕ) (d : ℕ) → Suits r a → Opens H r a → GivesNone r → sum_by (settled_of day (H ++ entry r a ∷ []) l d) H ≡ settled day H l d
settled_stays day H r a l d suits o stays = sum_same (settled_of day (H ++ entry r a ∷ []) l d) (settled_of day H l d) H (λ x _. (let same = is_abandoned_same H r a suits o stays x.request in rw same refl))

settled_by : (day : ℕ → ℕ) (H : List Entry) (r : Request) (a : Reply) (l : List ℕ) (d n : ℕ) → Suits r a → Opens H r a → GivesNone r → settled_of day (H ++ entry r a ∷ []) l d (entry r a) ≡ n → settled day (H ++ entry r a ∷ []) l d ≡ settled day H l d + n
settled_by day H r a l d n suits o stays own = omega (arith, own, sum_by_push (settled_of day (H ++ entry r a ∷ []) l d) H (entry r a), settled_stays day H r a l d suits o stays)

-- what was granted just now isn't abandoned
just_granted : (day : ℕ → ℕ) (H : List Entry) (id id' : Id) (txn moment : ℕ) (login : List ℕ) (count n : ℕ) (l : List ℕ) (d : ℕ) → IsOpenTo moment login H (transaction id txn) →
    settled_of day (H ++ entry (Reserve id txn moment login count) (Granted id' n) ∷ []) l d (entry (Reserve id txn moment login count) (Granted id' n)) ≡ 0
just_granted day H id id' txn moment login count n l d o =
    let e : Entry = entry (Reserve id txn moment login count) (Granted id' n) in
    let still : closed (H ++ e ∷ []) (transaction id txn) ≡ false = closed_same H e refl (λ u. refl) (transaction id txn) ∙ o.open_still in
    let kept : has_retired_run (H ++ e ∷ []) (transaction id txn) ≡ false = neither_first (has_retired_run (H ++ e ∷ []) (transaction id txn)) (ended (H ++ e ∷ []) (transaction id txn)) still in
    rw kept (if_zero (same_text l login && (day moment == d)) 0 refl)

plus_none : (c b : Bool) (n : ℕ) → (if c then n + (if b then 0 else 0) else 0) ≡ (if c then n else 0)
plus_none c b n = grind arith

retire_moves : (c G X U : Bool) (a k : ℕ) → (if c then k + (if (U || G) && not (X || false) then a else 0) else 0) ≡ (if c then k + (if G && not X then a else 0) else 0) + (if U then (if c && not (G || X) then a else 0) else 0)
retire_moves c G X U a k = grind arith

retire_settles_at : (day : ℕ → ℕ) (H : List Entry) (id id' : Id) (l : List ℕ) (d : ℕ) (r : Request) (a : Reply) →
    settled_of day H l d (entry r a) + (if is_retired_by (Retire id) r then reserved_of day H l d (entry r a) else 0) ≡ settled_of day (H ++ entry (Retire id) (Retired id') ∷ []) l d (entry r a)
retire_settles_at day H id id' l d (Reserve jd txn moment login count) a =
    let t : Transaction = transaction jd txn in
    let e : Entry = entry (Retire id) (Retired id') in
    rw (has_retired_run_push H e t, ended_push H e t) (sym (retire_moves (same_text l login && (day moment == d)) (has_retired_run H t) (ended H t) (retires (Retire id) t) (granted (Reserve jd txn moment login count) a) (counted (Reserve jd txn moment login count) a)))
retire_settles_at day H id id' l d (Settle jd txn moment login count) a = omega arith
retire_settles_at day H id id' l d r a = refl

retire_settles : (day : ℕ → ℕ) (H : List Entry) (id id' : Id) (l : List ℕ) (d : ℕ) →
    settled day (H ++ entry (Retire id) (Retired id') ∷ []) l d ≡ settled day H l d + reserved_by_retired day H l d (Retire id)
retire_settles day H id id' l d =
    let e : Entry = entry (Retire id) (Retired id') in
    let own : settled_of day (H ++ e ∷ []) l d e ≡ 0 = refl in
    let both = two_sums_are (settled_of day H l d) (λ x. if is_retired_by (Retire id) x.request then reserved_of day H l d x else 0) (settled_of day (H ++ e ∷ []) l d) H (λ x _. retire_settles_at day H id id' l d x.request x.reply) in
    omega (arith, own, both, sum_by_push (settled_of day (H ++ e ∷ []) l d) H e)

settled_entry : (day : ℕ → ℕ) (H : List Entry) (l : List ℕ) (d : ℕ) (r : Request) (a : Reply) → Suits r a → Opens H r a → settled day (H ++ entry r a ∷ []) l d ≡ settled day H l d + settles day H l d r a
settled_entry day H l d (Reserve id txn moment login count) (Granted id' n) suits o = settled_by day H _ _ l d 0 suits o (λ u. refl) (just_granted day H id id' txn moment login count n l d o)
settled_entry day H l d (Settle id txn moment login count) (Settled id' n) suits o = settled_by day H _ _ l d (if same_text l login && (day moment == d) then count else 0) suits o (λ u. refl) (plus_none (same_text l login && (day moment == d)) false count)
settled_entry day H l d (Retire id) (Retired id') suits o = retire_settles day H id id' l d
settled_entry day H l d (Retire id) a suits o = absurd o
settled_entry day H l d r (Settled id' n) suits o = absurd suits
settled_entry day H l d r a suits o = settled_by day H r a l d 0 suits o (λ u. refl) (plus_none (concerns day l d r) (is_abandoned (H ++ entry r a ∷ []) r) 0 ∙ if_zero (concerns day l d r) 0 refl)

pub settled_more : (day : ℕ → ℕ) (default : ℕ) (H : List Entry) (e : Entry) (l : List ℕ) (d : ℕ) → e.reply ≡ answer day default H e.request → settled day (H ++ e ∷ []) l d ≡ settled day H l d + settles day H l d e.request e.reply
settled_more day default H e l d is =
    settled_entry day H l d e.request e.reply (subst (Suits e.request) (sym is) (answer_suits day default H e.request)) (subst (Opens H e.request) (sym is) (answer_opens day default H e.request))

-- A retire leaves what is used.
pub retire_leaves_used : (day : ℕ → ℕ) (H : List Entry) (id id' : Id) (l : List ℕ) (d : ℕ) → used day (H ++ entry (Retire id) (Retired id') ∷ []) l d ≡ used day H l d
retire_leaves_used day H id id' l d = omega (arith, retiring day H id id' l d, retire_settles day H id id' l d)
