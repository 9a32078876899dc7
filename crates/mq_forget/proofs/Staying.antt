-- Which entries stay: a later entry changes nothing of it, and of a transaction all stay or none.
use Rattle.mq_forget.proofs.Words.{AreAlike, Bool, Entry, Id, In, Limit, List, None, Option, Release, Reply, Request, Reserve, Retire, Settle, Some, Transaction, [], any_nothing, ap, append-nil, append_assoc, arith, cap, closed, counted, day_named, either, entry, false, filter, filter_in}
use Rattle.mq_forget.proofs.Words.{find-append, first_so, granted, greater, if◌then◌else◌, inl, inr, is_about, is_below, is_of, is_set, list_any, moment_of, named, nat_le, nat_lt, nat_tests, neither, not, not_found, option_cases, option_or, or_second, refl, remembered, requests, stays, subst}
use Rattle.mq_forget.proofs.Words.{sum_by, sum_nothing, sym, transaction, transaction_itself, true, ℕ, ◌&&◌, ◌++◌, ◌+◌, ◌==◌, ◌||◌, ◌∙◌, ◌∷◌, ◌≡◌, ◌≤◌}
use Rattle.std.proofs.lemmas.List.Elements.{filter-append}
use Rattle.std.proofs.lemmas.List.Folds.{fold-map}
use Rattle.mq_request.specs.declared.message.Reply.TheVariants.{LimitSet}
use Rattle.mq_ledger.specs.Arrivals.{raised, floor}
use Rattle.mq_ledger.specs.History.{same_transaction, closes, ended, has_retired_run, abandoned, granted_in, counted_in}
use Rattle.mq_ledger.specs.Limits.{sets, governs, limits, latest, last_cap, from_of}
use Rattle.mq_ledger.proofs.Transactions.{transaction_is}
use Rattle.mq_ledger.proofs.Floors.{greater_zero}
use Rattle.mq_ledger.proofs.Basics.{found_in}
use Rattle.mq_forget.proofs.Lists.{filter_same, find_kept, any_kept, filter_kept, sum_kept, fold_kept, find_lost, find_none}

-- A later entry changes nothing of what stays.

day_before : (day : ℕ → ℕ) (D : ℕ) (H S : List Entry) (t : Transaction) (moment : ℕ) (e : Entry) → named H t ≡ Some e → nat_le D (day_named day moment (named (H ++ S) t)) ≡ nat_le D (day_named day moment (named H t))
day_before day D H S t moment e h =
    let longer : named (H ++ S) t ≡ option_or (named H t) (named S t) = find-append (λ x. is_of t x.request) H S in
    let there : option_or (named H t) (named S t) ≡ named H t = rw h refl in
    ap (λ o. nat_le D (day_named day moment o)) (longer ∙ there)

about_before : (day : ℕ → ℕ) (D : ℕ) (H S : List Entry) (r : Request) (a : Reply) → In (entry r a) H → is_about day D (H ++ S) r ≡ is_about day D H r
about_before day D H S (Reserve id txn moment login count) a i = let k = found_in (λ x. is_of (transaction id txn) x.request) H _ i (transaction_itself (transaction id txn)) in day_before day D H S (transaction id txn) moment k.0 k.1
about_before day D H S (Settle id txn moment login count) a i = let k = found_in (λ x. is_of (transaction id txn) x.request) H _ i (transaction_itself (transaction id txn)) in day_before day D H S (transaction id txn) moment k.0 k.1
about_before day D H S (Release id txn moment login) a i = let k = found_in (λ x. is_of (transaction id txn) x.request) H _ i (transaction_itself (transaction id txn)) in day_before day D H S (transaction id txn) moment k.0 k.1
about_before day D H S r a i = refl

pub stays_before : (day : ℕ → ℕ) (D : ℕ) (H S : List Entry) (x : Entry) → In x H → stays day D (H ++ S) x ≡ stays day D H x
stays_before day D H S x i = ap (λ b. b || is_set x.request x.reply) (about_before day D H S x.request x.reply i)

-- so each front is remembered as in the whole
pub front : (day : ℕ → ℕ) (D : ℕ) (H S : List Entry) → filter (stays day D (H ++ S)) H ≡ remembered day D H
front day D H S = filter_same (stays day D (H ++ S)) (stays day D H) H (λ x i. stays_before day D H S x i)

or_itself : (day : ℕ → ℕ) (D moment : ℕ) (o : Option Entry) (e : Entry) → moment_of e.request ≡ moment → nat_le D (day_named day moment (option_or o (Some e))) ≡ nat_le D (day_named day moment o)
or_itself day D moment None e h = ap (λ n. nat_le D (day n)) h
or_itself day D moment (Some x) e h = refl

day_itself : (day : ℕ → ℕ) (D : ℕ) (H : List Entry) (t : Transaction) (moment : ℕ) (e : Entry) → is_of t e.request ≡ true → moment_of e.request ≡ moment → nat_le D (day_named day moment (named (H ++ e ∷ []) t)) ≡ nat_le D (day_named day moment (named H t))
day_itself day D H t moment e mine same =
    let longer : named (H ++ e ∷ []) t ≡ option_or (named H t) (named (e ∷ []) t) = find-append (λ x. is_of t x.request) H (e ∷ []) in
    let one : named (e ∷ []) t ≡ Some e = rw mine refl in
    ap (λ o. nat_le D (day_named day moment o)) (longer ∙ ap (option_or (named H t)) one) ∙ or_itself day D moment (named H t) e same

about_itself : (day : ℕ → ℕ) (D : ℕ) (H : List Entry) (r : Request) (a : Reply) → is_about day D (H ++ entry r a ∷ []) r ≡ is_about day D H r
about_itself day D H (Reserve id txn moment login count) a = day_itself day D H (transaction id txn) moment (entry (Reserve id txn moment login count) a) (transaction_itself (transaction id txn)) refl
about_itself day D H (Settle id txn moment login count) a = day_itself day D H (transaction id txn) moment (entry (Settle id txn moment login count) a) (transaction_itself (transaction id txn)) refl
about_itself day D H (Release id txn moment login) a = day_itself day D H (transaction id txn) moment (entry (Release id txn moment login) a) (transaction_itself (transaction id txn)) refl
about_itself day D H r a = refl

pub stays_itself : (day : ℕ → ℕ) (D : ℕ) (H : List Entry) (e : Entry) → stays day D (H ++ e ∷ []) e ≡ stays day D H e
stays_itself day D H e = ap (λ b. b || is_set e.request e.reply) (about_itself day D H e.request e.reply)

-- one more entry stays, or the rest is as before
pub one_more : (day : ℕ → ℕ) (D : ℕ) (H : List Entry) (e : Entry) → remembered day D (H ++ e ∷ []) ≡ remembered day D H ++ (if stays day D H e then e ∷ [] else [])
one_more day D H e =
    let p : Entry → Bool = stays day D (H ++ e ∷ []) in
    let front : filter p H ≡ remembered day D H = front day D H (e ∷ []) in
    let back : (if p e then e ∷ [] else []) ≡ (if stays day D H e then e ∷ [] else []) = ap (λ b. if b then e ∷ [] else []) (stays_itself day D H e) in
    filter-append p H (e ∷ []) ∙ (λ i. front i ++ back i)

pub one_kept : (day : ℕ → ℕ) (D : ℕ) (H : List Entry) (e : Entry) → stays day D H e ≡ true → remembered day D (H ++ e ∷ []) ≡ remembered day D H ++ e ∷ []
one_kept day D H e t = one_more day D H e ∙ ap (λ b. remembered day D H ++ (if b then e ∷ [] else [])) t

pub one_gone : (day : ℕ → ℕ) (D : ℕ) (H : List Entry) (e : Entry) → stays day D H e ≡ false → remembered day D (H ++ e ∷ []) ≡ remembered day D H
one_gone day D H e f = one_more day D H e ∙ ap (λ b. remembered day D H ++ (if b then e ∷ [] else [])) f ∙ append-nil (remembered day D H)

-- All retires stay, and so do the floors.

raises_nothing : (day : ℕ → ℕ) (D : ℕ) (H : List Entry) (h : List ℕ) (r : Request) → is_about day D H r ≡ false → raised h r ≡ 0
raises_nothing day D H h (Retire id) gone = absurd (cc gone)
raises_nothing day D H h r gone = refl

pub same_floor : (day : ℕ → ℕ) (D : ℕ) (H : List Entry) (h : List ℕ) → floor (requests (remembered day D H)) h ≡ floor (requests H) h
unfolding floor
same_floor day D H h =
    let raise : ℕ → Request → ℕ = λ n r. greater n (raised h r) in
    fold-map raise (λ (e : Entry). e.request) 0 (remembered day D H)
    ∙ fold_kept (λ n (e : Entry). greater n (raised h e.request)) (stays day D H) 0 H (λ n e gone.
    ap (greater n) (raises_nothing day D H h e.request (neither (is_about day D H e.request) (is_set e.request e.reply) gone).0) ∙ greater_zero n)
    ∙ sym (fold-map raise (λ (e : Entry). e.request) 0 H)

pub same_below : (day : ℕ → ℕ) (D : ℕ) (H : List Entry) (id : Id) → is_below (requests (remembered day D H)) id ≡ is_below (requests H) id
same_below day D H id = ap (nat_lt id.run) (same_floor day D H id.host)

pub same_retired_run : (day : ℕ → ℕ) (D : ℕ) (H : List Entry) (t : Transaction) → has_retired_run (remembered day D H) t ≡ has_retired_run H t
same_retired_run day D H t = ap (nat_lt t.run) (same_floor day D H t.host)

-- Of a transaction all entries stay or none.

stays_as : (day : ℕ → ℕ) (D : ℕ) (H : List Entry) (t u : Transaction) (e : Entry) (moment : ℕ) (b : Bool) → named H t ≡ Some e → nat_le D (day (moment_of e.request)) ≡ b → same_transaction t u ≡ true → nat_le D (day_named day moment (named H u)) ≡ b
stays_as day D H t u e moment b h later same =
    let here : named H u ≡ Some e = subst (λ v. named H v ≡ Some e) (transaction_is t u same) h in
    ap (λ o. nat_le D (day_named day moment o)) here ∙ later

about_of : (day : ℕ → ℕ) (D : ℕ) (H : List Entry) (t : Transaction) (e : Entry) (b : Bool) → named H t ≡ Some e → nat_le D (day (moment_of e.request)) ≡ b → (r : Request) → is_of t r ≡ true → is_about day D H r ≡ b
about_of day D H t e b h later (Reserve id txn moment login count) mine = stays_as day D H t (transaction id txn) e moment b h later mine
about_of day D H t e b h later (Settle id txn moment login count) mine = stays_as day D H t (transaction id txn) e moment b h later mine
about_of day D H t e b h later (Release id txn moment login) mine = stays_as day D H t (transaction id txn) e moment b h later mine
about_of day D H t e b h later r mine = absurd (cc mine)

not_set : (t : Transaction) (r : Request) (a : Reply) → is_of t r ≡ true → is_set r a ≡ false
not_set t (Limit id from_day c login) a mine = absurd (cc mine)
not_set t r a mine = refl

all_stay : (day : ℕ → ℕ) (D : ℕ) (H : List Entry) (t : Transaction) (e : Entry) → named H t ≡ Some e → nat_le D (day (moment_of e.request)) ≡ true → (x : Entry) → is_of t x.request ≡ true → stays day D H x ≡ true
all_stay day D H t e h later x mine = (let k = about_of day D H t e true h later x.request mine in rw k refl)

none_stays : (day : ℕ → ℕ) (D : ℕ) (H : List Entry) (t : Transaction) (e : Entry) → named H t ≡ Some e → nat_le D (day (moment_of e.request)) ≡ false → (x : Entry) → is_of t x.request ≡ true → stays day D H x ≡ false
none_stays day D H t e h early x mine = (let k = about_of day D H t e false h early x.request mine in rw (k, not_set t x.request x.reply mine) refl)

nothing_of : (day : ℕ → ℕ) (D : ℕ) (H : List Entry) (t : Transaction) → ((x : Entry) → is_of t x.request ≡ true → stays day D H x ≡ true) → (f : Entry → ℕ) (x : Entry) → stays day D H x ≡ false → (if is_of t x.request then f x else 0) ≡ 0
nothing_of day D H t all f x gone = elim (either (is_of t x.request)) [
  | inl mine ↦ absurd (let k = all x mine in cc (k, gone))
  | inr other ↦ rw other refl
]

-- what is told of a transaction is what its entries tell and whether its run is given up
alike_by : (K H : List Entry) (t : Transaction) → named K t ≡ named H t → has_retired_run K t ≡ has_retired_run H t → ended K t ≡ ended H t → granted_in K t ≡ granted_in H t → counted_in K t ≡ counted_in H t → AreAlike K H t
alike_by K H t name given end sum count =
    let shut : closed K t ≡ closed H t = (λ i. given i || end i) in
    let left : abandoned K t ≡ abandoned H t = (λ i. given i && not (end i)) in
    record {
      named = name;
      closed = shut;
      abandoned = left;
      held = λ i. if shut i then 0 else sum i;
      settled = λ i. count i + (if left i then sum i else 0);
    }

pub later_alike : (day : ℕ → ℕ) (D : ℕ) (H : List Entry) (t : Transaction) (e : Entry) → named H t ≡ Some e → nat_le D (day (moment_of e.request)) ≡ true → AreAlike (remembered day D H) H t
later_alike day D H t e h later =
    let all : (x : Entry) → is_of t x.request ≡ true → stays day D H x ≡ true = all_stay day D H t e h later in
    alike_by (remembered day D H) H t
    (find_kept (λ x. is_of t x.request) (stays day D H) all H)
    (same_retired_run day D H t)
    (any_kept (λ x. is_of t x.request && closes x.reply) (stays day D H) H (λ x _ b. all x (first_so (is_of t x.request) (closes x.reply) b)))
    (sum_kept (λ x. if is_of t x.request then granted x.request x.reply else 0) (stays day D H) H (λ x _ gone. nothing_of day D H t all (λ y. granted y.request y.reply) x gone))
    (sum_kept (λ x. if is_of t x.request then counted x.request x.reply else 0) (stays day D H) H (λ x _ gone. nothing_of day D H t all (λ y. counted y.request y.reply) x gone))

pub early_lost : (day : ℕ → ℕ) (D : ℕ) (H : List Entry) (t : Transaction) (e : Entry) → named H t ≡ Some e → nat_le D (day (moment_of e.request)) ≡ false → named (remembered day D H) t ≡ None
early_lost day D H t e h early = find_lost (λ x. is_of t x.request) (stays day D H) (none_stays day D H t e h early) H

-- a transaction that has no entry has none that stays
unheard_any : (t : Transaction) (f : Reply → Bool) (H : List Entry) → named H t ≡ None → list_any (λ x. is_of t x.request && f x.reply) H ≡ false
unheard_any t f H none = any_nothing (λ x. is_of t x.request && f x.reply) H (λ x i. (let other : is_of t x.request ≡ false = not_found (λ y. is_of t y.request) H x none i in rw other refl))

unheard_sum : (t : Transaction) (f : Request → Reply → ℕ) (H : List Entry) → named H t ≡ None → sum_by (λ x. if is_of t x.request then f x.request x.reply else 0) H ≡ 0
unheard_sum t f H none = sum_nothing (λ x. if is_of t x.request then f x.request x.reply else 0) H (λ x i. (let other : is_of t x.request ≡ false = not_found (λ y. is_of t y.request) H x none i in rw other refl))

pub unheard_alike : (day : ℕ → ℕ) (D : ℕ) (H : List Entry) (t : Transaction) → named H t ≡ None → AreAlike (remembered day D H) H t
unheard_alike day D H t none =
    let K : List Entry = remembered day D H in
    let none' : named K t ≡ None = find_none (λ x. is_of t x.request) (stays day D H) H none in
    alike_by K H t (none' ∙ sym none) (same_retired_run day D H t)
    (unheard_any t closes K none' ∙ sym (unheard_any t closes H none))
    (unheard_sum t granted K none' ∙ sym (unheard_sum t granted H none))
    (unheard_sum t counted K none' ∙ sym (unheard_sum t counted H none))

pub alike : (day : ℕ → ℕ) (D : ℕ) (H : List Entry) (t : Transaction) (moment : ℕ) → nat_le D (day_named day moment (named H t)) ≡ true → AreAlike (remembered day D H) H t
alike day D H t moment later = elim (option_cases (named H t)) [
  | inl none ↦ unheard_alike day D H t none
  | inr p ↦ (let later' : nat_le D (day (moment_of p.0.request)) ≡ true = ap (λ o. nat_le D (day_named day moment o)) (sym p.1) ∙ later in
      later_alike day D H t p.0 p.1 later')
]

-- All limits that were set stay.

set_stays : (day : ℕ → ℕ) (D : ℕ) (H : List Entry) (l : List ℕ) (r : Request) (a : Reply) → sets l r a ≡ true → is_set r a ≡ true
set_stays day D H l (Limit id from_day c login) (LimitSet id') h = refl
set_stays day D H l r a h = absurd (cc h)

pub same_limits : (day : ℕ → ℕ) (D : ℕ) (H : List Entry) (l : List ℕ) (d : ℕ) → limits (remembered day D H) l d ≡ limits H l d
same_limits day D H l d = filter_kept (governs l d) (stays day D H) (λ x g. or_second (is_about day D H x.request) (is_set x.request x.reply) (set_stays day D H l x.request x.reply (first_so (sets l x.request x.reply) (nat_le (from_of x.request) d) g))) H

pub same_cap : (day : ℕ → ℕ) (default D : ℕ) (H : List Entry) (l : List ℕ) (d : ℕ) → cap default (remembered day D H) l d ≡ cap default H l d
same_cap day default D H l d = ap (λ es. last_cap default (filter (λ e. from_of e.request == latest es) es)) (same_limits day D H l d)

-- Forgetting again.

later_too : (D E n : ℕ) → D ≤ E → nat_le E n ≡ true → nat_le D n ≡ true
later_too D E n le k = grind (arith, nat_tests)

about_too : (day : ℕ → ℕ) (D E : ℕ) (H : List Entry) (r : Request) → D ≤ E → is_about day E H r ≡ true → is_about day D H r ≡ true
about_too day D E H (Retire id) le h = refl
about_too day D E H r le h = later_too D E _ le h

stays_too : (day : ℕ → ℕ) (D E : ℕ) (H : List Entry) (x : Entry) → D ≤ E → stays day E H x ≡ true → stays day D H x ≡ true
stays_too day D E H x le h = elim (either (is_about day E H x.request)) [
  | inl t ↦ (let k : is_about day D H x.request ≡ true = about_too day D E H x.request le t in rw k refl)
  | inr f ↦ (let s : is_set x.request x.reply ≡ true = rw f at h in or_second (is_about day D H x.request) (is_set x.request x.reply) s)
]

-- what is remembered is about the day that it was about
day_kept : (day : ℕ → ℕ) (D E : ℕ) (H : List Entry) (t : Transaction) (moment : ℕ) (x : Entry) → In x H → is_of t x.request ≡ true → nat_le D (day_named day moment (named H t)) ≡ true → nat_le E (day_named day moment (named (remembered day D H) t)) ≡ nat_le E (day_named day moment (named H t))
day_kept day D E H t moment x i mine later =
    let n = found_in (λ y. is_of t y.request) H x i mine in
    let later' : nat_le D (day (moment_of n.0.request)) ≡ true = ap (λ o. nat_le D (day_named day moment o)) (sym n.1) ∙ later in
    ap (λ o. nat_le E (day_named day moment o)) (later_alike day D H t n.0 n.1 later').named

pub or_or : (a b : Bool) → (a || b) ≡ true → b ≡ false → a ≡ true
or_or true b h k = refl
or_or false b h k = absurd (cc (h, k))

about_kept : (day : ℕ → ℕ) (D E : ℕ) (H : List Entry) (r : Request) (a : Reply) → In (entry r a) H → stays day D H (entry r a) ≡ true → is_about day E (remembered day D H) r ≡ is_about day E H r
about_kept day D E H (Reserve id txn moment login count) a i stay = (let me = transaction_itself (transaction id txn) in day_kept day D E H (transaction id txn) moment _ i me (or_or _ false stay refl))
about_kept day D E H (Settle id txn moment login count) a i stay = (let me = transaction_itself (transaction id txn) in day_kept day D E H (transaction id txn) moment _ i me (or_or _ false stay refl))
about_kept day D E H (Release id txn moment login) a i stay = (let me = transaction_itself (transaction id txn) in day_kept day D E H (transaction id txn) moment _ i me (or_or _ false stay refl))
about_kept day D E H r a i stay = refl

pub again : (day : ℕ → ℕ) (D E : ℕ) (H : List Entry) → D ≤ E → remembered day E (remembered day D H) ≡ remembered day E H
again day D E H le =
    let K : List Entry = remembered day D H in
    filter_same (stays day E K) (stays day E H) K (λ x i. (let k = filter_in (stays day D H) H x i in
    ap (λ b. b || is_set x.request x.reply) (about_kept day D E H x.request x.reply k.0 k.1)))
    ∙ filter_kept (stays day E H) (stays day D H) (λ x h. stays_too day D E H x le h) H

-- The next entry of a whole.

pub next_stays : (day : ℕ → ℕ) (D : ℕ) (H S : List Entry) (e : Entry) → stays day D (H ++ e ∷ S) e ≡ stays day D H e
next_stays day D H S e =
    ap (λ x. stays day D x e) (sym (append_assoc H (e ∷ []) S))
    ∙ stays_before day D (H ++ e ∷ []) S e (in_last H e)
    ∙ stays_itself day D H e
  where
    in_last : (xs : List Entry) (x : Entry) → In x (xs ++ x ∷ [])
    in_last [] x = inl refl
    in_last (y ∷ xs) x = inr (in_last xs x)
