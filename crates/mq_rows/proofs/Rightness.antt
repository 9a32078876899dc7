-- The pairs of the rows of a legal history are right.
use Rattle.std.proofs.Common.{◌<◌, ◌≡◌, ℕ, pos, ◌+◌, ◌≤◌, List, [], ◌∷◌, ◌++◌, map, length, Bool, true, false, refl, ◌∙◌, ap, sym, subst, inl, inr, arith, ℤ, ◌+ℤ◌, find, sum_by, ◌&&◌, ◌==◌, int_le, if◌then◌else◌, Option, Some, None, option_map, All, int_eq, IsPermutation, get_or, int_lt, ◌≤ℤ◌}
use Rattle.mq_rows.proofs.Words.{AllByRecursion, AreLimits, AreTransactions, AreUsage, Entry, Figures, IsGoverning, IsMoment, IsPermutation-keeps, IsPermutation-refl, IsPermutation-swap, IsPermutation-trans, IsRequest, LimitFigures, LimitRecord, Pair, Release, Request, Reserve, Settle, Tables, Transaction, TransactionFigures, TransactionRecord, UsageRecord, all_from_map, all_of, are_dated, cap, cap_by, either, get_or-map, has_reserve, ints, is_due, is_limit, is_moment_of, is_of, is_right, is_transaction, is_usage, key_of, le_is, length-map, limit_row, map-set, moment_of, number_is, number_itself, pairs, reserved, same_pair, same_text, set, settled, signed_Decides, sum_by-cons, swap, total, transaction_row, transactions_of, usage_row, used, weaker}
use Rattle.mq_rows.specs.Figured.{usage_figures, transaction_figures, limit_figures, figures}
use Rattle.mq_rows.proofs.Replies.{Governs, governs}
use Rattle.mq_lemmas.proofs.Lists.{in_contains}
use Rattle.mq_rows.proofs.Lists.{find_of_those, in_any_order, find_mapped, found_has, mapped_from}
use Rattle.mq_rows.proofs.RowSums.{IsRowOf, is_on, Laws, each_row, held_total, settled_total}
use Rattle.mq_rows.proofs.Governed.{lt_not, IsLatest, governing_is}
use Rattle.mq_rows.specs.Audit as audit
use Rattle.mq_ledger.proofs.Basics.{found}

-- Numbers.

pub ints_are : (a b : ℕ) → int_eq (pos a) (pos b) ≡ (a == b)
ints_are a b = elim (either (a == b)) [
  | inl t ↦ (let e : a ≡ b = number_is a b t in (signed_Decides (pos a) (pos b)).1 (ap pos e) ∙ sym t)
  | inr f ↦ elim (either (int_eq (pos a) (pos b))) [
    | inl u ↦ (let e : pos a ≡ pos b = (signed_Decides (pos a) (pos b)).0 u in let k : a ≡ b = cc in let same : (a == a) ≡ (a == b) = ap (λ n. a == n) k in absurd (cc (f, same, number_itself a)))
    | inr g ↦ g ∙ sym f
  ]
]

pub same_int : (x y : ℤ) → x ≡ y → int_eq x y ≡ true
same_int x y e = (signed_Decides x y).1 e

-- The transactions' keys.

moment_in : (t : Transaction) (r : Request) → is_of t r ≡ true → IsRequest r → IsMoment (moment_of r)
moment_in t (Reserve id txn moment login count) mine h = h.2
moment_in t (Settle id txn moment login count) mine h = h.2
moment_in t (Release id txn moment login) mine h = h.2
moment_in t r mine h = absurd (cc mine)

module _ (day : ℕ → ℕ) (H : List Entry) where
  dated_here : All (λ e. IsRequest e.request) H → (r : TransactionRecord) → IsRowOf day H r → is_moment_of day (pos r.day) (pos r.moment) ≡ true
  dated_here range r is =
      let it = found (λ e. is_of (key_of r) e.request) H is.first is.names in
      let m : IsMoment (moment_of is.first.request) = moment_in (key_of r) is.first.request it.1 (found_has (λ e. IsRequest e.request) (λ e. is_of (key_of r) e.request) H is.first range is.names) in
      let n : moment_of is.first.request ≡ r.moment = ap (λ (x : TransactionRecord). x.moment) is.row in
      let m' : IsMoment r.moment = subst IsMoment n m in
      let d : day (moment_of is.first.request) ≡ r.day = ap (λ (x : TransactionRecord). x.day) is.row in
      let d' : int_eq (pos (day r.moment)) (pos r.day) ≡ true = same_int _ _ (ap pos (ap day (sym n) ∙ d)) in
      rw (le_is 86400 r.moment m'.from, le_is r.moment 32503680000 m'.to, d') refl

-- Sums of figures.

on_pair : (l : List ℕ) (d : ℕ) (m : List ℕ) (k : ℕ) → same_pair (record { login = l; day = pos d }) (record { login = m; day = pos k }) ≡ (same_text l m && (k == d))
on_pair l d m k = ap (λ (b : Bool). same_text l m && b) (ints_are k d)

total_on : (l : List ℕ) (d : ℕ) (of : TransactionFigures → ℤ) (amount : TransactionRecord → ℕ) → ((r : TransactionRecord) → of (transaction_figures r) ≡ pos (amount r)) → (rows : List TransactionRecord)
    → total of (transactions_of (record { login = l; day = pos d }) (map transaction_figures rows)) ≡ pos (sum_by (λ r. if is_on l d r then amount r else 0) rows)
total_on l d of amount is [] = refl
total_on l d of amount is (r ∷ rows) =
    let more = total_on l d of amount is rows in
    let test = on_pair l d r.login r.day in
    let cons = sum_by-cons (λ r. if is_on l d r then amount r else 0) r rows in
    elim (either (is_on l d r)) [
      | inl t ↦ (let t' : same_pair (record { login = l; day = pos d }) (record { login = r.login; day = pos r.day }) ≡ true = test ∙ t in
          let own : (if is_on l d r then amount r else 0) ≡ amount r = rw t refl in
          rw t' (ap (λ z. of (transaction_figures r) +ℤ z) more ∙ ap (λ z. z +ℤ pos (sum_by (λ r. if is_on l d r then amount r else 0) rows)) (is r) ∙ ap pos (ap (λ n. n + sum_by (λ r. if is_on l d r then amount r else 0) rows) (sym own) ∙ sym cons)))
      | inr f ↦ (let f' : same_pair (record { login = l; day = pos d }) (record { login = r.login; day = pos r.day }) ≡ false = test ∙ f in
          let own : (if is_on l d r then amount r else 0) ≡ 0 = rw f refl in
          rw f' (more ∙ ap pos (omega (arith, cons, own))))
    ]

dated_on : (day : ℕ → ℕ) (p : Pair) (rows : List TransactionRecord) → AllByRecursion (λ r. is_moment_of day (pos r.day) (pos r.moment) ≡ true) rows → are_dated day (transactions_of p (map transaction_figures rows)) ≡ true
dated_on day p [] all = refl
dated_on day p (r ∷ rows) all = elim (either (same_pair p (transaction_figures r).pair)) [
  | inl t ↦ rw (t, all.0) (dated_on day p rows all.1)
  | inr f ↦ rw f (dated_on day p rows all.1)
]

-- The limit that governs.

not_later : (a b : ℕ) (z : ℤ) → z ≡ pos a → int_lt z (pos b) ≡ false → b ≤ a
not_later a b z e h = (let k : pos b ≤ℤ z = lt_not z (pos b) h in omega (arith, ints, k, e))

-- the latest of the figures is the figures of the latest row
latest_row : (l : List ℕ) (d : ℕ) (rows : List LimitRecord) (g : Option LimitFigures) → IsLatest (record { login = l; day = pos d }) (map limit_figures rows) g → (o : Option LimitRecord) × (g ≡ option_map limit_figures o) × IsGoverning l d rows o
latest_row l d rows None h = (None, refl, all_from_map (λ c. audit.is_due (record { login = l; day = pos d }) c ≡ false) limit_figures rows h.1)
latest_row l d rows (Some g) h = elim h.0 [
  | inl e ↦ absurd (cc e)
  | inr n ↦ (let p = mapped_from limit_figures (find (λ c. same_pair g.pair (limit_figures c).pair) rows) g (sym (find_mapped limit_figures (λ x. same_pair g.pair x.pair) (λ c. same_pair g.pair (limit_figures c).pair) (λ c. refl) rows) ∙ n.first) in
      let it = found (λ c. same_pair g.pair (limit_figures c).pair) rows p.0 p.1 in
      let day_is : g.pair.day ≡ pos p.0.day = ap (λ (x : LimitFigures). x.pair.day) (sym p.2) in (
        Some p.0,
        ap Some (sym p.2),
        (
          in_contains rows p.0 it.0,
          ap (audit.is_due (record { login = l; day = pos d })) p.2 ∙ n.passing,
          weaker (λ c. is_due l d c ≡ true → int_lt g.pair.day (pos c.day) ≡ false) (λ c. is_due l d c ≡ true → c.day ≤ p.0.day) (λ c no due. not_later p.0.day c.day g.pair.day day_is (no due)) rows
              (all_from_map (λ c. audit.is_due (record { login = l; day = pos d }) c ≡ true → int_lt g.pair.day c.pair.day ≡ false) limit_figures rows h.1),
        ),
      ))
]

cap_of_figures : (default : ℕ) (g : Option LimitRecord) → audit.cap_or default (option_map limit_figures g) ≡ pos (cap_by default g)
cap_of_figures default None = refl
cap_of_figures default (Some c) = refl

-- All of it.

-- What the ledger's laws say of a legal history.
pub record Legality (day : ℕ → ℕ) (default : ℕ) (H : List Entry) : Type 0 where
  pub sums : Laws day H
  pub within : (l : List ℕ) (d : ℕ) → used day H l d ≤ cap default H l d
  pub range : All (λ e. IsRequest e.request) H
  pub governs : Governs default H

all_four : (a b c d : Bool) → a ≡ true → b ≡ true → c ≡ true → d ≡ true → (a && (b && (c && d))) ≡ true
all_four a b c d h i j k = rw (h, i, j, k) refl

paired : (P : Pair → Type 0) → ((l : List ℕ) (d : ℕ) → P (record { login = l; day = pos d })) → (us : List UsageRecord) (ts : List TransactionRecord)
    → AllByRecursion P (map (λ u. u.pair) (map usage_figures us) ++ map (λ t. t.pair) (map transaction_figures ts))
paired P each (u ∷ us) ts = (each u.login u.day, paired P each us ts)
paired P each [] [] = tt
paired P each [] (t ∷ ts) = (each t.login t.day, paired P each [] ts)

module _ (day : ℕ → ℕ) (default : ℕ) (H : List Entry) (laws : Legality day default H) (t : Tables)
    (are_transactions : AreTransactions day H t.transactions) (are_usage : AreUsage day H t.usage) (are_limits : AreLimits H t.limits) where
  module _ (l : List ℕ) (d : ℕ) where
    abbrev p : Pair
    p = record { login = l; day = pos d }

    usage_is : find (λ u. same_pair p u.pair) (map usage_figures t.usage) ≡ option_map usage_figures (usage_row day H l d)
    usage_is = find_mapped usage_figures (λ u. same_pair p u.pair) (is_usage l d) (λ u. on_pair l d u.login u.day) t.usage ∙ ap (option_map usage_figures) (find_of_those (is_usage l d) t.usage (usage_row day H l d) (are_usage l d))

    settled_is : audit.settled_by (option_map usage_figures (usage_row day H l d)) ≡ pos (settled day H l d)
    settled_is = elim (either (has_reserve day H d l)) [
      | inl some ↦ rw some refl
      | inr none ↦ rw none (ap pos (sym (laws.sums.none l d none).1))
    ]

    reserved_is : audit.reserved_by (option_map usage_figures (usage_row day H l d)) ≡ pos (reserved day H l d)
    reserved_is = elim (either (has_reserve day H d l)) [
      | inl some ↦ rw some refl
      | inr none ↦ rw none (ap pos (sym (laws.sums.none l d none).0))
    ]

    cap_is : audit.cap_or default (audit.governing p (map limit_figures t.limits)) ≡ pos (cap default H l d)
    cap_is =
        let g = latest_row l d t.limits (audit.governing p (map limit_figures t.limits)) (governing_is p (map limit_figures t.limits)) in
        ap (audit.cap_or default) g.1 ∙ cap_of_figures default g.0 ∙ ap pos (governs default H laws.governs t.limits are_limits l d g.0 g.2)

    pub right_here : is_right day default (figures t) p ≡ true
    right_here =
        let s : audit.settled_by (find (λ u. same_pair p u.pair) (map usage_figures t.usage)) ≡ pos (settled day H l d) = ap audit.settled_by usage_is ∙ settled_is in
        let r : audit.reserved_by (find (λ u. same_pair p u.pair) (map usage_figures t.usage)) ≡ pos (reserved day H l d) = ap audit.reserved_by usage_is ∙ reserved_is in
        let w : int_le (pos (settled day H l d + reserved day H l d)) (pos (cap default H l d)) ≡ true = le_is _ _ (omega (arith, laws.within l d)) in
        all_four _ _ _ _ (same_int _ _ (s ∙ sym (total_on l d (λ x. x.settled) (λ r. r.settled) (λ r. refl) t.transactions ∙ ap pos (settled_total day H laws.sums t.transactions are_transactions l d))))
        (same_int _ _ (r ∙ sym (total_on l d (λ x. x.held) (λ r. r.held) (λ r. refl) t.transactions ∙ ap pos (held_total day H laws.sums t.transactions are_transactions l d))))
        ((λ i. int_le (s i +ℤ r i) (cap_is i)) ∙ w)
        (dated_on day p t.transactions (all_of (λ r. is_moment_of day (pos r.day) (pos r.moment) ≡ true) t.transactions (λ r i. dated_here day H laws.range r (each_row day H t.transactions are_transactions r i))))

  pub all_right : AllByRecursion (λ p. is_right day default (figures t) p ≡ true) (pairs (figures t))
  all_right = paired (λ p. is_right day default (figures t) p ≡ true) right_here t.usage t.transactions

-- The rows in another order.

pub record Unmapped {X Y : Type 0} (f : X → Y) (xs : List X) (ys : List Y) : Type 0 where
  pub source : List X
  pub mapped : map f source ≡ ys
  pub same : IsPermutation xs source

mapped_swap : {X Y : Type 0} (f : X → Y) (xs : List X) (i j : ℕ) → i < length xs → j < length xs → map f (swap xs i j) ≡ swap (map f xs) i j
mapped_swap f [] i j h k = refl
mapped_swap f (x ∷ xs) i j h k =
    let one = get_or-map f (x ∷ xs) i x (f x) h in
    let two = get_or-map f (x ∷ xs) j x (f x) k in
    map-set f (set (x ∷ xs) i (get_or (x ∷ xs) j x)) j (get_or (x ∷ xs) i x)
    ∙ ap (λ l. set l j (f (get_or (x ∷ xs) i x))) (map-set f (x ∷ xs) i (get_or (x ∷ xs) j x))
    ∙ (λ n. set (set (map f (x ∷ xs)) i (sym two n)) j (sym one n))

pub unmapped : {X Y : Type 0} (f : X → Y) (xs : List X) (ys : List Y) → IsPermutation (map f xs) ys → Unmapped f xs ys
unmapped f xs ys = IsPermutation-keeps (map f xs) (Unmapped f xs) (record { source = xs; mapped = refl; same = IsPermutation-refl xs })
    (λ l i j h k u. let n : length u.source ≡ length l = sym (length-map u.source f) ∙ ap length u.mapped in
    let i_in : i < length u.source = omega (arith, n) in
    let j_in : j < length u.source = omega (arith, n) in
    record {
      source = swap u.source i j;
      mapped = mapped_swap f u.source i j i_in j_in ∙ ap (λ xs. swap xs i j) u.mapped;
      same = IsPermutation-trans _ _ _ u.same (IsPermutation-swap u.source (swap u.source i j) i j i_in j_in refl);
    }) ys

module _ (day : ℕ → ℕ) (default : ℕ) (H : List Entry) (laws : Legality day default H) (t : Tables)
    (are_transactions : AreTransactions day H t.transactions) (are_usage : AreUsage day H t.usage) (are_limits : AreLimits H t.limits) where
  pub reordered_right : (g : Figures) → IsPermutation (figures t).usage g.usage → IsPermutation (figures t).transactions g.transactions → IsPermutation (figures t).limits g.limits
      → AllByRecursion (λ p. is_right day default g p ≡ true) (pairs g)
  reordered_right g same_usage same_transactions same_limits =
      let us = unmapped usage_figures t.usage g.usage same_usage in
      let ts = unmapped transaction_figures t.transactions g.transactions same_transactions in
      let cs = unmapped limit_figures t.limits g.limits same_limits in
      let other : Tables = record t { transactions = ts.source; usage = us.source; limits = cs.source } in
      let is : figures other ≡ g = λ i. record { usage = us.mapped i; transactions = ts.mapped i; limits = cs.mapped i } in
      subst (λ f. AllByRecursion (λ p. is_right day default f p ≡ true) (pairs f)) is
      (all_right day default H laws other
      (λ k. in_any_order (is_transaction k) t.transactions ts.source ts.same (transaction_row day H k) (are_transactions k))
      (λ l d. in_any_order (is_usage l d) t.usage us.source us.same (usage_row day H l d) (are_usage l d))
      (λ l d. in_any_order (is_limit l d) t.limits cs.source cs.same (limit_row H l d) (are_limits l d)))
