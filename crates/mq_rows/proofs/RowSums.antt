-- The rows of a history's transactions have together what its logins have reserved and settled.
use Rattle.std.proofs.Common.{◌≡◌, ℕ, ◌≤◌, List, [], ◌∷◌, map, length, Bool, true, false, refl, ◌∙◌, ap, sym, subst, inl, inr, arith, filter, sum_by, ◌&&◌, ◌==◌, if◌then◌else◌, Option, Some, None, is_some}
use Rattle.mq_rows.proofs.Words.{AllByRecursion, AreDistinct, AreTransactions, Entry, HasAllNamed, In, Release, Request, Reserve, Settle, Transaction, TransactionRecord, UsageRecord, agrees, all_of, either, empty, found_passes, has_reserve, held, held_on, is_for, is_of, is_transaction, key_of, list_any, login_of, moment_of, named, names_for, number_itself, option_cases, reserved, same_text, same_transaction, settled, settled_in, settled_on, sum_by-cons, text_itself, those, transaction_of, transaction_row, usage_row}
use Rattle.mq_ledger.proofs.Transactions.{transaction_itself}
use Rattle.mq_rows.proofs.Lists.{none_pass, has_is, mapped_from}
use Rattle.mq_rows.proofs.Trans.{at_is}

-- the row is of that login and day
abbrev pub is_on : List ℕ → ℕ → TransactionRecord → Bool
is_on l d r = same_text l r.login && (r.day == d)

-- what the transactions of a login and day have together
abbrev pub total : (TransactionRecord → ℕ) → List ℕ → ℕ → List TransactionRecord → ℕ
total amount l d rows = sum_by (λ r. if is_on l d r then amount r else 0) rows

-- the row of a login and day that has what its transactions have
abbrev pub summed_row : (ℕ → ℕ) → List Entry → List TransactionRecord → List ℕ → ℕ → Option UsageRecord
summed_row day H rows l d =
    if has_reserve day H d l
    then Some (record {
      login = l;
      day = d;
      settled = total (λ r. r.settled) l d rows;
      reserved = total (λ r. r.held) l d rows;
    })
    else None

abbrev pub keys : List TransactionRecord → List Transaction
keys rows = map key_of rows

abbrev pub Once : List TransactionRecord → Type 0
Once rows = (k : Transaction) → length (filter (is_transaction k) rows) ≤ 1

pub shorter : (p : TransactionRecord → Bool) (x : TransactionRecord) (rows : List TransactionRecord) → length (filter p rows) ≤ length (filter p (x ∷ rows))
shorter p x rows = elim (either (p x)) [ inl t ↦ rw t (omega arith) | inr f ↦ rw f (omega arith) ]

pub none_any : (k : Transaction) (rows : List TransactionRecord) → AllByRecursion (λ r. is_transaction k r ≡ false) rows → list_any (same_transaction k) (keys rows) ≡ false
none_any k [] all = refl
none_any k (r ∷ rows) all = rw all.0 (none_any k rows all.1)

pub distinct : (rows : List TransactionRecord) → Once rows → AreDistinct (keys rows)
distinct [] once = tt
distinct (x ∷ rows) once =
    let few = rw (transaction_itself (key_of x)) at (once (key_of x)) in
    let none : filter (is_transaction (key_of x)) rows ≡ [] = empty _ (omega arith) in
    (none_any (key_of x) rows (none_pass (is_transaction (key_of x)) rows none), distinct rows (λ k. omega (arith, once k, shorter (is_transaction k) x rows)))

pub few_of : {X : Type 0} (o : Option X) → length (those o) ≤ 1
few_of None = omega arith
few_of (Some x) = omega arith

pub one_there : (k : Transaction) (rows : List TransactionRecord) (r : TransactionRecord) → filter (is_transaction k) rows ≡ r ∷ [] → list_any (same_transaction k) (keys rows) ≡ true
one_there k [] r h = absurd (cc h)
one_there k (x ∷ rows) r h = elim (either (is_transaction k x)) [
  | inl t ↦ rw t refl
  | inr f ↦ rw f (one_there k rows r (rw f at h))
]

-- a row of a transaction is that of its first entry
pub record IsRowOf (day : ℕ → ℕ) (H : List Entry) (r : TransactionRecord) : Type 0 where
  pub first : Entry
  pub names : named H (key_of r) ≡ Some first
  pub row : transaction_of day H (key_of r) first ≡ r

pub row_of : (day : ℕ → ℕ) (H : List Entry) (r : TransactionRecord) → transaction_row day H (key_of r) ≡ Some r → IsRowOf day H r
row_of day H r h = (let p = mapped_from (transaction_of day H (key_of r)) (named H (key_of r)) r h in record { first = p.0; names = p.1; row = p.2 })

-- a row that is there is its transaction's
pub key_row : (rows : List TransactionRecord) (r : TransactionRecord) (o : Option TransactionRecord) → filter (is_transaction (key_of r)) rows ≡ those o → In r rows → o ≡ Some r
key_row rows r o are i = has_is (is_transaction (key_of r)) rows r o are i (transaction_itself (key_of r))

pub each_row : (day : ℕ → ℕ) (H : List Entry) (rows : List TransactionRecord) → AreTransactions day H rows → (r : TransactionRecord) → In r rows → IsRowOf day H r
each_row day H rows are r i = row_of day H r (key_row rows r (transaction_row day H (key_of r)) (are (key_of r)) i)

pub is_mine : (day : ℕ → ℕ) (H : List Entry) (r : TransactionRecord) (is : IsRowOf day H r) → is_of (key_of r) is.first.request ≡ true
is_mine day H r is = found_passes (λ e. is_of (key_of r) e.request) H is.first is.names

pub for_pair : (day : ℕ → ℕ) (t : Transaction) (r : Request) (l : List ℕ) (d : ℕ) → is_of t r ≡ true → is_for day l d r ≡ (same_text l (login_of r) && (day (moment_of r) == d))
for_pair day t (Reserve id txn moment login count) l d mine = refl
for_pair day t (Settle id txn moment login count) l d mine = refl
for_pair day t (Release id txn moment login) l d mine = refl
for_pair day t r l d mine = absurd (cc mine)

-- the row's login and moment are those that its transaction was named with
pub agreed : (day : ℕ → ℕ) (H : List Entry) (r : TransactionRecord) → IsRowOf day H r → agrees r.moment r.login (named H (key_of r)) ≡ true
agreed day H r is =
    let m : moment_of is.first.request ≡ r.moment = ap (λ (x : TransactionRecord). x.moment) is.row in
    let l : login_of is.first.request ≡ r.login = ap (λ (x : TransactionRecord). x.login) is.row in
    ap (agrees r.moment r.login) is.names ∙ sym (at_is (key_of r) r.moment r.login is.first.request (is_mine day H r is))
    ∙ (λ i. (r.moment == m i) && same_text r.login (l i)) ∙ (rw (number_itself r.moment, text_itself r.login) refl)

pub day_is : (day : ℕ → ℕ) (H : List Entry) (r : TransactionRecord) → IsRowOf day H r → day r.moment ≡ r.day
day_is day H r is =
    ap day (sym (ap (λ (x : TransactionRecord). x.moment) is.row)) ∙ ap (λ (x : TransactionRecord). x.day) is.row

pub sums_by_key : (f : TransactionRecord → ℕ) (g : Transaction → ℕ) (rows : List TransactionRecord) → AllByRecursion (λ r. f r ≡ g (key_of r)) rows → sum_by f rows ≡ sum_by g (keys rows)
sums_by_key f g [] all = refl
sums_by_key f g (r ∷ rows) all = omega (arith, sum_by-cons f r rows, sum_by-cons g (key_of r) (keys rows), all.0, sums_by_key f g rows all.1)

-- what the ledger's laws say of a legal history
pub record Laws (day : ℕ → ℕ) (H : List Entry) : Type 0 where
  pub all_held : (l : List ℕ) (d : ℕ) (ts : List Transaction) → AreDistinct ts → HasAllNamed H ts → sum_by (held_on day H l d) ts ≡ reserved day H l d
  pub all_settled : (l : List ℕ) (d : ℕ) (ts : List Transaction) → AreDistinct ts → HasAllNamed H ts → sum_by (settled_on day H l d) ts ≡ settled day H l d
  pub held_is_reserved : (t : Transaction) (moment : ℕ) (login : List ℕ) → agrees moment login (named H t) ≡ true → held H t ≤ reserved day H login (day moment)
  pub none : (l : List ℕ) (d : ℕ) → has_reserve day H d l ≡ false → (reserved day H l d ≡ 0) × (settled day H l d ≡ 0)

module _ (day : ℕ → ℕ) (H : List Entry) (laws : Laws day H) (rows : List TransactionRecord) (are : AreTransactions day H rows) where
  once : Once rows
  once k = subst (λ xs. length xs ≤ 1) (sym (are k)) (few_of (transaction_row day H k))

  all_named : HasAllNamed H (keys rows)
  all_named k h = elim (option_cases (named H k)) [
    | inl none ↦ (let nothing : Option Entry = None in let h' : is_some nothing ≡ true = rw none at h in absurd (cc h'))
    | inr p ↦ (let is : transaction_row day H k ≡ Some (transaction_of day H k p.0) = rw p.1 refl in
        one_there k rows (transaction_of day H k p.0) (are k ∙ ap those is))
  ]

  -- what the rows have of an amount is what their transactions have of it
  summed : (amount : TransactionRecord → ℕ) (of : Transaction → ℕ) → ((k : Transaction) (e : Entry) → of k ≡ amount (transaction_of day H k e)) → (l : List ℕ) (d : ℕ)
      → total amount l d rows ≡ sum_by (λ t. if names_for day l d (named H t) then of t else 0) (keys rows)
  summed amount of same l d = sums_by_key (λ r. if is_on l d r then amount r else 0) (λ t. if names_for day l d (named H t) then of t else 0) rows (all_of (λ r. (if is_on l d r then amount r else 0) ≡ (if names_for day l d (named H (key_of r)) then of (key_of r) else 0)) rows (λ r i.
      let is = each_row day H rows are r i in
      let for : names_for day l d (named H (key_of r)) ≡ is_on l d r = ap (names_for day l d) is.names ∙ for_pair day (key_of r) is.first.request l d (is_mine day H r is) ∙ ap (is_on l d) is.row in
      λ j. if sym for j then (sym (same (key_of r) is.first ∙ ap amount is.row)) j else 0))

  pub held_total : (l : List ℕ) (d : ℕ) → total (λ r. r.held) l d rows ≡ reserved day H l d
  held_total l d = summed (λ r. r.held) (held H) (λ k e. refl) l d ∙ laws.all_held l d (keys rows) (distinct rows once) all_named

  pub settled_total : (l : List ℕ) (d : ℕ) → total (λ r. r.settled) l d rows ≡ settled day H l d
  settled_total l d = summed (λ r. r.settled) (settled_in H) (λ k e. refl) l d ∙ laws.all_settled l d (keys rows) (distinct rows once) all_named

  -- so the row of a login and day has what its transactions have
  pub summed_is : (l : List ℕ) (d : ℕ) → summed_row day H rows l d ≡ usage_row day H l d
  summed_is l d = (λ i. if has_reserve day H d l then Some (record { login = l; day = d; settled = settled_total l d i; reserved = held_total l d i }) else None)
