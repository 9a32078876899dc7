-- What one more entry does to the rows of transactions.
use Rattle.std.proofs.Common.{◌≡◌, ℕ, ◌+◌, List, [], ◌∷◌, ◌++◌, Bool, true, false, refl, ◌∙◌, ap, sym, subst, inl, inr, arith, ◌&&◌, ◌||◌, if◌then◌else◌, Option, Some, None, option_map, ◌==◌, find}
use Rattle.mq_rows.proofs.Words.{Keep, Update, AreTransactions, Entry, FoundRows, Granted, Id, IsFound, IsUnretired, Leads, Release, Released, Reply, Request, Reserve, Retire, Settle, Settled, Suits, Tables, Transaction, TransactionRecord, agrees, agrees_with, answer, appended, cap, closed, closes, counted, either, ended, entry, found_passes, granted, granted_or_full, held, held_by, if_open, is_at, is_below, is_closed, is_of, is_retire, is_transaction, key_of, login_of, moment_of, moved, moved_or_made, moves, named, neither_so, option_cases, option_or, or_false, or_true, requests, retires, same_key, same_text, same_transaction, set_transaction, settled_in, settled_or_too_many, those, transaction, transaction_of, transaction_row, transaction_write, used}
use Rattle.mq_ledger.specs.History.{granted_in}
use Rattle.mq_ledger.proofs.Transactions.{transaction_is, transaction_itself}
use Rattle.mq_rows.proofs.Lists.{insert, update, find_of_those, mapped_from, or_none, transactions}

-- What the ledger's laws say of one more entry and of transactions.
pub record Ledger (day : ℕ → ℕ) (default : ℕ) : Type 0 where
  pub named_more : (H : List Entry) (e : Entry) (t : Transaction) → named (H ++ e ∷ []) t ≡ option_or (named H t) (if is_of t e.request then Some e else None)
  pub closed_more : (H : List Entry) (e : Entry) (t : Transaction) → closed (H ++ e ∷ []) t ≡ (retires e.request t || (closed H t || (is_of t e.request && closes e.reply)))
  pub held_more : (H : List Entry) (e : Entry) (t : Transaction) → held (H ++ e ∷ []) t ≡ (if retires e.request t || (closed H t || (is_of t e.request && closes e.reply)) then 0 else held H t + (if is_of t e.request then granted e.request e.reply else 0))
  pub settled_more : (H : List Entry) (e : Entry) (t : Transaction) → e.reply ≡ answer day default H e.request → settled_in (H ++ e ∷ []) t ≡ settled_in H t + (if is_of t e.request then counted e.request e.reply else 0) + (if retires e.request t then held H t else 0)
  pub unheard : (H : List Entry) (t : Transaction) → named H t ≡ None → (ended H t ≡ false) × (held H t ≡ 0) × (settled_in H t ≡ 0)
  pub unsettled : (H : List Entry) (t : Transaction) → closed H t ≡ false → settled_in H t ≡ 0

-- a transaction of the request that has no entry is open, and holds nothing
abbrev pub IsHeard : List Entry → Request → Type 0
IsHeard H r = (t : Transaction) → is_of t r ≡ true → named H t ≡ None → (closed H t ≡ false) × (held H t ≡ 0) × (settled_in H t ≡ 0)

pub retires_nothing : (r : Request) (t : Transaction) → is_retire r ≡ false → retires r t ≡ false
retires_nothing (Retire id) t h = absurd (cc h)
retires_nothing r t h = refl

-- how a row stands with these numbers
abbrev pub standing : TransactionRecord → ℕ → ℕ → Bool → TransactionRecord
standing t h s c = record t { held = h; settled = s; closed = c }

pub standing_same : (t : TransactionRecord) (h h' s s' : ℕ) (c c' : Bool) → h ≡ h' → s ≡ s' → c ≡ c' → standing t h s c ≡ standing t h' s' c'
standing_same t h h' s s' c c' p q r = λ i. record t { held = p i; settled = q i; closed = r i }

pub rows_same : (day : ℕ → ℕ) (H G : List Entry) (t : Transaction) → named G t ≡ named H t → held G t ≡ held H t → settled_in G t ≡ settled_in H t → closed G t ≡ closed H t → transaction_row day G t ≡ transaction_row day H t
rows_same day H G t n h s c = rw n (mapped (named H t)) where
  mapped : (o : Option Entry) → option_map (transaction_of day G t) o ≡ option_map (transaction_of day H t) o
  mapped None = refl
  mapped (Some e) = ap Some (standing_same (transaction_of day H t e) _ _ _ _ _ _ h s c)

-- what is held where nothing is granted or closed
pub still : (c : Bool) (n : ℕ) → (if c || false then 0 else (if c then 0 else n) + 0) ≡ (if c then 0 else n)
still true n = refl
still false n = omega arith

-- the row of a transaction with one more entry of it
abbrev pub after : Request → Reply → TransactionRecord → TransactionRecord
after r a t = standing t (if t.closed || closes a then 0 else t.held + granted r a) (t.settled + counted r a) (t.closed || closes a)

-- how a row of a history stands
pub record IsStanding (t : TransactionRecord) (a : Reply) : Type 0 where
  pub nothing_held : t.closed ≡ true → t.held ≡ 0
  pub nothing_settled : t.closed ≡ false → t.settled ≡ 0
  pub open_to : moves a ≡ true → t.closed ≡ false

-- the count of a reserve or settle
abbrev pub count_of : Request → ℕ
count_of (Reserve id txn moment login count) = count
count_of (Settle id txn moment login count) = count
count_of _ = 0

-- The row of a transaction says how it stands.

pub at_is : (T : Transaction) (moment : ℕ) (login : List ℕ) (r : Request) → is_of T r ≡ true → ((moment == moment_of r) && same_text login (login_of r)) ≡ is_at moment login r
at_is T moment login (Reserve id txn moment' login' count) h = refl
at_is T moment login (Settle id txn moment' login' count) h = refl
at_is T moment login (Release id txn moment' login') h = refl
at_is T moment login r h = absurd (cc h)

pub record Stands (H : List Entry) (T : Transaction) (moment : ℕ) (login : List ℕ) (o : Option TransactionRecord) : Type 0 where
  pub agreed : agrees_with moment login o ≡ agrees moment login (named H T)
  pub shut : is_closed o ≡ closed H T
  pub holds : held_by o ≡ held H T

pub stands : (day : ℕ → ℕ) (H : List Entry) (r : Request) → IsHeard H r → (rows : List TransactionRecord) → AreTransactions day H rows → (T : Transaction) (moment : ℕ) (login : List ℕ) (o : Option TransactionRecord)
    → is_of T r ≡ true → o ≡ find (is_transaction T) rows → Stands H T moment login o
stands day H r heard rows are T moment login o own found =
    let row : o ≡ transaction_row day H T = found ∙ find_of_those (is_transaction T) rows (transaction_row day H T) (are T) in
    elim (option_cases (named H T)) [
      | inl none ↦ (let u = heard T own none in
          let k : o ≡ None = row ∙ (rw none refl) in
          record { agreed = rw (k, none) refl; shut = rw k (sym u.0); holds = rw k (sym u.1) })
      | inr p ↦ (let k : o ≡ Some (transaction_of day H T p.0) = row ∙ (rw p.1 refl) in
          let mine : is_of T p.0.request ≡ true = found_passes (λ e. is_of T e.request) H p.0 p.1 in
          record { agreed = rw (k, p.1) (at_is T moment login p.0.request mine); shut = rw k refl; holds = rw k refl })
    ]

-- What the reply does to a row is what the code writes.

stay : (r : Request) (a : Reply) (t : TransactionRecord) → closes a ≡ false → granted r a ≡ 0 → counted r a ≡ 0 → (t.closed ≡ true → t.held ≡ 0) → after r a t ≡ t
stay r a t c g n none =
    let s : t.settled + counted r a ≡ t.settled = omega arith in
    let k : (t.closed || closes a) ≡ t.closed = rw c (or_false t.closed) in
    standing_same t _ t.held _ t.settled _ t.closed (held_stays t.closed t.held none) s k
  where
    held_stays : (d : Bool) (h : ℕ) → (d ≡ true → h ≡ 0) → (if d || closes a then 0 else h + granted r a) ≡ h
    held_stays true h none = sym (none refl)
    held_stays false h none = rw c (omega arith)

shuts : (r : Request) (a : Reply) (t : TransactionRecord) (settled : ℕ) → closes a ≡ true → t.settled + counted r a ≡ settled → after r a t ≡ record t { held = 0; settled = settled; closed = true }
shuts r a t settled c s =
    let k : (t.closed || closes a) ≡ true = rw c (or_true t.closed) in
    let h : (if t.closed || closes a then 0 else t.held + granted r a) ≡ 0 = rw k refl in
    standing_same t _ 0 _ settled _ true h s k

after_is_moved : (r : Request) (a : Reply) (t : TransactionRecord) → Suits r a → IsStanding t a → after r a t ≡ moved (count_of r) a t
after_is_moved (Reserve id txn moment login count) (Granted id' n) t suits h =
    let n : (if t.closed || false then 0 else t.held + count) ≡ t.held + count = rw (h.open_to refl) refl in
    let s : t.settled + 0 ≡ t.settled = omega arith in
    standing_same t _ (t.held + count) _ t.settled _ t.closed n s (or_false t.closed)
after_is_moved (Settle id txn moment login count) (Settled id' n) t suits h =
    let s : t.settled + count ≡ count = omega (arith, h.nothing_settled (h.open_to refl)) in
    shuts (Settle id txn moment login count) (Settled id' n) t count refl s
after_is_moved (Release id txn moment login) (Released id' n) t suits h =
    let s : t.settled + 0 ≡ t.settled = omega arith in
    shuts (Release id txn moment login) (Released id' n) t t.settled refl s
after_is_moved r (Granted id' n) t suits h = absurd suits
after_is_moved r (Settled id' n) t suits h = absurd suits
after_is_moved r (Released id' n) t suits h = absurd suits
after_is_moved r a t suits h = stay r a t refl refl refl h.nothing_held

-- what a reply leaves of a row
record Moved (count : ℕ) (a : Reply) (t : TransactionRecord) : Type 0 where
  key : key_of (moved count a t) ≡ key_of t
  set : set_transaction (moved count a t) t ≡ moved count a t
  unmoved : moves a ≡ false → moved count a t ≡ t

moved_so : (count : ℕ) (a : Reply) (t : TransactionRecord) → Moved count a t
moved_so count (Granted id n) t = record { key = refl; set = refl; unmoved = λ h. absurd (cc h) }
moved_so count (Settled id n) t = record { key = refl; set = refl; unmoved = λ h. absurd (cc h) }
moved_so count (Released id n) t = record { key = refl; set = refl; unmoved = λ h. absurd (cc h) }
moved_so count a t = record { key = refl; set = refl; unmoved = λ h. refl }

-- a closed transaction's reply moves nothing
shut_moves_nothing : (H : List Entry) (id : Id) (txn moment : ℕ) (login : List ℕ) (a : Reply) → closed H (transaction id txn) ≡ true → moves (if_open H id txn moment login a) ≡ false
shut_moves_nothing H id txn moment login a h = elim (either (agrees moment login (named H (transaction id txn)))) [ inl t ↦ rw (t, h) refl | inr f ↦ rw f refl ]

open_if_moved : (c : Bool) (m : Bool) → (c ≡ true → m ≡ false) → m ≡ true → c ≡ false
open_if_moved true m h g = absurd (cc (h refl, g))
open_if_moved false m h g = refl

module _ (day : ℕ → ℕ) (default : ℕ) (laws : Ledger day default) (H : List Entry) where
  -- its transaction isn't of a run that was given up
  open_of : (id : Id) (txn : ℕ) (t : Transaction) → is_below (requests H) id ≡ false → same_transaction t (transaction id txn) ≡ true → named H t ≡ None → (closed H t ≡ false) × (held H t ≡ 0) × (settled_in H t ≡ 0)
  open_of id txn t above own none =
      let is : t ≡ transaction id txn = transaction_is t (transaction id txn) own in
      let u = laws.unheard H t none in
      let c : closed H (transaction id txn) ≡ false = neither_so (is_below (requests H) id) (ended H (transaction id txn)) above (subst (λ x. ended H x ≡ false) is u.0) in
      (subst (λ x. closed H x ≡ false) (sym is) c, u.1, u.2)

  pub heard : (r : Request) → IsUnretired H r → IsHeard H r
  heard (Reserve id txn moment login count) above = λ t own none. open_of id txn t (above id refl) own none
  heard (Settle id txn moment login count) above = λ t own none. open_of id txn t (above id refl) own none
  heard (Release id txn moment login) above = λ t own none. open_of id txn t (above id refl) own none
  heard r above = λ t own none. absurd (cc own)

  -- One more entry, whose request isn't a retire.
  module _ (r : Request) (plain : is_retire r ≡ false) (above : IsUnretired H r) where
    abbrev a : Reply
    a = answer day default H r

    abbrev e : Entry
    e = entry r a

    abbrev H' : List Entry
    H' = H ++ e ∷ []

    settled_now : (t : Transaction) → settled_in H' t ≡ settled_in H t + (if is_of t r then counted r a else 0)
    settled_now t = (let z : (if retires r t then held H t else 0) ≡ 0 = rw (retires_nothing r t plain) refl in omega (arith, laws.settled_more H e t refl, z))

    others_stay : (t : Transaction) → is_of t r ≡ false → transaction_row day H' t ≡ transaction_row day H t
    others_stay t f =
        let quiet : retires r t ≡ false = retires_nothing r t plain in
        let z : settled_in H t + 0 ≡ settled_in H t = omega arith in
        let n : named H' t ≡ named H t = laws.named_more H e t ∙ (rw f (or_none (named H t))) in
        let h : held H' t ≡ held H t = laws.held_more H e t ∙ (rw (quiet, f) (still (closed H t) (granted_in H t))) in
        let s : settled_in H' t ≡ settled_in H t = settled_now t ∙ (rw f z) in
        let c : closed H' t ≡ closed H t = laws.closed_more H e t ∙ (rw (quiet, f) (or_false (closed H t))) in
        rows_same day H H' t n h s c

    own_more : (t : Transaction) (first : Entry) → is_of t r ≡ true → transaction_of day H' t first ≡ after r a (transaction_of day H t first)
    own_more t first own =
        let quiet : retires r t ≡ false = retires_nothing r t plain in
        let h : held H' t ≡ (if closed H t || closes a then 0 else held H t + granted r a) = laws.held_more H e t ∙ (rw (quiet, own) refl) in
        let s : settled_in H' t ≡ settled_in H t + counted r a = settled_now t ∙ (rw own refl) in
        let c : closed H' t ≡ (closed H t || closes a) = laws.closed_more H e t ∙ (rw (quiet, own) refl) in
        standing_same (transaction_of day H t first) _ _ _ _ _ _ h s c

    -- the row of a transaction that has no entry yet
    abbrev new : Transaction → TransactionRecord
    new T = record { host = T.host; run = T.run; txn = T.txn; login = login_of r; moment = moment_of r; day = day (moment_of r); held = 0; settled = 0; closed = false }

    -- a request of a transaction, whose row was found, and its reply
    follow : (rows : List TransactionRecord) (T : Transaction) (o : Option TransactionRecord) → AreTransactions day H rows → o ≡ find (is_transaction T) rows → ((t : Transaction) → is_of t r ≡ same_transaction t T)
        → Suits r a → (closed H T ≡ true → moves a ≡ false) → Leads same_key set_transaction (moved_or_made (count_of r) a (new T) o) rows (AreTransactions day H')
    follow rows T o are found of suits shut = by o (found ∙ find_of_those (is_transaction T) rows (transaction_row day H T) (are T)) where
      own : is_of T r ≡ true
      own = of T ∙ transaction_itself T

      others : (k : Transaction) → same_transaction k T ≡ false → transaction_row day H' k ≡ transaction_row day H k
      others k f = others_stay k (of k ∙ f)

      by : (o : Option TransactionRecord) → o ≡ transaction_row day H T → Leads same_key set_transaction (moved_or_made (count_of r) a (new T) o) rows (AreTransactions day H')
      by None row = elim (option_cases (named H T)) [
        | inr p ↦ (let k : None ≡ Some (transaction_of day H T p.0) = rw p.1 at row in absurd (cc k))
        | inl none ↦ (let u = heard r above T own none in
            let names : named H' T ≡ Some e = laws.named_more H e T ∙ (rw (none, own) refl) in
            let first : transaction_of day H T e ≡ new T = standing_same (new T) _ _ _ _ _ _ u.1 u.2 u.0 in
            let made : transaction_row day H' T ≡ Some (moved (count_of r) a (new T)) = rw names (ap Some (own_more T e own ∙ ap (after r a) first
            ∙ after_is_moved r a (new T) suits (record { nothing_held = λ _. refl; nothing_settled = λ _. refl; open_to = λ _. refl }))) in
            insert transactions (transaction_row day H) (transaction_row day H') rows are T others (AreTransactions day H') (λ _ all. all) (moved (count_of r) a (new T)) ((moved_so (count_of r) a (new T)).key) (sym row) made)
      ]
      by (Some was) row =
          let p = mapped_from (transaction_of day H T) (named H T) was (sym row) in
          let stands : IsStanding was a = subst (λ w. IsStanding w a) p.2 (record { nothing_held = λ c. rw c refl; nothing_settled = laws.unsettled H T; open_to = open_if_moved (closed H T) (moves a) shut }) in
          let names : named H' T ≡ Some p.0 = laws.named_more H e T ∙ ap (λ o. option_or o (if is_of T r then Some e else None)) p.1 in
          let is = moved_so (count_of r) a was in
          let made : transaction_row day H' T ≡ Some (moved (count_of r) a was) = rw names (ap Some (own_more T p.0 own ∙ ap (after r a) p.2 ∙ after_is_moved r a was suits stands)) in
          elim (either (moves a)) [
            | inl m ↦ subst (λ (b : Bool). Leads same_key set_transaction (if b then Update (moved (count_of r) a was) else Keep) rows (AreTransactions day H')) (sym m)
                (update transactions (transaction_row day H) (transaction_row day H') rows are T others (AreTransactions day H') (λ _ all. all) (moved (count_of r) a was) was is.key (sym row) (made ∙ ap Some (sym is.set)))
            | inr m ↦ (let all : AreTransactions day H' rows = λ k. let same : transaction_row day H k ≡ transaction_row day H' k = elim (either (same_transaction k T)) [
              | inl t ↦ rw (transaction_is k T t) (sym row ∙ ap Some (sym (is.unmoved m)) ∙ sym made)
              | inr f ↦ sym (others k f)
            ] in are k ∙ ap those same in
                subst (λ (b : Bool). Leads same_key set_transaction (if b then Update (moved (count_of r) a was) else Keep) rows (AreTransactions day H')) (sym m) all)
          ]

  -- What one more answer does to the rows.
  pub transactions_lead : (t : Tables) (r : Request) (f : FoundRows) → is_retire r ≡ false → IsUnretired H r → Suits r (answer day default H r) → AreTransactions day H t.transactions → IsFound day t r f
      → Leads same_key set_transaction (transaction_write day r (answer day default H r) f.transaction) t.transactions (AreTransactions day (appended day default H r))
  transactions_lead t (Reserve id txn moment login count) f plain above suits are found =
      follow (Reserve id txn moment login count) plain above t.transactions (transaction id txn) f.transaction are found.0 (λ t. refl) suits
      (shut_moves_nothing H id txn moment login (granted_or_full id (used day H login (day moment)) (cap default H login (day moment)) count))
  transactions_lead t (Settle id txn moment login count) f plain above suits are found =
      follow (Settle id txn moment login count) plain above t.transactions (transaction id txn) f.transaction are found.0 (λ t. refl) suits
      (shut_moves_nothing H id txn moment login (settled_or_too_many id (held H (transaction id txn)) count))
  transactions_lead t (Release id txn moment login) f plain above suits are found =
      follow (Release id txn moment login) plain above t.transactions (transaction id txn) f.transaction are found.0 (λ t. refl) suits
      (shut_moves_nothing H id txn moment login (Released id (held H (transaction id txn))))
  transactions_lead t r f plain above suits are found = λ k. are k ∙ ap those (sym (others_stay r plain above k refl))
