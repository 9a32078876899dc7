-- A retire closes transactions, one after another.
use Rattle.std.proofs.Common.{◌≡◌, ℕ, ◌+◌, ◌-◌, ◌≤◌, List, [], ◌∷◌, ◌++◌, Bool, true, false, refl, ◌∙◌, ap, sym, subst, inl, inr, arith, filter, find, not, ◌&&◌, ◌||◌, ◌==◌, ◌⊎◌, nat_lt, nat_le, if◌then◌else◌, Option, Some, None, option_map}
use Rattle.mq_rows.proofs.Words.{AllByRecursion, AreTransactions, AreUsage, Entry, Id, In, Leads, Retire, Transaction, TransactionRecord, Update, UsageRecord, abandoned_row, all_at, closed, either, first_so, fits, freed, has_reserve, held, if_zero, is_not, is_transaction, is_usage, key_of, named, nat_tests, number_is, number_itself, option_cases, or_false, or_true, reserved, retire_entry, retires, same_day, same_key, same_text, second_so, set_transaction, set_usage, settled_in, sum_by-cons, sum_by_pushed, those, transaction_of, transaction_row, used}
use Rattle.std.proofs.lemmas.Option.{cond_some}
use Rattle.mq_ledger.specs.History.{granted_in}
use Rattle.mq_ledger.proofs.Transactions.{transaction_is}
use Rattle.mq_rows.proofs.Lists.{find_of_those, updated, parted, Parted, update, or_none, place_itself, usages}
use Rattle.mq_rows.proofs.RowSums.{is_on, total, summed_row, IsRowOf, row_of, agreed, day_is, Laws, held_total, settled_total, summed_is, key_row}
use Rattle.mq_rows.proofs.Trans.{Ledger, rows_same, standing_same, still}

-- the transaction is open, and the retire retires its run
abbrev pub is_to_close : Id → TransactionRecord → Bool
is_to_close id r = not r.closed && (same_text r.host id.host && nat_lt r.run id.run)

-- the row of a transaction is that before the retire, or that after it
abbrev pub IsBetween : (ℕ → ℕ) → List Entry → Id → List TransactionRecord → Transaction → Type 0
IsBetween day H id rows t =
    (filter (is_transaction t) rows ≡ those (transaction_row day H t))
    ⊎ (filter (is_transaction t) rows ≡ those (transaction_row day (H ++ retire_entry id ∷ []) t))

-- Each transaction stands as before the retire or as after it; each login and day has what its transactions have, which
-- together is what it had used before.
pub record AreRetiring (day : ℕ → ℕ) (H : List Entry) (id : Id) (rows : List TransactionRecord) (usage : List UsageRecord) : Type 0 where
  pub transactions : (t : Transaction) → IsBetween day H id rows t
  pub days : (l : List ℕ) (d : ℕ) → filter (is_usage l d) usage ≡ those (summed_row day H rows l d)
  pub sums : (l : List ℕ) (d : ℕ) → total (λ r. r.held) l d rows + total (λ r. r.settled) l d rows ≡ used day H l d

-- so it is before any is closed
pub begun : (day : ℕ → ℕ) (H : List Entry) (id : Id) → Laws day H → (rows : List TransactionRecord) (usage : List UsageRecord) → AreTransactions day H rows → AreUsage day H usage → AreRetiring day H id rows usage
begun day H id laws rows usage ts us = record {
  transactions = λ t. inl (ts t);
  days = λ l d. us l d ∙ ap those (sym (summed_is day H laws rows ts l d));
  sums = λ l d. (let h = held_total day H laws rows ts l d in let s = settled_total day H laws rows ts l d in omega (arith, h, s));
}

zero_either : (x : Bool) (n : ℕ) → (if x || true then 0 else n) ≡ 0
zero_either true n = refl
zero_either false n = refl

module _ (day : ℕ → ℕ) (default : ℕ) (L : Ledger day default) (H : List Entry) (id : Id) where
  abbrev H' : List Entry
  H' = H ++ retire_entry id ∷ []

  -- an open transaction that the retire gives up has this row then
  abandoned_is : (was : TransactionRecord) → transaction_row day H (key_of was) ≡ Some was → is_to_close id was ≡ true → transaction_row day H' (key_of was) ≡ Some (abandoned_row was)
  abandoned_is was here open_so =
      let is = row_of day H was here in
      let k : Transaction = key_of was in
      let still : was.closed ≡ false = is_not was.closed (first_so (not was.closed) _ open_so) in
      let gone : retires (Retire id) k ≡ true = second_so (not was.closed) _ open_so in
      let shut : closed H k ≡ false = ap (λ (x : TransactionRecord). x.closed) is.row ∙ still in
      let c : closed H' k ≡ true = L.closed_more H (retire_entry id) k ∙ ap (λ b. b || (closed H k || false)) gone in
      let h : held H' k ≡ 0 = L.held_more H (retire_entry id) k ∙ ap (λ b. if b || (closed H k || false) then 0 else held H k + 0) gone in
      let had : held H k ≡ was.held = ap (λ (x : TransactionRecord). x.held) is.row in
      let z : (if retires (Retire id) k then held H k else 0) ≡ held H k = ap (λ b. if b then held H k else 0) gone in
      let s : settled_in H' k ≡ was.held = omega (arith, L.settled_more H (retire_entry id) k refl, z, L.unsettled H k shut, had) in
      let names : named H' k ≡ Some is.first = L.named_more H (retire_entry id) k ∙ or_none (named H k) ∙ is.names in
      let made : transaction_of day H' k is.first ≡ abandoned_row (transaction_of day H k is.first) = standing_same (transaction_of day H k is.first) _ _ _ _ _ _ h (s ∙ sym had) c in
      ap (option_map (transaction_of day H' k)) names ∙ ap Some (made ∙ ap abandoned_row is.row)

  -- one that is closed in a row after the retire isn't to be closed
  closed_behind : (was : TransactionRecord) → transaction_row day H' (key_of was) ≡ Some was → is_to_close id was ≡ true → ⊥
  closed_behind was here open_so =
      let is = row_of day H' was here in
      let still : was.closed ≡ false = is_not was.closed (first_so (not was.closed) _ open_so) in
      let gone : retires (Retire id) (key_of was) ≡ true = second_so (not was.closed) _ open_so in
      let c : closed H' (key_of was) ≡ true = L.closed_more H (retire_entry id) (key_of was) ∙ ap (λ b. b || (closed H (key_of was) || false)) gone in
      let clash : true ≡ false = sym c ∙ ap (λ (x : TransactionRecord). x.closed) is.row ∙ still in cc

  module _ (R : Laws day H) (rows : List TransactionRecord) (usage : List UsageRecord) (b : AreRetiring day H id rows usage) (was : TransactionRecord) (there : In was rows) (open_so : is_to_close id was ≡ true) where
    abbrev k : Transaction
    k = key_of was

    abbrev next : TransactionRecord
    next = abandoned_row was

    before : transaction_row day H k ≡ Some was
    before = elim (b.transactions k) [
      | inl e ↦ key_row rows was (transaction_row day H k) e there
      | inr e ↦ absurd (closed_behind was (key_row rows was (transaction_row day H' k) e there) open_so)
    ]

    here : filter (is_transaction k) rows ≡ was ∷ []
    here = elim (b.transactions k) [
      | inl e ↦ e ∙ ap those before
      | inr e ↦ absurd (closed_behind was (key_row rows was (transaction_row day H' k) e there) open_so)
    ]

    part : Parted (is_transaction k) rows was
    part = parted (is_transaction k) rows was here

    abbrev after : List TransactionRecord
    after = set_transaction next was ∷ part.rest

    between_other : (t : Transaction) → is_transaction t was ≡ false → (o : Option TransactionRecord) → filter (is_transaction t) rows ≡ those o → filter (is_transaction t) after ≡ those o
    between_other t f o e =
        updated (is_transaction t) (set_transaction next was) was part.rest rows o o part.order e refl (λ y. absurd (cc (f, y))) (λ _. refl)

    between : (t : Transaction) → IsBetween day H id after t
    between t = elim (either (is_transaction t was)) [
      | inl y ↦ (let same : t ≡ k = transaction_is t k y in
          let moment : filter (is_transaction k) after ≡ those (transaction_row day H' k) =
          updated (is_transaction k) (set_transaction next was) was part.rest rows (Some was) (transaction_row day H' k) part.order here refl (λ _ _. abandoned_is was before open_so) (λ f. absurd (cc (f, part.there))) in
          let P : Transaction → Type 0 = λ u. IsBetween day H id after u in
          subst P (sym same) (inr moment))
      | inr f ↦ elim (b.transactions t) [
        | inl e ↦ inl (between_other t f (transaction_row day H t) e)
        | inr e ↦ inr (between_other t f (transaction_row day H' t) e)
      ]
    ]

    -- the sums over the rows
    sum_of : (amount : TransactionRecord → ℕ) (l : List ℕ) (d : ℕ) → total amount l d rows ≡ (if is_on l d was then amount was else 0) + total amount l d part.rest
    sum_of amount l d = sum_by_pushed (λ r. if is_on l d r then amount r else 0) was part.rest rows part.order

    sum_then : (amount : TransactionRecord → ℕ) (l : List ℕ) (d : ℕ) → total amount l d after ≡ (if is_on l d was then amount next else 0) + total amount l d part.rest
    sum_then amount l d = sum_by-cons (λ r. if is_on l d r then amount r else 0) (set_transaction next was) part.rest

    is : IsRowOf day H was
    is = row_of day H was before

    none_settled : was.settled ≡ 0
    none_settled =
        let still : was.closed ≡ false = is_not was.closed (first_so (not was.closed) _ open_so) in
        sym (ap (λ (x : TransactionRecord). x.settled) is.row) ∙ L.unsettled H k (ap (λ (x : TransactionRecord). x.closed) is.row ∙ still)

    none_sum : (c : Bool) → (if c then was.settled else 0) ≡ 0
    none_sum true = none_settled
    none_sum false = refl

    -- the held ones are settled
    settled_then : (l : List ℕ) (d : ℕ) → total (λ r. r.settled) l d after ≡ total (λ r. r.settled) l d rows + (if is_on l d was then was.held else 0)
    settled_then l d = (let a = sum_then (λ r. r.settled) l d in let c = sum_of (λ r. r.settled) l d in let z = none_sum (is_on l d was) in omega (arith, a, c, z))

    held_then : (l : List ℕ) (d : ℕ) → total (λ r. r.held) l d after + (if is_on l d was then was.held else 0) ≡ total (λ r. r.held) l d rows
    held_then l d = (let a = sum_then (λ r. r.held) l d in let c = sum_of (λ r. r.held) l d in let z = if_zero (is_on l d was) 0 refl in omega (arith, a, c, z))

    sums_then : (l : List ℕ) (d : ℕ) → total (λ r. r.held) l d after + total (λ r. r.settled) l d after ≡ used day H l d
    sums_then l d = (let s = settled_then l d in let h = held_then l d in let u = b.sums l d in omega (arith, s, h, u))

    -- where it held some its login and day has a reserve
    reserve_there : (was.held == 0) ≡ false → has_reserve day H was.day was.login ≡ true
    reserve_there some = elim (either (has_reserve day H was.day was.login)) [
      | inl y ↦ y
      | inr f ↦ absurd (let le = R.held_is_reserved k was.moment was.login (agreed day H was is) in
          let le' : held H k ≤ reserved day H was.login was.day = subst (λ n. held H k ≤ reserved day H was.login n) (day_is day H was is) le in
          let had : held H k ≡ was.held = ap (λ (x : TransactionRecord). x.held) is.row in
          let zero_so : was.held ≡ 0 = omega (arith, le', had, (R.none was.login was.day f).0) in
          let clash : true ≡ false = sym (number_itself 0) ∙ ap (λ n. n == 0) (sym zero_so) ∙ some in cc)
    ]

    -- the row of its login and day
    abbrev own : UsageRecord
    own = record { login = was.login; day = was.day; settled = total (λ r. r.settled) was.login was.day rows; reserved = total (λ r. r.held) was.login was.day rows }

    own_row : has_reserve day H was.day was.login ≡ true → summed_row day H rows was.login was.day ≡ Some own
    own_row y = rw y refl

    row_there : (u : Option UsageRecord) → u ≡ find (is_usage was.login was.day) usage → summed_row day H rows was.login was.day ≡ u
    row_there u e = sym (e ∙ find_of_those (is_usage was.login was.day) usage (summed_row day H rows was.login was.day) (b.days was.login was.day))

    on_own : is_on was.login was.day was ≡ true
    on_own = place_itself (was.login, was.day)

    held_own : total (λ r. r.held) was.login was.day after + was.held ≡ total (λ r. r.held) was.login was.day rows
    held_own = sym (ap (λ n. total (λ r. r.held) was.login was.day after + n) (rw on_own refl)) ∙ held_then was.login was.day

    own_then : (u : UsageRecord) → has_reserve day H was.day was.login ≡ true → own ≡ u → summed_row day H after was.login was.day ≡ Some (record u { settled = u.settled + was.held; reserved = u.reserved - was.held })
    own_then u y is_u =
        let s : total (λ r. r.settled) was.login was.day after ≡ total (λ r. r.settled) was.login was.day rows + was.held = settled_then was.login was.day ∙ rw on_own refl in
        let h : total (λ r. r.held) was.login was.day after ≡ total (λ r. r.held) was.login was.day rows - was.held = omega (arith, held_own) in
        (λ i. if y i then Some (record { login = was.login; day = was.day; settled = s i; reserved = h i }) else None)
        ∙ ap (λ (x : UsageRecord). Some (record x { settled = x.settled + was.held; reserved = x.reserved - was.held })) is_u

    -- where it held none of a login and day nothing changes
    none_then : (l : List ℕ) (d : ℕ) → (if is_on l d was then was.held else 0) ≡ 0 → summed_row day H after l d ≡ summed_row day H rows l d
    none_then l d z =
        let s : total (λ r. r.settled) l d after ≡ total (λ r. r.settled) l d rows = (let e = settled_then l d in omega (arith, e, z)) in
        let h : total (λ r. r.held) l d after ≡ total (λ r. r.held) l d rows = (let e = held_then l d in omega (arith, e, z)) in
        (λ i. if has_reserve day H d l then Some (record { login = l; day = d; settled = s i; reserved = h i }) else None)

    as_before : (was.held == 0) ≡ true → AreRetiring day H id after usage
    as_before z = record {
      transactions = between;
      days = λ l d. b.days l d ∙ ap those (sym (none_then l d (if_zero (is_on l d was) was.held (number_is was.held 0 z))));
      sums = sums_then;
    }

    usage_leads : (u : Option UsageRecord) → summed_row day H rows was.login was.day ≡ u → Leads same_day set_usage (freed was.held was.held u) usage (AreRetiring day H id after)
    usage_leads None e = elim (either (was.held == 0)) [ inl z ↦ as_before z | inr some ↦ (let clash = sym (own_row (reserve_there some)) ∙ e in absurd (cc clash)) ]
    usage_leads (Some u) e = elim (either (was.held == 0)) [
      | inl z ↦ rw z (as_before z)
      | inr some ↦ rw some (update usages (λ p. summed_row day H rows p.0 p.1) (λ p. summed_row day H after p.0 p.1) usage (λ p. b.days p.0 p.1) (was.login, was.day) (λ p f. none_then p.0 p.1 (rw f refl))
          (AreRetiring day H id after) (λ _ all. record { transactions = between; days = λ m n. all (m, n); sums = sums_then })
          (record u { settled = u.settled + was.held; reserved = u.reserved - was.held }) u refl e (own_then u (reserve_there some) (cond_some (has_reserve day H was.day was.login) own u e).1))
    ]

    pub one_closed : (u : Option UsageRecord) → u ≡ find (is_usage was.login was.day) usage → Leads same_key set_transaction (Update (abandoned_row was)) rows (λ more. Leads same_day set_usage (freed was.held was.held u) usage (AreRetiring day H id more))
    one_closed u e = record {
      was = was;
      rest = part.rest;
      order = part.order;
      there = part.there;
      alone = part.alone;
      after = usage_leads u (row_there u e);
    }

    -- so it can be closed, where what its login has used is in range
    pub closing_fits : used day H was.login was.day ≤ 1000000 → (u : Option UsageRecord) → u ≡ find (is_usage was.login was.day) usage → fits (Some was) u ≡ true
    closing_fits low u e = fits_where u (row_there u e) where
      both_fit : (n h r : ℕ) → n ≤ 1000000 → h ≤ r → (nat_le n 1000000 && nat_le h r) ≡ true
      both_fit n h r some le = grind (arith, nat_tests)

      fits_where : (u : Option UsageRecord) → summed_row day H rows was.login was.day ≡ u → fits (Some was) u ≡ true
      fits_where None k = elim (either (was.held == 0)) [
        | inl z ↦ (let zero_so : was.held ≡ 0 = number_is was.held 0 z in both_fit 0 was.held 0 (omega arith) (omega (arith, zero_so)))
        | inr some ↦ (let clash = sym (own_row (reserve_there some)) ∙ k in absurd (cc clash))
      ]
      fits_where (Some u) k =
          let is_u : own ≡ u = (cond_some (has_reserve day H was.day was.login) own u k).1 in
          let s : total (λ r. r.settled) was.login was.day rows ≡ u.settled = ap (λ (x : UsageRecord). x.settled) is_u in
          let h : total (λ r. r.held) was.login was.day rows ≡ u.reserved = ap (λ (x : UsageRecord). x.reserved) is_u in
          let all = b.sums was.login was.day in
          both_fit (u.reserved + u.settled) was.held u.reserved (omega (arith, s, h, all, low)) (omega (arith, h, held_own))

  -- Once none is to be closed, the rows are those of the history with the retire.

  stays_row : (t : Transaction) → (retires (Retire id) t ≡ false) ⊎ (closed H t ≡ true) → transaction_row day H' t ≡ transaction_row day H t
  stays_row t how =
      let n : named H' t ≡ named H t = L.named_more H (retire_entry id) t ∙ or_none (named H t) in
      let m = L.settled_more H (retire_entry id) t refl in
      elim how [
        | inl g ↦ (let c : closed H' t ≡ closed H t = L.closed_more H (retire_entry id) t ∙ ap (λ b. b || (closed H t || false)) g ∙ or_false (closed H t) in
            let h : held H' t ≡ held H t = L.held_more H (retire_entry id) t ∙ ap (λ b. if b || (closed H t || false) then 0 else held H t + 0) g ∙ still (closed H t) (granted_in H t) in
            let z : (if retires (Retire id) t then held H t else 0) ≡ 0 = ap (λ b. if b then held H t else 0) g in
            let s : settled_in H' t ≡ settled_in H t = omega (arith, m, z) in
            rows_same day H H' t n h s c)
        | inr shut ↦ (let none : held H t ≡ 0 = rw shut refl in
            let c : closed H' t ≡ closed H t = L.closed_more H (retire_entry id) t ∙ ap (λ b. retires (Retire id) t || (b || false)) shut ∙ or_true (retires (Retire id) t) ∙ sym shut in
            let h : held H' t ≡ held H t = L.held_more H (retire_entry id) t ∙ ap (λ b. if retires (Retire id) t || (b || false) then 0 else held H t + 0) shut ∙ zero_either (retires (Retire id) t) (held H t + 0) ∙ sym none in
            let z : (if retires (Retire id) t then held H t else 0) ≡ 0 = if_zero (retires (Retire id) t) (held H t) none in
            let s : settled_in H' t ≡ settled_in H t = omega (arith, m, z) in
            rows_same day H H' t n h s c)
      ]

  has_head : {X : Type 0} (p : X → Bool) (xs : List X) (x : X) → filter p xs ≡ x ∷ [] → In x xs
  has_head p [] x h = absurd (cc h)
  has_head p (y ∷ xs) x h = elim (either (p y)) [
    | inl t ↦ (let h' : y ∷ filter p xs ≡ x ∷ [] = rw t at h in let e : y ≡ x = cc h' in inl e)
    | inr f ↦ inr (has_head p xs x (rw f at h))
  ]

  pub all_closed : (rows : List TransactionRecord) (usage : List UsageRecord) → AreRetiring day H id rows usage → AllByRecursion (λ r. is_to_close id r ≡ false) rows → AreTransactions day H' rows
  all_closed rows usage b none t = elim (b.transactions t) [
    | inr e ↦ e
    | inl e ↦ elim (either (retires (Retire id) t)) [
      | inr g ↦ e ∙ ap those (sym (stays_row t (inl g)))
      | inl g ↦ elim (either (closed H t)) [
        | inl shut ↦ e ∙ ap those (sym (stays_row t (inr shut)))
        | inr still ↦ elim (option_cases (named H t)) [
          | inl unheard ↦ (let a : transaction_row day H t ≡ None = rw unheard refl in
              let c : transaction_row day H' t ≡ None = ap (λ o. option_map (transaction_of day H' t) o) (L.named_more H (retire_entry id) t ∙ or_none (named H t) ∙ unheard) in
              e ∙ ap those (a ∙ sym c))
          | inr p ↦ (let a : transaction_row day H t ≡ Some (transaction_of day H t p.0) = rw p.1 refl in
              let i = has_head (is_transaction t) rows (transaction_of day H t p.0) (e ∙ ap those a) in
              let n : is_to_close id (transaction_of day H t p.0) ≡ false = all_at (λ r. is_to_close id r ≡ false) rows (transaction_of day H t p.0) none i in
              let y : is_to_close id (transaction_of day H t p.0) ≡ true = rw still g in
              absurd (cc (y, n)))
        ]
      ]
    ]
  ]

  -- and what its logins have used is that of the history with the retire
  pub all_used : Laws day H' → ((l : List ℕ) (d : ℕ) → has_reserve day H' d l ≡ has_reserve day H d l) → (rows : List TransactionRecord) (usage : List UsageRecord) → AreRetiring day H id rows usage
      → AllByRecursion (λ r. is_to_close id r ≡ false) rows → AreUsage day H' usage
  all_used laws same_reserves rows usage b none l d =
      let are = all_closed rows usage b none in
      let summed : summed_row day H rows l d ≡ summed_row day H' rows l d =
      ap (λ (x : Bool). if x then Some (record { login = l; day = d; settled = total (λ r. r.settled) l d rows; reserved = total (λ r. r.held) l d rows }) else None) (sym (same_reserves l d)) in
      b.days l d ∙ ap those (summed ∙ summed_is day H' laws rows are l d)
