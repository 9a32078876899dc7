-- The reply that is decided from the rows is the answer over the history.
use Rattle.std.proofs.Common.{◌≡◌, ℕ, ◌+◌, ◌<◌, ◌≤◌, List, true, false, refl, ◌∙◌, ap, sym, inl, inr, arith, not, ◌&&◌, nat_lt, nat_le, if◌then◌else◌, Option, Some, None, option_map, is_some, find, lt-ltb, ltb-true}
use Rattle.mq_rows.proofs.Words.{AllByRecursion, AreLimits, AreTransactions, AreUsage, Closed, Entry, FoundRows, Id, IsFirstOver, IsFound, IsGoverning, IsReply, Limit, LimitRecord, Mismatch, Over, Release, Released, Request, Reserve, Retire, Settle, Tables, TransactionRecord, UsageRecord, agrees_with, answer, both_parts, cap, cap_by, decided, either, fits, fits_if_open, granted_or_full, has_reserve, held, held_by, id_of, is_closed, is_day_over, is_due, is_limit, is_of, is_over, is_transaction, is_usage, le_is, le_of, le_or_lt, limit_row, may_be_found, number_itself, option_cases, reserved_by, same_text, same_transaction, set_cap, set_or_over, set_or_over_by, settled_or_too_many, text_is, text_itself, those, transaction, used, used_by}
use Rattle.mq_ledger.specs.Over.{over, IsLeastOver}
use Rattle.mq_ledger.proofs.Transactions.{transaction_itself}
use Rattle.mq_rows.proofs.Trans.{IsHeard, Stands, stands}
use Rattle.mq_rows.proofs.Days.{Uses, Tells, has_row, member_row, row_of, tells, usage_at}
use Rattle.mq_rows.proofs.Lists.{mapped_from, member_is, one_has}

module _ (day : ℕ → ℕ) (default : ℕ) (H : List Entry) (us : Uses day default H) where
  -- The first row with more used is that of the first day with more used.
  row_over : (login : List ℕ) (from c d : ℕ) → from ≤ d → c < used day H login d → (has_reserve day H d login ≡ true) × (is_over login from c (row_of day H login d) ≡ true)
  row_over login from c d h more = elim (either (has_reserve day H d login)) [
    | inl t ↦ (t, rw (text_itself login, le_is from d h, lt-ltb c (used day H login d) more) refl)
    | inr f ↦ (let z = us.none login d f in absurd (omega (arith, z.0, z.1)))
  ]

  over_parts : (login : List ℕ) (from c : ℕ) (u : UsageRecord) → is_over login from c u ≡ true → (login ≡ u.login) × (from ≤ u.day) × (c < u.reserved + u.settled)
  over_parts login from c u h =
      let b = both_parts (same_text login u.login) (nat_le from u.day && nat_lt c (u.reserved + u.settled)) h in
      let b' = both_parts (nat_le from u.day) (nat_lt c (u.reserved + u.settled)) b.1 in
      (text_is login u.login b.0, le_of from u.day b'.0, ltb-true c (u.reserved + u.settled) b'.1)

  module _ (rows : List UsageRecord) (are : AreUsage day H rows) (login : List ℕ) (from c : ℕ) where
    over_uses : (u : UsageRecord) → IsFirstOver login from c rows (Some u) → u.reserved + u.settled ≡ used day H login u.day
    over_uses u first =
        (tells day default H us u.login u.day (Some u) (sym (member_row day H rows are u first.0))).uses ∙ ap (λ l. used day H l u.day) (sym (over_parts login from c u first.1).0)

    least : (o : Option UsageRecord) → IsFirstOver login from c rows o → IsLeastOver day H login from c (option_map (λ u. u.day) o)
    least None none = λ d h. elim (le_or_lt (used day H login d) c) [
      | inl le ↦ le
      | inr lt ↦ (let w = row_over login from c d h lt in absurd (cc (has_row day H rows are login d w.0 (λ u. is_over login from c u ≡ false) none, w.1)))
    ]
    least (Some u) first = (
      (over_parts login from c u first.1).1,
      omega (arith, (over_parts login from c u first.1).2, over_uses u first),
      λ d h before. elim (le_or_lt (used day H login d) c) [
        | inl le ↦ le
        | inr lt ↦ (let w = row_over login from c d h lt in
            absurd (omega (arith, has_row day H rows are login d w.0 (λ other. is_over login from c other ≡ true → u.day ≤ other.day) first.2 w.1)))
      ],
    )

    over_reply : ((l : List ℕ) (from c : ℕ) (o : Option ℕ) → IsLeastOver day H l from c o → o ≡ over day H l from c)
        → (id : Id) (o : Option UsageRecord) → IsFirstOver login from c rows o → set_or_over_by id o ≡ set_or_over day H id login (over day H login from c)
    over_reply only id None first = ap (set_or_over day H id login) (only login from c None (least None first))
    over_reply only id (Some u) first = ap (Over id u.day) (over_uses u first) ∙ ap (set_or_over day H id login) (only login from c (Some u.day) (least (Some u) first))

-- What the ledger's laws say of the limit that governs.
pub record Governs (default : ℕ) (H : List Entry) : Type 0 where
  pub none : (l : List ℕ) (d : ℕ) → ((from : ℕ) → from ≤ d → set_cap H l from ≡ None) → cap default H l d ≡ default
  pub latest : (l : List ℕ) (d from c : ℕ) → from ≤ d → set_cap H l from ≡ Some c → ((later : ℕ) → from < later → later ≤ d → set_cap H l later ≡ None) → cap default H l d ≡ c

module _ (default : ℕ) (H : List Entry) (gs : Governs default H) (rows : List LimitRecord) (are : AreLimits H rows) where
  abbrev limit : List ℕ → ℕ → ℕ → LimitRecord
  limit l from n = record { login = l; day = from; cap = n }

  -- what holds of the row of a limit that was set
  set_has : (l : List ℕ) (from n : ℕ) → set_cap H l from ≡ Some n → (P : LimitRecord → Type 0) → AllByRecursion P rows → P (limit l from n)
  set_has l from n h P all = one_has (is_limit l from) P rows (limit l from n) (are l from ∙ ap (λ (o : Option ℕ). those (option_map (limit l from) o)) h) all

  due : (l : List ℕ) (d from n : ℕ) → from ≤ d → is_due l d (limit l from n) ≡ true
  due l d from n h = rw (text_itself l, le_is from d h) refl

  pub governs : (l : List ℕ) (d : ℕ) (o : Option LimitRecord) → IsGoverning l d rows o → cap_by default o ≡ cap default H l d
  governs l d None none = sym (gs.none l d (λ from h. elim (option_cases (set_cap H l from)) [
    | inl z ↦ z
    | inr p ↦ absurd (cc (set_has l from p.0 p.1 (λ c. is_due l d c ≡ false) none, due l d from p.0 h))
  ]))
  governs l d (Some c) first =
      let b = both_parts (same_text l c.login) (nat_le c.day d) first.1 in
      let mine : is_limit l c.day c ≡ true = rw (text_is l c.login b.0, text_itself c.login, number_itself c.day) refl in
      let row = mapped_from (limit l c.day) (set_cap H l c.day) c (member_is (is_limit l c.day) rows first.0.0 c first.0.1 first.0.2 mine (limit_row H l c.day) (are l c.day)) in
      sym (gs.latest l d c.day c.cap (le_of c.day d b.1) (row.1 ∙ ap (λ (x : LimitRecord). Some x.cap) row.2) (λ later h k. elim (option_cases (set_cap H l later)) [
        | inl z ↦ z
        | inr p ↦ absurd (omega (arith, set_has l later p.0 p.1 (λ other. is_due l d other ≡ true → other.day ≤ c.day) first.2 (due l d later p.0 k)))
      ]))

-- What was found may be found.

day_over : (id : Id) (o : Option UsageRecord) → IsReply (set_or_over_by id o) → is_day_over o ≡ true
day_over id None fits = refl
day_over id (Some u) fits = rw (le_is u.day 376200 fits.1.to, le_is (u.reserved + u.settled) 1000000 fits.2.to) refl

fit : (moment : ℕ) (login : List ℕ) (c : ℕ) (t : Option TransactionRecord) (u : Option UsageRecord) → used_by u ≤ 1000000 → c ≤ 1000000 → (agrees_with moment login t ≡ true → held_by t ≤ reserved_by u) → fits_if_open moment login c t u ≡ true
fit moment login c t u n k held = elim (either (agrees_with moment login t)) [
  | inr f ↦ rw f refl
  | inl a ↦ elim (either (is_closed t)) [
    | inl shut ↦ rw (a, shut) refl
    | inr still ↦ rw (a, still, le_is (used_by u) 1000000 n, le_is (held_by t) (reserved_by u) (held a), le_is c 1000000 k) refl
  ]
]

-- What is decided from the rows is the answer over the history, and what was found may be found.
module _ (day : ℕ → ℕ) (default : ℕ) (H : List Entry) (us : Uses day default H) (gs : Governs default H)
    (t : Tables) (ts : AreTransactions day H t.transactions) (uses : AreUsage day H t.usage) (ls : AreLimits H t.limits) where
  stands_so : (r : Request) → IsHeard H r → (f : FoundRows) (id : Id) (txn moment : ℕ) (login : List ℕ) → is_of (transaction id txn) r ≡ same_transaction (transaction id txn) (transaction id txn)
      → f.transaction ≡ find (is_transaction (transaction id txn)) t.transactions → Stands H (transaction id txn) moment login f.transaction
  stands_so r heard f id txn moment login own found = stands day H r heard t.transactions ts (transaction id txn) moment login f.transaction (own ∙ transaction_itself (transaction id txn)) found

  tells_so : (u : Option UsageRecord) (l : List ℕ) (d : ℕ) → u ≡ find (is_usage l d) t.usage → Tells day default H us l d u
  tells_so u l d found = tells day default H us l d u (usage_at day H t.usage uses l d u found)

  pub decided_is_answer : ((l : List ℕ) (from c : ℕ) (o : Option ℕ) → IsLeastOver day H l from c o → o ≡ over day H l from c) → (r : Request) (f : FoundRows) → IsHeard H r → IsFound day t r f → is_some (id_of r) ≡ true
      → decided default r f ≡ answer day default H r
  decided_is_answer only (Reserve id txn moment login count) f heard found numbered =
      let s = stands_so (Reserve id txn moment login count) heard f id txn moment login refl found.0 in
      let w = tells_so f.usage login (day moment) found.1 in
      let g = governs default H gs t.limits ls login (day moment) f.governing found.2 in
      λ i. if not (s.agreed i) then Mismatch id else (if s.shut i then Closed id else granted_or_full id (w.uses i) (g i) count)
  decided_is_answer only (Settle id txn moment login count) f heard found numbered =
      let s = stands_so (Settle id txn moment login count) heard f id txn moment login refl found.0 in
      λ i. if not (s.agreed i) then Mismatch id else (if s.shut i then Closed id else settled_or_too_many id (s.holds i) count)
  decided_is_answer only (Release id txn moment login) f heard found numbered =
      let s = stands_so (Release id txn moment login) heard f id txn moment login refl found.0 in
      λ i. if not (s.agreed i) then Mismatch id else (if s.shut i then Closed id else Released id (s.holds i))
  decided_is_answer only (Limit id from asked login) f heard found numbered = over_reply day default H us t.usage uses login from asked only id f.over found.0
  decided_is_answer only (Retire id) f heard found numbered = refl
  decided_is_answer only r f heard found numbered = absurd (cc numbered)

  module _ (used_in_range : (l : List ℕ) (d : ℕ) → used day H l d ≤ 1000000) (cap_in_range : (l : List ℕ) (d : ℕ) → cap default H l d ≤ 1000000) where
    fit_here : (r : Request) → IsHeard H r → (f : FoundRows) (id : Id) (txn moment : ℕ) (login : List ℕ) (c : ℕ) → is_of (transaction id txn) r ≡ same_transaction (transaction id txn) (transaction id txn)
        → f.transaction ≡ find (is_transaction (transaction id txn)) t.transactions → f.usage ≡ find (is_usage login (day moment)) t.usage → c ≤ 1000000 → fits_if_open moment login c f.transaction f.usage ≡ true
    fit_here r heard f id txn moment login c own tf uf k =
        let s = stands_so r heard f id txn moment login own tf in
        let w = tells_so f.usage login (day moment) uf in
        let n : used_by f.usage ≤ 1000000 = rw w.uses (used_in_range login (day moment)) in
        fit moment login c f.transaction f.usage n k (λ a. rw (s.holds, w.reserves) (us.held_is_reserved id txn moment login (sym s.agreed ∙ a)))

    pub may_be : (r : Request) (f : FoundRows) → IsHeard H r → IsFound day t r f → IsReply (decided default r f) → may_be_found default r f ≡ true
    may_be (Reserve id txn moment login count) f heard found fits =
        let k : cap_by default f.governing ≤ 1000000 = rw (governs default H gs t.limits ls login (day moment) f.governing found.2) (cap_in_range login (day moment)) in
        fit_here (Reserve id txn moment login count) heard f id txn moment login (cap_by default f.governing) refl found.0 found.1 k
    may_be (Settle id txn moment login count) f heard found fits = fit_here (Settle id txn moment login count) heard f id txn moment login 0 refl found.0 found.1 (omega arith)
    may_be (Release id txn moment login) f heard found fits = fit_here (Release id txn moment login) heard f id txn moment login 0 refl found.0 found.1 (omega arith)
    may_be (Limit id from asked login) f heard found fits = day_over id f.over fits
    may_be r f heard found fits = refl
