-- What one more entry does to the rows of what logins have used.
use Rattle.std.proofs.Common.{◌≡◌, ℕ, ◌+◌, ◌-◌, ◌≤◌, List, [], ◌∷◌, ◌++◌, Bool, true, false, refl, ◌∙◌, ap, sym, inl, inr, arith, ◌&&◌, ◌||◌, ◌==◌, nat_lt, if◌then◌else◌, Option, Some, None, find, Contains}
use Rattle.mq_rows.proofs.Words.{moves, used, AllByRecursion, AreTransactions, AreUsage, Closed, Entry, FoundRows, Granted, Id, IsFound, Leads, Mismatch, Release, Released, Reply, Request, Reserve, Retire, Settle, Settled, Tables, TooMany, Transaction, UsageRecord, agrees, and_false, answer, closed, concerns, either, entry, freed, gained, granted, has_reserve, held, held_by, if_open, if_zero, is_login, is_retire, is_usage, login_on, named, number_is, or_false, or_true, reserved, reserved_by, reserved_more, same_day, same_text, set_usage, settled, settled_by, settled_or_too_many, settles, those, transaction, usage_row, usage_write, used_by}
use Rattle.mq_ledger.specs.History.{freed as ended}
use Rattle.std.proofs.Math.Bool.{and-true}
use Rattle.std.proofs.lemmas.Option.{cond_some}
use Rattle.mq_ledger.proofs.Transactions.{transaction_itself}
use Rattle.mq_rows.proofs.Lists.{insert, update, Key, find_of_those, member_is, one_has, place_itself, same_place, usages}
use Rattle.mq_rows.proofs.Trans.{IsHeard, heard, stands}

-- What the ledger's laws say of one more answer and of what logins have used.
pub record Uses (day : ℕ → ℕ) (default : ℕ) (H : List Entry) : Type 0 where
  pub reserves_more : (e : Entry) (l : List ℕ) (d : ℕ) → e.reply ≡ answer day default H e.request → reserved day (H ++ e ∷ []) l d + ended day H l d e.request e.reply ≡ reserved day H l d + gained day l d e.request e.reply
  pub settled_more : (e : Entry) (l : List ℕ) (d : ℕ) → e.reply ≡ answer day default H e.request → settled day (H ++ e ∷ []) l d ≡ settled day H l d + settles day H l d e.request e.reply
  pub reserve_more : (e : Entry) (l : List ℕ) (d : ℕ) → has_reserve day (H ++ e ∷ []) d l ≡ (has_reserve day H d l || is_login l (login_on day d e.request e.reply))
  pub held_is_reserved : (id : Id) (txn moment : ℕ) (login : List ℕ) → agrees moment login (named H (transaction id txn)) ≡ true → held H (transaction id txn) ≤ reserved day H login (day moment)
  pub none : (l : List ℕ) (d : ℕ) → has_reserve day H d l ≡ false → (reserved day H l d ≡ 0) × (settled day H l d ≡ 0)

abbrev row_at : (ℕ → ℕ) → List Entry → Key → Option UsageRecord
row_at day H k = usage_row day H k.0 k.1

-- the row of a login and day, where there is one
abbrev pub row_of : (ℕ → ℕ) → List Entry → List ℕ → ℕ → UsageRecord
row_of day H l d = record { login = l; day = d; settled = settled day H l d; reserved = reserved day H l d }

pub numbers : (day : ℕ → ℕ) (H : List Entry) (l : List ℕ) (d : ℕ) (u : UsageRecord) → usage_row day H l d ≡ Some u → (has_reserve day H d l ≡ true) × (row_of day H l d ≡ u)
numbers day H l d u h = cond_some (has_reserve day H d l) (row_of day H l d) u h

pub usage_at : (day : ℕ → ℕ) (H : List Entry) (rows : List UsageRecord) → AreUsage day H rows → (l : List ℕ) (d : ℕ) (o : Option UsageRecord) → o ≡ find (is_usage l d) rows → o ≡ usage_row day H l d
usage_at day H rows are l d o found = found ∙ find_of_those (is_usage l d) rows (usage_row day H l d) (are l d)

module _ (day : ℕ → ℕ) (H : List Entry) (rows : List UsageRecord) (are : AreUsage day H rows) where
  -- a row that is there is that of its login and day
  pub member_row : (u : UsageRecord) → Contains rows u → usage_row day H u.login u.day ≡ Some u
  member_row u there = (let mine : is_usage u.login u.day u ≡ true = place_itself (u.login, u.day) in
      member_is (is_usage u.login u.day) rows there.0 u there.1 there.2 mine (usage_row day H u.login u.day) (are u.login u.day))

  -- so its login has a granted reserve on its day
  pub reserved_there : (u : UsageRecord) → Contains rows u → has_reserve day H u.day u.login ≡ true
  reserved_there u there = (numbers day H u.login u.day u (member_row u there)).0

  -- and a login that has one on a day has a row of it
  pub has_row : (l : List ℕ) (d : ℕ) → has_reserve day H d l ≡ true → (P : UsageRecord → Type 0) → AllByRecursion P rows → P (row_of day H l d)
  has_row l d t P all = (let row : usage_row day H l d ≡ Some (row_of day H l d) = rw t refl in one_has (is_usage l d) P rows (row_of day H l d) (are l d ∙ ap those row) all)

is_login_if : (l m : List ℕ) (c : Bool) → is_login l (if c then Some m else None) ≡ (same_text l m && c)
is_login_if l m true = sym (and-true (same_text l m))
is_login_if l m false = sym (and_false (same_text l m))

settled_part : (id id' : Id) (h count n : ℕ) → Settled id' n ≡ settled_or_too_many id h count → count ≤ h
settled_part id id' h count n is = elim (either (nat_lt h count)) [
  | inl t ↦ (let k : Settled id' n ≡ TooMany id h = rw t at is in absurd (cc k))
  | inr f ↦ grind (arith, f)
]

-- a reply that moves something is that of an open transaction
open_reply : (H : List Entry) (id : Id) (txn moment : ℕ) (login : List ℕ) (a b : Reply) → moves b ≡ true → b ≡ if_open H id txn moment login a → (agrees moment login (named H (transaction id txn)) ≡ true) × (b ≡ a)
open_reply H id txn moment login a b m is = elim (either (agrees moment login (named H (transaction id txn)))) [
  | inr f ↦ (let k : b ≡ Mismatch id = rw f at is in absurd (cc (m, ap moves k)))
  | inl t ↦ elim (either (closed H (transaction id txn))) [
    | inl c ↦ (let k : b ≡ Closed id = rw (t, c) at is in absurd (cc (m, ap moves k)))
    | inr c ↦ (let k : b ≡ a = rw (t, c) at is in (t, k))
  ]
]

module _ (day : ℕ → ℕ) (default : ℕ) (H : List Entry) (us : Uses day default H) where
  -- The row of a login and day says what is used.
  pub record Tells (l : List ℕ) (d : ℕ) (u : Option UsageRecord) : Type 0 where
    pub settled_so : settled_by u ≡ settled day H l d
    pub reserves : reserved_by u ≡ reserved day H l d
    pub uses : used_by u ≡ used day H l d

  pub tells : (l : List ℕ) (d : ℕ) (u : Option UsageRecord) → u ≡ usage_row day H l d → Tells l d u
  tells l d u h = elim (either (has_reserve day H d l)) [
    | inl t ↦ (let k : u ≡ Some (row_of day H l d) = h ∙ (rw t refl) in record { settled_so = rw k refl; reserves = rw k refl; uses = rw k refl })
    | inr f ↦ (let k : u ≡ None = h ∙ (rw f refl) in
        let z = us.none l d f in
        let n : used day H l d ≡ 0 = omega (arith, z.0, z.1) in
        record { settled_so = rw k (sym z.1); reserves = rw k (sym z.0); uses = rw k (sym n) })
  ]

  -- a login and day that the entry neither gives nor takes anything
  stays : (e : Entry) (l : List ℕ) (d : ℕ) → e.reply ≡ answer day default H e.request → gained day l d e.request e.reply ≡ 0 → ended day H l d e.request e.reply ≡ 0 → settles day H l d e.request e.reply ≡ 0 → is_login l (login_on day d e.request e.reply) ≡ false → usage_row day (H ++ e ∷ []) l d ≡ usage_row day H l d
  stays e l d a g f s n =
      let r : reserved day (H ++ e ∷ []) l d ≡ reserved day H l d = omega (arith, us.reserves_more e l d a) in
      let t : settled day (H ++ e ∷ []) l d ≡ settled day H l d = omega (arith, us.settled_more e l d a) in
      let b : has_reserve day (H ++ e ∷ []) d l ≡ has_reserve day H d l = us.reserve_more e l d ∙ (rw n (or_false (has_reserve day H d l))) in
      λ i. if b i then Some (record { login = l; day = d; settled = t i; reserved = r i }) else None

  -- A granted reserve.
  module _ (id : Id) (txn moment : ℕ) (login : List ℕ) (count : ℕ) (id' : Id) (n : ℕ) (a : Granted id' n ≡ answer day default H (Reserve id txn moment login count)) where
    abbrev grant : Entry
    grant = entry (Reserve id txn moment login count) (Granted id' n)

    grant_others : (k : Key) → same_place k (login, day moment) ≡ false → row_at day (H ++ grant ∷ []) k ≡ row_at day H k
    grant_others k f = stays grant k.0 k.1 a (rw f refl) refl refl (is_login_if k.0 login (day moment == k.1) ∙ f)

    grant_own : row_at day (H ++ grant ∷ []) (login, day moment) ≡ Some (record { login = login; day = day moment; settled = settled day H login (day moment); reserved = reserved day H login (day moment) + count })
    grant_own =
        let mine : (same_text login login && (day moment == day moment)) ≡ true = place_itself (login, day moment) in
        let g : gained day login (day moment) (Reserve id txn moment login count) (Granted id' n) ≡ count = rw mine refl in
        let r : reserved day (H ++ grant ∷ []) login (day moment) ≡ reserved day H login (day moment) + count = omega (arith, us.reserves_more grant login (day moment) a) in
        let t : settled day (H ++ grant ∷ []) login (day moment) ≡ settled day H login (day moment) = omega (arith, us.settled_more grant login (day moment) a) in
        let i : is_login login (login_on day (day moment) (Reserve id txn moment login count) (Granted id' n)) ≡ true = is_login_if login login (day moment == day moment) ∙ mine in
        let b : has_reserve day (H ++ grant ∷ []) (day moment) login ≡ true = us.reserve_more grant login (day moment) ∙ (rw i (or_true (has_reserve day H (day moment) login))) in
        λ j. if b j then Some (record { login = login; day = day moment; settled = t j; reserved = r j }) else None

    granted_leads : (rows : List UsageRecord) (o : Option UsageRecord) → AreUsage day H rows → o ≡ usage_row day H login (day moment) → Leads same_day set_usage (reserved_more login (day moment) count o) rows (AreUsage day (H ++ grant ∷ []))
    granted_leads rows None are found =
        let w = tells login (day moment) None found in
        let sum : reserved day H login (day moment) + count ≡ count = omega (arith, w.reserves) in
        insert usages (row_at day H) (row_at day (H ++ grant ∷ [])) rows (λ k. are k.0 k.1) (login, day moment) grant_others (AreUsage day (H ++ grant ∷ [])) (λ _ all l d. all (l, d))
        (record { login = login; day = day moment; settled = 0; reserved = count }) refl (sym found) (grant_own ∙ (λ i. Some (record { login = login; day = day moment; settled = sym w.settled_so i; reserved = sum i })))
    granted_leads rows (Some u) are found =
        update usages (row_at day H) (row_at day (H ++ grant ∷ [])) rows (λ k. are k.0 k.1) (login, day moment) grant_others (AreUsage day (H ++ grant ∷ [])) (λ _ all l d. all (l, d))
        (record u { reserved = u.reserved + count }) u refl (sym found) (grant_own ∙ ap (λ (w : UsageRecord). Some (record w { reserved = w.reserved + count })) (numbers day H login (day moment) u (sym found)).1)

  -- A closing.

  -- what an entry does that ends h of what the login has reserved on that day, and settles count of it
  record Closes (e : Entry) (moment : ℕ) (login : List ℕ) (h count : ℕ) : Type 0 where
    reply : e.reply ≡ answer day default H e.request
    grants : granted e.request e.reply ≡ 0
    ends : (l : List ℕ) (d : ℕ) → ended day H l d e.request e.reply ≡ (if same_text l login && (day moment == d) then h else 0)
    settles_so : (l : List ℕ) (d : ℕ) → settles day H l d e.request e.reply ≡ (if same_text l login && (day moment == d) then count else 0)
    no_reserve : (l : List ℕ) (d : ℕ) → is_login l (login_on day d e.request e.reply) ≡ false
    reserved_before : h ≤ reserved day H login (day moment)
    part : count ≤ h

  module _ (e : Entry) (moment : ℕ) (login : List ℕ) (h count : ℕ) (c : Closes e moment login h count) where
    gains : (l : List ℕ) (d : ℕ) → gained day l d e.request e.reply ≡ 0
    gains l d = if_zero (concerns day l d e.request) (granted e.request e.reply) c.grants

    close_others : (k : Key) → same_place k (login, day moment) ≡ false → row_at day (H ++ e ∷ []) k ≡ row_at day H k
    close_others k f = stays e k.0 k.1 c.reply (gains k.0 k.1) (c.ends k.0 k.1 ∙ (rw f refl)) (c.settles_so k.0 k.1 ∙ (rw f refl)) (c.no_reserve k.0 k.1)

    close_own : (u : UsageRecord) → usage_row day H login (day moment) ≡ Some u → row_at day (H ++ e ∷ []) (login, day moment) ≡ Some (record u { settled = u.settled + count; reserved = u.reserved - h })
    close_own u row =
        let x = numbers day H login (day moment) u row in
        let mine : (same_text login login && (day moment == day moment)) ≡ true = place_itself (login, day moment) in
        let f : ended day H login (day moment) e.request e.reply ≡ h = c.ends login (day moment) ∙ (rw mine refl) in
        let n : settles day H login (day moment) e.request e.reply ≡ count = c.settles_so login (day moment) ∙ (rw mine refl) in
        let r : reserved day (H ++ e ∷ []) login (day moment) ≡ reserved day H login (day moment) - h = omega (arith, us.reserves_more e login (day moment) c.reply, gains login (day moment), f) in
        let s : settled day (H ++ e ∷ []) login (day moment) ≡ settled day H login (day moment) + count = us.settled_more e login (day moment) c.reply ∙ ap (λ (n : ℕ). settled day H login (day moment) + n) n in
        let b : has_reserve day (H ++ e ∷ []) (day moment) login ≡ true = us.reserve_more e login (day moment) ∙ (rw (x.0) refl) in
        (λ i. if b i then Some (record { login = login; day = day moment; settled = s i; reserved = r i }) else None)
        ∙ ap (λ (w : UsageRecord). Some (record w { settled = w.settled + count; reserved = w.reserved - h })) x.1

    nothing_leads : (rows : List UsageRecord) → AreUsage day H rows → h ≡ 0 → AreUsage day (H ++ e ∷ []) rows
    nothing_leads rows are z = λ l d. (let n : count ≡ 0 = omega (arith, c.part) in
        let same = stays e l d c.reply (gains l d) (c.ends l d ∙ if_zero (same_text l login && (day moment == d)) h z) (c.settles_so l d ∙ if_zero (same_text l login && (day moment == d)) count n) (c.no_reserve l d) in
        are l d ∙ ap those (sym same))

    closing_leads : (rows : List UsageRecord) (o : Option UsageRecord) → AreUsage day H rows → o ≡ usage_row day H login (day moment) → Leads same_day set_usage (freed count h o) rows (AreUsage day (H ++ e ∷ []))
    closing_leads rows None are found = nothing_leads rows are (omega (arith, c.reserved_before, (tells login (day moment) None found).reserves))
    closing_leads rows (Some u) are found = elim (either (h == 0)) [
      | inl z ↦ rw z (nothing_leads rows are (number_is h 0 z))
      | inr some ↦ rw some (update usages (row_at day H) (row_at day (H ++ e ∷ [])) rows (λ k. are k.0 k.1) (login, day moment) close_others (AreUsage day (H ++ e ∷ [])) (λ _ all l d. all (l, d))
          (record u { settled = u.settled + count; reserved = u.reserved - h }) u refl (sym found) (close_own u (sym found)))
    ]

  -- What one more answer does to the rows.
  pub usage_leads : (t : Tables) (r : Request) (a : Reply) (f : FoundRows) → is_retire r ≡ false → IsHeard H r → a ≡ answer day default H r → AreTransactions day H t.transactions → AreUsage day H t.usage → IsFound day t r f
      → Leads same_day set_usage (usage_write day r a (held_by f.transaction) f.usage) t.usage (AreUsage day (H ++ entry r a ∷ []))
  usage_leads t (Reserve id txn moment login count) (Granted id' n) f plain heard is ts are found =
      granted_leads id txn moment login count id' n is t.usage f.usage are (usage_at day H t.usage are login (day moment) f.usage found.1)
  usage_leads t (Settle id txn moment login count) (Settled id' n) f plain heard is ts are found =
      let T : Transaction = transaction id txn in
      let o = open_reply H id txn moment login (settled_or_too_many id (held H T) count) (Settled id' n) refl is in
      let s = stands day H (Settle id txn moment login count) heard t.transactions ts T moment login f.transaction (transaction_itself T) found.0 in
      let c : Closes (entry (Settle id txn moment login count) (Settled id' n)) moment login (held_by f.transaction) count = record {
        reply = is;
        grants = refl;
        ends = λ l d. ap (λ (n : ℕ). if same_text l login && (day moment == d) then n else 0) (sym s.holds);
        settles_so = λ l d. refl;
        no_reserve = λ l d. refl;
        reserved_before = rw s.holds (us.held_is_reserved id txn moment login o.0);
        part = rw s.holds (settled_part id id' (held H T) count n o.1);
      } in
      closing_leads (entry (Settle id txn moment login count) (Settled id' n)) moment login (held_by f.transaction) count c t.usage f.usage are (usage_at day H t.usage are login (day moment) f.usage found.1)
  usage_leads t (Release id txn moment login) (Released id' n) f plain heard is ts are found =
      let T : Transaction = transaction id txn in
      let o = open_reply H id txn moment login (Released id (held H T)) (Released id' n) refl is in
      let s = stands day H (Release id txn moment login) heard t.transactions ts T moment login f.transaction (transaction_itself T) found.0 in
      let c : Closes (entry (Release id txn moment login) (Released id' n)) moment login (held_by f.transaction) 0 = record {
        reply = is;
        grants = refl;
        ends = λ l d. ap (λ (n : ℕ). if same_text l login && (day moment == d) then n else 0) (sym s.holds);
        settles_so = λ l d. sym (if_zero (same_text l login && (day moment == d)) 0 refl);
        no_reserve = λ l d. refl;
        reserved_before = rw s.holds (us.held_is_reserved id txn moment login o.0);
        part = omega arith;
      } in
      closing_leads (entry (Release id txn moment login) (Released id' n)) moment login (held_by f.transaction) 0 c t.usage f.usage are (usage_at day H t.usage are login (day moment) f.usage found.1)
  usage_leads t (Retire id) a f plain heard is ts are found = absurd (cc plain)
  -- any other answer moves nothing
  usage_leads t r a f plain heard is ts are found = λ l d. are l d ∙ ap those (sym (stays (entry r a) l d is (if_zero (concerns day l d r) 0 refl) refl refl refl))
