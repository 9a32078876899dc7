-- The rows of answers after a retire, and the floors of hosts.
use Rattle.std.proofs.Common.{◌≡◌, ℕ, ◌+◌, ◌-◌, ◌≤◌, List, [], ◌∷◌, ◌++◌, map, length, Bool, true, false, refl, ◌∙◌, ap, sym, arith, find, ◌&&◌, ◌||◌, ◌==◌, nat_lt, nat_le, if◌then◌else◌, Option, Some, None}
use Rattle.mq_rows.proofs.Words.{AreRetired, Entry, Id, Leads, RetiredRecord, Runs, Transaction, and_false, answer_of, answer_row, answer_rows, cleared, cleared_in, floor, found_passes, greater, is_among, is_below, is_host, nat_list_eq_equiv, nat_tests, number_of, raised, raised_to, reply_body, request_body, requests, retire_entry, retired_row, retires, runs_below, same_host, same_text, set_run, text_is, text_itself, those, transaction}
use Rattle.mq_ledger.proofs.Floors.{greater_zero}
use Rattle.mq_rows.proofs.Lists.{find_of_those, insert, update, floors}
use Rattle.mq_rows.proofs.Numbered.{rows_from, some_run}

-- what the ledger's laws say of floors
pub record Floors : Type 0 where
  pub more : (H : List Entry) (e : Entry) (h : List ℕ) → floor (requests (H ++ e ∷ [])) h ≡ greater (floor (requests H) h) (raised h e.request)
  pub below : (H : List Entry) (e : Entry) (id : Id) (txn : ℕ) → is_below (requests (H ++ e ∷ [])) id ≡ (retires e.request (transaction id txn) || is_below (requests H) id)

rows_more : (G : List Entry) (n : ℕ) (H : List Entry) (e : Entry) → rows_from G n (H ++ e ∷ []) ≡ rows_from G n H ++ answer_row G (n + length H) e ∷ []
rows_more G n [] e = ap (λ k. answer_row G k e ∷ []) (omega arith)
rows_more G n (x ∷ H) e = (λ i. answer_row G n x ∷ rows_more G (n + 1) H e i) ∙ ap (λ k. answer_row G n x ∷ (rows_from G (n + 1) H ++ answer_row G k e ∷ [])) (omega arith)

same_rows : (F G : List Entry) (n : ℕ) (H : List Entry) → ((i : Id) → is_below (requests F) i ≡ is_below (requests G) i) → rows_from F n H ≡ rows_from G n H
same_rows F G n [] same = refl
same_rows F G n (x ∷ H) same =
    let one : answer_row F n x ≡ answer_row G n x = (λ i. record { n = n; id = number_of x.request; request = request_body x.request; reply = if same (number_of x.request) i then [] else reply_body x.reply }) in
    (λ i. one i ∷ same_rows F G (n + 1) H same i)

not_less : (n : ℕ) → nat_lt n n ≡ false
not_less n = grind (arith, nat_tests)

-- a cleared reply, and one that was cleared before
clear : (host : Bool) (low high : Bool) (body : List ℕ) (old : Bool) → (host ≡ true → low ≡ false → old ≡ true)
    → (if (host && high) || old then [] else body) ≡ (if host && (low && high) then [] else (if old then [] else body))
clear true true true body old h = refl
clear true true false body old h = refl
clear true false true body old h = rw (h refl refl) refl
clear true false false body old h = refl
clear false low high body old h = refl

pub below_is_to : (n k : ℕ) → 1 ≤ k → nat_lt n k ≡ nat_le n (k - 1)
below_is_to n k some = grind (arith, nat_tests)

module _ (F : Floors) (H : List Entry) (id : Id) (some : 1 ≤ id.run) (above : is_below (requests H) id ≡ false) where
  abbrev after : List Entry
  after = H ++ retire_entry id ∷ []

  abbrev runs : Runs
  runs = runs_below H id

  -- a run of the host below its floor was cleared before
  was_below : (i : Id) → same_text i.host id.host ≡ true → nat_le (floor (requests H) id.host) i.run ≡ false → is_below (requests H) i ≡ true
  was_below i same less =
      let host : i.host ≡ id.host = text_is i.host id.host same in
      let low : floor (requests H) i.host ≡ floor (requests H) id.host = ap (floor (requests H)) host in
      grind (arith, nat_tests, low, less)

  among_is : (i : Id) → is_among runs i.host i.run ≡ (same_text i.host id.host && (nat_le (floor (requests H) id.host) i.run && nat_lt i.run id.run))
  among_is i = λ k. nat_list_eq_equiv.symm id.host i.host k && (nat_le (floor (requests H) id.host) i.run && sym (below_is_to i.run id.run some) k)

  one_row : (n : ℕ) (e : Entry) → answer_row after n e ≡ cleared_in runs (answer_row H n e)
  one_row n e =
      let i : Id = number_of e.request in
      let test : is_below (requests after) i ≡ ((same_text i.host id.host && nat_lt i.run id.run) || is_below (requests H) i) = F.below H (retire_entry id) i 0 in
      let reply : (if is_below (requests after) i then [] else reply_body e.reply) ≡ (if same_text i.host id.host && (nat_le (floor (requests H) id.host) i.run && nat_lt i.run id.run) then [] else (if is_below (requests H) i then [] else reply_body e.reply)) =
      ap (λ b. if b then [] else reply_body e.reply) test ∙ clear (same_text i.host id.host) (nat_le (floor (requests H) id.host) i.run) (nat_lt i.run id.run) (reply_body e.reply) (is_below (requests H) i) (was_below i) in
      (λ k. record { n = n; id = i; request = request_body e.request; reply = reply k })
      ∙ chosen (same_text i.host id.host && (nat_le (floor (requests H) id.host) i.run && nat_lt i.run id.run))
      ∙ ap (λ b. if b then record (answer_row H n e) { reply = [] } else answer_row H n e) (sym (among_is i))
    where
      chosen : (b : Bool) → (record { n = n; id = number_of e.request; request = request_body e.request; reply = if b then [] else (answer_row H n e).reply }) ≡ (if b then record (answer_row H n e) { reply = [] } else answer_row H n e)
      chosen true = refl
      chosen false = refl

  rows_cleared : (n : ℕ) (G : List Entry) → rows_from after n G ≡ map (cleared_in runs) (rows_from H n G)
  rows_cleared n [] = refl
  rows_cleared n (x ∷ G) = λ i. one_row n x i ∷ rows_cleared (n + 1) G i

  -- the retire's own reply stays
  own_row : (n : ℕ) → answer_row after n (retire_entry id) ≡ answer_of n (retire_entry id)
  own_row n =
      let test : is_below (requests after) id ≡ false = F.below H (retire_entry id) id 0 ∙ rw (above, not_less id.run, and_false (same_text id.host id.host)) refl in
      λ k. record { n = n; id = id; request = request_body (retire_entry id).request; reply = if test k then [] else reply_body (retire_entry id).reply }

  pub all_cleared : answer_rows after ≡ cleared (Some runs) (answer_rows H) ++ answer_of (length H + 1) (retire_entry id) ∷ []
  all_cleared =
      rows_more after 1 H (retire_entry id)
      ∙ (λ i. rows_cleared 1 H i ++ own_row (1 + length H) i ∷ [])
      ∙ ap (λ k. cleared (Some runs) (answer_rows H) ++ answer_of k (retire_entry id) ∷ []) (omega arith)

pub other_rows : (F : Floors) (H : List Entry) (e : Entry) → ((t : Transaction) → retires e.request t ≡ false) → is_below (requests H) (number_of e.request) ≡ false
    → answer_rows (H ++ e ∷ []) ≡ answer_rows H ++ answer_of (length H + 1) e ∷ []
other_rows F H e stays above =
    let same : (i : Id) → is_below (requests (H ++ e ∷ [])) i ≡ is_below (requests H) i = λ i. F.below H e i 0 ∙ ap (λ b. b || is_below (requests H) i) (stays (transaction i 0)) in
    let own : (n : ℕ) → answer_row H n e ≡ answer_of n e = (λ n k. record { n = n; id = number_of e.request; request = request_body e.request; reply = if above k then [] else reply_body e.reply }) in
    same_rows (H ++ e ∷ []) H 1 (H ++ e ∷ []) same
    ∙ rows_more H 1 H e
    ∙ (λ i. answer_rows H ++ own (1 + length H) i ∷ [])
    ∙ ap (λ k. answer_rows H ++ answer_of k e ∷ []) (omega arith)

-- Floors.

pub floors_stay : (F : Floors) (H : List Entry) (e : Entry) (rows : List RetiredRecord) → ((h : List ℕ) → raised h e.request ≡ 0) → AreRetired H rows → AreRetired (H ++ e ∷ []) rows
floors_stay F H e rows none are h =
    let same : floor (requests (H ++ e ∷ [])) h ≡ floor (requests H) h = F.more H e h ∙ ap (greater (floor (requests H) h)) (none h) ∙ greater_zero (floor (requests H) h) in
    are h ∙ ap (λ n. those (if n == 0 then None else Some (record { host = h; run = n }))) (sym same)

module _ (F : Floors) (H : List Entry) (id : Id) (above : is_below (requests H) id ≡ false) (some : 1 ≤ id.run) where
  abbrev behind : List Entry
  behind = H ++ retire_entry id ∷ []

  own_floor : floor (requests behind) id.host ≡ id.run
  own_floor = F.more H (retire_entry id) id.host ∙ ap (λ b. greater (floor (requests H) id.host) (if b then id.run else 0)) (text_itself id.host) ∙ grind (arith, nat_tests, above)

  other_floor : (h : List ℕ) → same_text h id.host ≡ false → floor (requests behind) h ≡ floor (requests H) h
  other_floor h f = F.more H (retire_entry id) h ∙ ap (λ b. greater (floor (requests H) h) (if b then id.run else 0)) f ∙ greater_zero (floor (requests H) h)

  own_retired : retired_row behind id.host ≡ Some (record { host = id.host; run = id.run })
  own_retired = ap (λ n. if n == 0 then None else Some (record { host = id.host; run = n })) own_floor ∙ rw (some_run id.run some) refl

  other_retired : (h : List ℕ) → same_text h id.host ≡ false → retired_row behind h ≡ retired_row H h
  other_retired h f = ap (λ n. if n == 0 then None else Some (record { host = h; run = n })) (other_floor h f)

  pub floor_leads : (rows : List RetiredRecord) (found : Option RetiredRecord) → AreRetired H rows → found ≡ find (is_host id.host) rows → Leads same_host set_run (raised_to id found) rows (AreRetired behind)
  floor_leads rows None are e =
      insert floors (retired_row H) (retired_row behind) rows are id.host other_retired (AreRetired behind) (λ _ all. all) (record { host = id.host; run = id.run }) refl
      (sym (e ∙ find_of_those (is_host id.host) rows (retired_row H id.host) (are id.host))) own_retired
  floor_leads rows (Some r) are e =
      let mine : id.host ≡ r.host = text_is id.host r.host (found_passes (is_host id.host) rows r (sym e)) in
      update floors (retired_row H) (retired_row behind) rows are id.host other_retired (AreRetired behind) (λ _ all. all) (record r { run = id.run }) r refl
      (sym (e ∙ find_of_those (is_host id.host) rows (retired_row H id.host) (are id.host))) (own_retired ∙ (λ i. Some (record { host = mine i; run = id.run })))
