-- What the query by a key answers of the records of `usage`, `trans`, `ceiling` and `retired`.
use Rattle.std.proofs.Common.{pos, ◌≡◌, ◌&&◌, ◌==◌, ℕ, ℤ, List, [], ◌∷◌, map, filter, codes, Bool, true, false, refl, sym, ap, ◌∙◌}
use Rattle.mq_tables.proofs.Words.{Int, IsPermutation, LimitRecord, RetiredRecord, Row, TransactionRecord, UsageRecord, and-true, and_parts, column, everything, int_eq, is_host, is_limit, is_transaction, is_usage, listing_schema, same_name, same_text, slice_eq-Decides, unsigned_Decides}
use Rattle.std.specs.Prelude.{not}
use Rattle.mq_tables.specs.Governing.{limit_row, IsLimitShown}
use Rattle.mq_tables.specs.Ledger.{HasLedger, IsCurrent}
use Rattle.mq_tables.specs.Lent.{transaction_key, standing_row, IsTransactionShown, key_params, totals_row, IsShownAs, host_params, floor_row, IsFloorShown}
use Rattle.mq_tables.specs.Records.{bit}
use Rattle.mq_tables.specs.Tables.{trans_table, usage_table, ceiling_table, retired_table}
use Rattle.mq_tables.proofs.Finds.{int_same, blob_same}
use Rattle.mq_tables.proofs.governing.Governing.{limit_is}
use Rattle.mq_tables.proofs.Parts.{transactions_part, usage_part, limits_part, floors_part}
use Rattle.mq_tables.proofs.SelectShape.{IsSelect, unordered}
use Rattle.mq_tables.proofs.Selected.{Finding, finds_all}
use Rattle.mq_tables.proofs.TermShape.{field, against}
use Rattle.mq_tables.proofs.TermShape.Relation.{Same}
use Rattle.mq_tables.proofs.Tests.{text_test, day_test, nat_test}

-- ---- what a login has on a day

abbrev pub usage_text : List ℕ
usage_text = codes "SELECT settled, reserved FROM usage WHERE login = ?1 AND day = ?2"

pub usage_select : IsSelect usage_text (unordered usage_table
    (field (codes "settled") 2 ∷ field (codes "reserved") 3 ∷ [])
    (against (field (codes "login") 0) Same 1 ∷ against (field (codes "day") 1) Same 2 ∷ []))
unfolding everything listing_schema same_name
usage_select = record { parsed = refl; statement = refl; timeless = refl; unlisted = refl; known = λ t. refl; short = refl; accepted = λ s t low found. rw (low, found) }

module _ (login : List ℕ) (day : ℕ) where
  pub usage_found : Finding usage_text (key_params login day) HasLedger (λ t rows. IsPermutation (map totals_row (filter (is_usage login day) t.usage)) rows)
  usage_found = finds_all usage_select usage_part (key_params login day) (is_usage login day)
      (λ u. rw (text_test u.login login, day_test u.day day) (ap (λ b. same_text login u.login && b) (and-true (u.day == day)))) refl

  usage_keyed : (u : UsageRecord) → is_usage login day u ≡ true → (login ≡ u.login) × (day ≡ u.day)
  usage_keyed u hit = let both = and_parts _ _ hit in ((slice_eq-Decides unsigned_Decides login u.login _ refl).0 both.0, sym ((unsigned_Decides u.day day).0 both.1))

  pub usage_is : (row : Row) (u v : UsageRecord) → IsShownAs login day row u → is_usage login day v ≡ true → row ≡ totals_row v → v ≡ u
  usage_is row u v shown hit is =
      let key = usage_keyed v hit in
      let settled : v.settled ≡ u.settled = int_same (sym (ap (λ r. column r 0) is) ∙ shown.settled) in
      let reserved : v.reserved ≡ u.reserved = int_same (sym (ap (λ r. column r 1) is) ∙ shown.reserved) in
      λ i. record { login = (sym key.0 ∙ sym shown.login) i; day = (sym key.1 ∙ sym shown.day) i; settled = settled i; reserved = reserved i }

-- ---- transactions

abbrev pub transaction_text : List ℕ
transaction_text = codes "SELECT login, moment, day, held, settled, closed FROM trans WHERE host = ?1 AND run = ?2 AND txn = ?3"

pub transaction_select : IsSelect transaction_text (unordered trans_table
    (field (codes "login") 3 ∷ field (codes "moment") 4 ∷ field (codes "day") 5 ∷ field (codes "held") 6 ∷ field (codes "settled") 7 ∷ field (codes "closed") 8 ∷ [])
    (against (field (codes "host") 0) Same 1 ∷ against (field (codes "run") 1) Same 2 ∷ against (field (codes "txn") 2) Same 3 ∷ []))
unfolding everything listing_schema same_name
transaction_select = record { parsed = refl; statement = refl; timeless = refl; unlisted = refl; known = λ t. refl; short = refl; accepted = λ s t low found. rw (low, found) }

whole_same : {x y : ℤ} → Int x ≡ Int y → x ≡ y
whole_same e = cc

bit_same : (b : Bool) (n : ℤ) → Int (pos (bit b)) ≡ Int n → b ≡ not (int_eq n (pos 0))
bit_same true n e = ap (λ m. not (int_eq m (pos 0))) (whole_same e)
bit_same false n e = ap (λ m. not (int_eq m (pos 0))) (whole_same e)

module _ (host : List ℕ) (run txn : ℕ) where
  abbrev is_of : TransactionRecord → Bool
  is_of = is_transaction (record { host = host; run = run; txn = txn })

  pub transaction_found : Finding transaction_text (transaction_key host run txn) HasLedger (λ t rows. IsPermutation (map standing_row (filter is_of t.transactions)) rows)
  transaction_found = finds_all transaction_select transactions_part (transaction_key host run txn) is_of
      (λ r. rw (text_test r.host host, nat_test r.run run, nat_test r.txn txn) (ap (λ b. same_text host r.host && b) (ap (λ b. (run == r.run) && b) (and-true (txn == r.txn))))) refl

  transaction_keyed : (t : TransactionRecord) → is_of t ≡ true → (host ≡ t.host) × (run ≡ t.run) × (txn ≡ t.txn)
  transaction_keyed t hit =
      let both = and_parts _ _ hit in
      let rest = and_parts _ _ both.1 in
      ((slice_eq-Decides unsigned_Decides host t.host _ refl).0 both.0, (unsigned_Decides run t.run).0 rest.0, (unsigned_Decides txn t.txn).0 rest.1)

  pub transaction_is : (row : Row) (u v : TransactionRecord) → IsTransactionShown host run txn row u → is_of v ≡ true → row ≡ standing_row v → v ≡ u
  transaction_is row u v shown hit is =
      let key = transaction_keyed v hit in
      let login : v.login ≡ u.login = blob_same (sym (ap (λ r. column r 0) is) ∙ shown.login) in
      let moment : v.moment ≡ u.moment = int_same (sym (ap (λ r. column r 1) is) ∙ shown.moment) in
      let day : v.day ≡ u.day = int_same (sym (ap (λ r. column r 2) is) ∙ shown.day) in
      let held : v.held ≡ u.held = int_same (sym (ap (λ r. column r 3) is) ∙ shown.held) in
      let settled : v.settled ≡ u.settled = int_same (sym (ap (λ r. column r 4) is) ∙ shown.settled) in
      let closed : v.closed ≡ u.closed = bit_same v.closed shown.closed.0 (sym (ap (λ r. column r 5) is) ∙ shown.closed.1) ∙ sym shown.closed.2 in
      λ i. record {
        host = (sym key.0 ∙ sym shown.host) i;
        run = (sym key.1 ∙ sym shown.run) i;
        txn = (sym key.2 ∙ sym shown.txn) i;
        login = login i;
        moment = moment i;
        day = day i;
        held = held i;
        settled = settled i;
        closed = closed i;
      }

-- ---- limits

abbrev pub ceiling_text : List ℕ
ceiling_text = codes "SELECT day, cap FROM ceiling WHERE login = ?1 AND day = ?2"

pub ceiling_select : IsSelect ceiling_text (unordered ceiling_table
    (field (codes "day") 1 ∷ field (codes "cap") 2 ∷ [])
    (against (field (codes "login") 0) Same 1 ∷ against (field (codes "day") 1) Same 2 ∷ []))
unfolding everything listing_schema same_name
ceiling_select = record { parsed = refl; statement = refl; timeless = refl; unlisted = refl; known = λ t. refl; short = refl; accepted = λ s t low found. rw (low, found) }

module _ (login : List ℕ) (day : ℕ) where
  pub limit_found : Finding ceiling_text (key_params login day) HasLedger (λ t rows. IsPermutation (map limit_row (filter (is_limit login day) t.limits)) rows)
  limit_found = finds_all ceiling_select limits_part (key_params login day) (is_limit login day)
      (λ c. rw (text_test c.login login, day_test c.day day) (ap (λ b. same_text login c.login && b) (and-true (c.day == day)))) refl

  limit_keyed : (c : LimitRecord) → is_limit login day c ≡ true → login ≡ c.login
  limit_keyed c hit = (slice_eq-Decides unsigned_Decides login c.login _ refl).0 (and_parts _ _ hit).0

  pub limit_so : (row : Row) (u v : LimitRecord) → IsLimitShown login row u → is_limit login day v ≡ true → row ≡ limit_row v → v ≡ u
  limit_so row u v shown hit is = limit_is login day row u v shown (limit_keyed v hit) is

-- ---- floors

abbrev pub floor_text : List ℕ
floor_text = codes "SELECT run FROM retired WHERE host = ?1"

pub floor_select : IsSelect floor_text (unordered retired_table (field (codes "run") 1 ∷ []) (against (field (codes "host") 0) Same 1 ∷ []))
unfolding everything listing_schema same_name
floor_select = record { parsed = refl; statement = refl; timeless = refl; unlisted = refl; known = λ t. refl; short = refl; accepted = λ s t low found. rw (low, found) }

module _ (host : List ℕ) where
  pub floor_found : Finding floor_text (host_params host) (λ db t. HasLedger db t × IsCurrent t) (λ t rows. IsPermutation (map floor_row (filter (is_host host) t.retired)) rows)
  floor_found = finds_all floor_select floors_part (host_params host) (is_host host)
      (λ r. rw (text_test r.host host) (and-true (same_text host r.host))) refl

  pub floor_is : (row : Row) (u v : RetiredRecord) → IsFloorShown host row u → is_host host v ≡ true → row ≡ floor_row v → v ≡ u
  floor_is row u v shown hit is =
      let same : host ≡ v.host = (slice_eq-Decides unsigned_Decides host v.host _ refl).0 hit in
      let run : v.run ≡ u.run = int_same (sym (ap (λ r. column r 0) is) ∙ shown.run) in
      λ i. record { host = (sym same ∙ sym shown.host) i; run = run i }
