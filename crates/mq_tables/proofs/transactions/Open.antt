-- What the query of the open transactions of runs answers of the records, and what is made of its rows.
use Rattle.std.proofs.Common.{pos, ◌≡◌, ◌<◌, ◌+◌, ◌&&◌, ℕ, List, [], ◌∷◌, ◌++◌, ◌==◌, length, take, get_or, map, filter, codes, Bool, true, false, Ok, Err, Result, refl, sym, ap, ap₂, subst, ◌∙◌}
use Rattle.std.specs.Prelude.{not, All, nat_le}
use Rattle.mq_tables.proofs.Words.{AllByRecursion, Blob, Error, Global, IfOk, Int, IsPermutation, IsPermutation-sym, Row, Tables, TransactionRecord, Vec, all_from, and-true, and_parts, everything, has_filtered, listing_schema, not-true, same_name, same_text, slice_eq-Decides, unsigned_Decides}
use Rattle.std.proofs.lemmas.List.{map-append, take_more}
use Rattle.std.proofs.lemmas.List.Elements.{All-push, recursion_from_All}
use Rattle.mq_rows.specs.declared.plan.Runs.{Runs}
use Rattle.mq_rows.specs.Plan.{is_open_in}
use Rattle.mq_rows.specs.Storable.{IsStorable}
use Rattle.mq_tables.specs.Ledger.{HasLedger}
use Rattle.mq_tables.specs.Retiring.{open_params, open_row, open_columns, IsOpenRead, IsOpenOf}
use Rattle.mq_tables.specs.Records.{bit}
use Rattle.mq_tables.specs.Tables.{trans_table}
use Rattle.mq_tables.proofs.Finds.{same_read}
use Rattle.mq_tables.proofs.SelectShape.{IsSelect, unordered}
use Rattle.mq_tables.proofs.TermShape.{field, against}
use Rattle.mq_tables.proofs.Parts.{transactions_part}
use Rattle.mq_tables.proofs.Selected.{Finding, finds_all}
use Rattle.mq_tables.proofs.TermShape.Relation.{Same, AtMost, AtLeast}
use Rattle.mq_tables.proofs.Tests.{text_test, nat_test, from_test, until_test}

abbrev pub open_text : List ℕ
open_text = codes "SELECT run, txn, login, moment, day, held, settled FROM trans WHERE host = ?1 AND run >= ?2 AND run <= ?3 AND closed = ?4"

pub open_select : IsSelect open_text (unordered trans_table
    (field (codes "run") 1 ∷ field (codes "txn") 2 ∷ field (codes "login") 3 ∷ field (codes "moment") 4 ∷ field (codes "day") 5 ∷ field (codes "held") 6 ∷ field (codes "settled") 7 ∷ [])
    (against (field (codes "host") 0) Same 1 ∷ against (field (codes "run") 1) AtLeast 2 ∷ against (field (codes "run") 1) AtMost 3 ∷ against (field (codes "closed") 8) Same 4 ∷ []))
unfolding everything listing_schema same_name
open_select = record { parsed = refl; statement = refl; timeless = refl; unlisted = refl; known = λ t. refl; short = refl; accepted = λ s t low found. rw (low, found) }

-- a transaction that isn't closed has 0 there
shut_test : (c : Bool) → (0 == bit c) ≡ not c
shut_test true = refl
shut_test false = refl

module _ (runs : Runs) where
  pub found_all : Finding open_text (open_params runs) HasLedger (λ t rows. IsPermutation (map open_row (filter (is_open_in runs) t.transactions)) rows)
  found_all =
      finds_all open_select transactions_part (open_params runs) (is_open_in runs)
      (λ r. rw (text_test r.host runs.host, from_test r.run runs.from, until_test r.run runs.to, nat_test (bit r.closed) 0, shut_test r.closed)
      (ap (λ b. same_text runs.host r.host && b) (ap (λ b. nat_le runs.from r.run && b) (ap (λ b. nat_le r.run runs.to && b) (and-true (not r.closed)))))) refl

-- ---- the records that rows of open transactions stand for

pub opens_more : (h : List ℕ) (row : Row) (t : TransactionRecord) → IsOpenRead h row t → open_columns row ≡ open_row t
opens_more h row t is = λ i. is.run i ∷ is.txn i ∷ is.login i ∷ is.moment i ∷ is.day i ∷ is.held i ∷ is.settled i ∷ []

abbrev open_back : List ℕ → Row → TransactionRecord
open_back h (Int (pos r) ∷ Int (pos x) ∷ Blob l ∷ Int (pos m) ∷ Int (pos d) ∷ Int (pos n) ∷ Int (pos s) ∷ []) =
    record { host = h; run = r; txn = x; login = l; moment = m; day = d; held = n; settled = s; closed = false }
open_back h _ = record { host = h; run = 0; txn = 0; login = []; moment = 0; day = 0; held = 0; settled = 0; closed = false }

back_is : (h : List ℕ) (x : TransactionRecord) → IsOpenOf h x → open_back h (open_row x) ≡ x
back_is h x good = λ i. record { host = sym good.0 i; run = x.run; txn = x.txn; login = x.login; moment = x.moment; day = x.day; held = x.held; settled = x.settled; closed = sym good.1 i }

-- those that pass are open and the host's
open_so : (runs : Runs) (t : TransactionRecord) → is_open_in runs t ≡ true → IsOpenOf runs.host t
open_so runs t hit =
    let a = and_parts _ _ hit in
    let b = and_parts _ _ a.1 in
    let c = and_parts _ _ b.1 in
    (sym ((slice_eq-Decides unsigned_Decides runs.host t.host _ refl).0 a.0), not-true t.closed c.1)

kept_open : (runs : Runs) (all : List TransactionRecord) → AllByRecursion (IsOpenOf runs.host) (filter (is_open_in runs) all)
kept_open runs all = all_from _ _ (λ t there. open_so runs t (has_filtered (is_open_in runs) all t there).1)

pub opens_read : (runs : Runs) (Held : Tables → Type 0) (rows : List Row) (outcome : Result (Vec TransactionRecord Global) Error) → ((t : Tables) → Held t → IsPermutation (map open_row (filter (is_open_in runs) t.transactions)) rows)
    → IfOk outcome (λ read. map open_columns rows ≡ map open_row read.items) → IfOk outcome (λ read. All (IsOpenOf runs.host) read.items)
    → IfOk outcome (λ read. (t : Tables) → Held t → IsPermutation read.items (filter (is_open_in runs) t.transactions))
opens_read runs Held rows (Ok read) same is open_all = λ t l.
    let these : List TransactionRecord = filter (is_open_in runs) t.transactions in
    IsPermutation-sym _ _ (same_read (IsOpenOf runs.host) open_row open_columns (open_back runs.host) (λ x. refl) (back_is runs.host) rows these read.items (kept_open runs t.transactions)
    (recursion_from_All (IsOpenOf runs.host) read.items open_all) (same t l) is)
opens_read runs Held rows (Err e) same is open_all = tt

-- one row more was read
pub opens_one_more : (h : List ℕ) (rows : List Row) (i : ℕ) (row d : Row) (read after : List TransactionRecord) (t : TransactionRecord) → i < length rows → row ≡ get_or rows i d → after ≡ read ++ t ∷ [] → IsOpenRead h row t → IsStorable t
    → (map open_columns (take i rows) ≡ map open_row read) × All (IsOpenOf h) read × All IsStorable read → (map open_columns (take (i + 1) rows) ≡ map open_row after) × All (IsOpenOf h) after × All IsStorable after
opens_one_more h rows i row d read after t low item pushed is storable (same, open_all, storable_all) =
    let one : open_columns (get_or rows i d) ≡ open_row t = ap open_columns (sym item) ∙ opens_more h row t is in
    let whole : map open_columns (take (i + 1) rows) ≡ map open_row (read ++ t ∷ []) =
    ap (map open_columns) (take_more rows i d low) ∙ map-append open_columns (take i rows) (get_or rows i d ∷ []) ∙ ap₂ (λ xs x. xs ++ x ∷ []) same one ∙ sym (map-append open_row read (t ∷ [])) in
    subst (λ (xs : List TransactionRecord). (map open_columns (take (i + 1) rows) ≡ map open_row xs) × All (IsOpenOf h) xs × All IsStorable xs) (sym pushed)
    (whole, All-push (IsOpenOf h) read t open_all (is.host, is.closed), All-push IsStorable read t storable_all storable)
