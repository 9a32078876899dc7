-- What the queries for the earliest and the latest day of transactions answer of the records.
use Rattle.std.proofs.Common.{◌≡◌, ◌≤◌, ℕ, pos, nat_le, List, [], ◌∷◌, codes, true, false, Option, refl, sym, ap, ◌∙◌}
use Rattle.mq_tables.proofs.Words.{Int, TransactionRecord, and-true, column, everything, int_cmp, leb-true, listing_schema, same_name, value_cmp-Int}
use Rattle.mq_tables.specs.Days.{one_day_row, IsFirstDay}
use Rattle.mq_tables.specs.Ledger.{HasLedger}
use Rattle.mq_tables.specs.Tables.{trans_table}
use Rattle.mq_tables.specs.TransactionDays.{day_params, is_until, IsDayUntilShown, IsOldestUntil, IsNewestUntil}
use Rattle.mq_tables.proofs.Finds.{Following, int_same, one_after}
use Rattle.mq_tables.proofs.SelectShape.{Sorting, IsSelect, first_by}
use Rattle.mq_tables.proofs.Parts.{transactions_part}
use Rattle.mq_tables.proofs.Selected.{Finding, finds_first}
use Rattle.mq_tables.proofs.TermShape.{field, against}
use Rattle.mq_tables.proofs.TermShape.Relation.{AtMost}
use Rattle.mq_tables.proofs.Tests.{until_test}
use Rattle.mq_tables.proofs.governing.Governing.{not_later, then_nothing}

abbrev pub oldest_text : List ℕ
oldest_text = codes "SELECT day FROM trans WHERE day <= ?1 ORDER BY day LIMIT 1"

abbrev pub newest_text : List ℕ
newest_text = codes "SELECT day FROM trans WHERE day <= ?1 ORDER BY day DESC LIMIT 1"

abbrev earliest : Sorting
earliest = record { column = field (codes "day") 5; descending = false }

abbrev latest : Sorting
latest = record { column = field (codes "day") 5; descending = true }

pub oldest_select : IsSelect oldest_text (first_by earliest trans_table (field (codes "day") 5 ∷ []) (against (field (codes "day") 5) AtMost 1 ∷ []))
unfolding everything listing_schema same_name
oldest_select = record { parsed = refl; statement = refl; timeless = refl; unlisted = refl; known = λ t. refl; short = refl; accepted = λ s t low found. rw (low, found) }

pub newest_select : IsSelect newest_text (first_by latest trans_table (field (codes "day") 5 ∷ []) (against (field (codes "day") 5) AtMost 1 ∷ []))
unfolding everything listing_schema same_name
newest_select = record { parsed = refl; statement = refl; timeless = refl; unlisted = refl; known = λ t. refl; short = refl; accepted = λ s t low found. rw (low, found) }

module _ (until : ℕ) where
  pub found_oldest : Finding oldest_text (day_params until) HasLedger (λ t. IsDayUntilShown (IsOldestUntil until) t.transactions)
  found_oldest =
      finds_first oldest_select transactions_part (day_params until) (is_until until) (λ u. rw (until_test u.day until) (and-true (nat_le u.day until)))
      earliest refl (IsOldestUntil until) (λ u. u.day) one_day_row (λ other u. u.day ≤ other.day)
      (λ t other u low. not_later other.day u.day (rw (value_cmp-Int (pos other.day) (pos u.day), then_nothing (int_cmp (pos other.day) (pos u.day))) at low))
      (λ all none. none) (λ all u there is first. ((u, there, refl), leb-true u.day until is, first)) (λ u. refl)

  pub found_newest : Finding newest_text (day_params until) HasLedger (λ t. IsDayUntilShown (IsNewestUntil until) t.transactions)
  found_newest =
      finds_first newest_select transactions_part (day_params until) (is_until until) (λ u. rw (until_test u.day until) (and-true (nat_le u.day until)))
      latest refl (IsNewestUntil until) (λ u. u.day) one_day_row (λ other u. other.day ≤ u.day)
      (λ t other u low. not_later u.day other.day (rw (value_cmp-Int (pos u.day) (pos other.day), then_nothing (int_cmp (pos u.day) (pos other.day))) at low))
      (λ all none. none) (λ all u there is last. ((u, there, refl), leb-true u.day until is, last)) (λ u. refl)

-- ---- what the first row shows

pub day_after : (IsThat : List TransactionRecord → Option ℕ → Type 0) → Following (λ t. IsDayUntilShown IsThat t.transactions) IsFirstDay (λ t. IsThat t.transactions)
day_after IsThat = one_after IsThat one_day_row (λ row d. column row 0 ≡ Int (pos d)) (λ all row u v shown it is. int_same (sym (ap (λ x. column x 0) is) ∙ shown)) (λ t. t.transactions)
