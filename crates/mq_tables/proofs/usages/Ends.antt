-- What the queries for the earliest day and for the latest answer of the records.
use Rattle.std.proofs.Common.{◌≡◌, ◌≤◌, ℕ, pos, List, [], ◌∷◌, codes, map, true, false, Option, Contains, refl, sym, ap, ◌∙◌}
use Rattle.mq_tables.proofs.Words.{AllByRecursion, Int, UsageRecord, all_weaker, column, contains_had, everything, int_cmp, listing_schema, same_name, value_cmp-Int}
use Rattle.sqlite_rules.proofs.ListLemmas.{has_contained}
use Rattle.sqlite_rules.proofs.ProbeLemmas.{mapped_has}
use Rattle.mq_rows.specs.Days.{IsOldest, IsNewest}
use Rattle.mq_tables.specs.Days.{one_day_row, IsDayShown, IsFirstDay}
use Rattle.mq_tables.specs.Ledger.{HasLedger}
use Rattle.mq_tables.specs.Tables.{usage_table}
use Rattle.mq_tables.proofs.Finds.{Following, int_same, one_after}
use Rattle.mq_tables.proofs.SelectShape.{Sorting, IsSelect, first_by}
use Rattle.mq_tables.proofs.Parts.{usage_part}
use Rattle.mq_tables.proofs.Selected.{Finding, finds_first}
use Rattle.mq_tables.proofs.TermShape.{field}
use Rattle.mq_tables.proofs.governing.Governing.{latest, not_later, then_nothing}

abbrev pub oldest_text : List ℕ
oldest_text = codes "SELECT day FROM usage ORDER BY day LIMIT 1"

abbrev pub newest_text : List ℕ
newest_text = codes "SELECT day FROM usage ORDER BY day DESC LIMIT 1"

abbrev earliest : Sorting
earliest = record { column = field (codes "day") 1; descending = false }

pub oldest_select : IsSelect oldest_text (first_by earliest usage_table (field (codes "day") 1 ∷ []) [])
unfolding everything listing_schema same_name
oldest_select = record { parsed = refl; statement = refl; timeless = refl; unlisted = refl; known = λ t. refl; short = refl; accepted = λ s t low found. rw (low, found) }

pub newest_select : IsSelect newest_text (first_by latest usage_table (field (codes "day") 1 ∷ []) [])
unfolding everything listing_schema same_name
newest_select = record { parsed = refl; statement = refl; timeless = refl; unlisted = refl; known = λ t. refl; short = refl; accepted = λ s t low found. rw (low, found) }

-- no record is there of which something false holds
none_there : (all : List UsageRecord) → AllByRecursion (λ u. true ≡ false) all → all ≡ []
none_there [] h = refl
none_there (u ∷ all) h = absurd (cc h.0)

contains_day : (all : List UsageRecord) (u : UsageRecord) → Contains all u → Contains (map (λ v. v.day) all) u.day
contains_day all u there = contains_had _ u.day (mapped_has (λ (v : UsageRecord). v.day) all u (has_contained all u there))

pub found_oldest : Finding oldest_text [] HasLedger (λ t. IsDayShown IsOldest t.usage)
found_oldest =
    finds_first oldest_select usage_part [] (λ _. true) (λ u. refl) earliest refl IsOldest (λ u. u.day) one_day_row (λ other u. u.day ≤ other.day)
    (λ t other u low. not_later other.day u.day (rw (value_cmp-Int (pos other.day) (pos u.day), then_nothing (int_cmp (pos other.day) (pos u.day))) at low))
    none_there (λ all u there so first. (contains_day all u there, all_weaker _ (λ v. u.day ≤ v.day) (λ v low. low refl) all first)) (λ u. refl)

pub found_newest : Finding newest_text [] HasLedger (λ t. IsDayShown IsNewest t.usage)
found_newest =
    finds_first newest_select usage_part [] (λ _. true) (λ u. refl) latest refl IsNewest (λ u. u.day) one_day_row (λ other u. other.day ≤ u.day)
    (λ t other u low. not_later u.day other.day (rw (value_cmp-Int (pos u.day) (pos other.day), then_nothing (int_cmp (pos u.day) (pos other.day))) at low))
    none_there (λ all u there so first. (contains_day all u there, all_weaker _ (λ v. v.day ≤ u.day) (λ v low. low refl) all first)) (λ u. refl)

-- ---- what the first row shows

pub day_after : (IsThat : List UsageRecord → Option ℕ → Type 0) → Following (λ t. IsDayShown IsThat t.usage) IsFirstDay (λ t. IsThat t.usage)
day_after IsThat = one_after IsThat one_day_row (λ row d. column row 0 ≡ Int (pos d)) (λ all row u v shown it is. int_same (sym (ap (λ x. column x 0) is) ∙ shown)) (λ t. t.usage)
