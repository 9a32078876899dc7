-- What the query for the next row of a day answers of the records.
use Rattle.std.proofs.Common.{◌≡◌, ◌==◌, ◌&&◌, ℕ, zero, suc, Ordering, Less, Equal, Greater, List, [], ◌∷◌, codes, true, false, arith, refl, sym, ap, ◌∙◌}
use Rattle.mq_tables.proofs.Words.{Row, UsageRecord, and-true, and_parts, column, everything, is_ge, is_lt, listing_schema, nat_cmp, nat_cmp_is, ordering_reverse, ordering_then, same_name, unsigned_Decides, value_cmp-Blob}
use Rattle.std.specs.Cmp.Lexicographic.{slice_cmp}
use Rattle.std.proofs.lemmas.Cmp.{nat_cmp_total}
use Rattle.mq_ledger.specs.Page.{below}
use Rattle.mq_rows.specs.Listing.{is_above, IsNext}
use Rattle.mq_tables.specs.Ledger.{HasLedger}
use Rattle.mq_tables.specs.Paging.{just_above, from_params, next_row, IsNextShown, IsOfDayShown, IsFirstOfDay}
use Rattle.mq_tables.specs.Tables.{usage_table}
use Rattle.mq_tables.proofs.Finds.{Following, int_same, blob_same, one_after}
use Rattle.mq_tables.proofs.SelectShape.{Sorting, IsSelect, first_by}
use Rattle.mq_tables.proofs.Parts.{usage_part}
use Rattle.mq_tables.proofs.Selected.{Finding, finds_first}
use Rattle.mq_tables.proofs.TermShape.{field, against}
use Rattle.mq_tables.proofs.TermShape.Relation.{Same, AtLeast}
use Rattle.mq_tables.proofs.Tests.{nat_test, at_least_test}
use Rattle.mq_tables.proofs.governing.Governing.{then_nothing}

abbrev pub next_text : List ℕ
next_text = codes "SELECT login, settled, reserved FROM usage WHERE day = ?1 AND login >= ?2 ORDER BY login LIMIT 1"

abbrev by_login : Sorting
by_login = record { column = field (codes "login") 0; descending = false }

pub next_select : IsSelect next_text (first_by by_login usage_table
    (field (codes "login") 0 ∷ field (codes "settled") 2 ∷ field (codes "reserved") 3 ∷ [])
    (against (field (codes "day") 1) Same 1 ∷ against (field (codes "login") 0) AtLeast 2 ∷ []))
unfolding everything listing_schema same_name
next_select = record { parsed = refl; statement = refl; timeless = refl; unlisted = refl; known = λ t. refl; short = refl; accepted = λ s t low found. rw (low, found) }

first_differs : (o : Ordering) (a b : Ordering) → is_ge a ≡ is_lt b → is_ge (ordering_then o a) ≡ is_lt (ordering_then (ordering_reverse o) b)
first_differs Less a b same = refl
first_differs Equal a b same = same
first_differs Greater a b same = refl

above_zero : (x : ℕ) → nat_cmp (suc x) 0 ≡ Greater
above_zero x = sym (nat_cmp_is (suc x) 0 Greater (omega arith))

-- no text lies between a text and the one just above it
from_just_above : (a after : List ℕ) → is_ge (slice_cmp nat_cmp a (just_above after)) ≡ is_lt (slice_cmp nat_cmp after a)
from_just_above [] [] = refl
from_just_above [] (y ∷ after) = refl
from_just_above (zero ∷ []) [] = refl
from_just_above (zero ∷ (z ∷ a)) [] = refl
from_just_above (suc x ∷ a) [] = rw (above_zero x) refl
from_just_above (x ∷ a) (y ∷ after) =
    first_differs (nat_cmp x y) _ _ (from_just_above a after) ∙ ap (λ o. is_lt (ordering_then o (slice_cmp nat_cmp after a))) (sym (nat_cmp_total.antisymm y x))

module _ (day : ℕ) (after : List ℕ) where
  pub found_next : Finding next_text (from_params day (just_above after)) HasLedger (λ t. IsNextShown day after t.usage)
  found_next =
      finds_first next_select usage_part (from_params day (just_above after)) (is_above day after)
      (λ u. rw (nat_test u.day day, at_least_test u.login (just_above after), from_just_above u.login after) (ap (λ b. (day == u.day) && b) (and-true (below after u.login))))
      by_login refl (IsNext day after) (λ u. u) next_row (λ other u. below other.login u.login ≡ false)
      (λ t other u low. rw (value_cmp-Blob other.login u.login, then_nothing (slice_cmp nat_cmp other.login u.login)) at low)
      (λ all none. none) (λ all u there above first. (there, above, first)) (λ u. refl)

  -- the row shows that record, whose day is known
  shown_is : (row : Row) (u v : UsageRecord) → IsOfDayShown day row u → day ≡ v.day → row ≡ next_row v → v ≡ u
  shown_is row u v shown key is =
      let login : v.login ≡ u.login = blob_same (sym (ap (λ r. column r 0) is) ∙ shown.login) in
      let settled : v.settled ≡ u.settled = int_same (sym (ap (λ r. column r 1) is) ∙ shown.settled) in
      let reserved : v.reserved ≡ u.reserved = int_same (sym (ap (λ r. column r 2) is) ∙ shown.reserved) in
      λ i. record { login = login i; day = (sym key ∙ sym shown.day) i; settled = settled i; reserved = reserved i }

  pub of_day : (u : UsageRecord) → is_above day after u ≡ true → day ≡ u.day
  of_day u hit = (unsigned_Decides day u.day).0 (and_parts _ _ hit).0

  pub next_after : Following (λ t. IsNextShown day after t.usage) (IsFirstOfDay day) (λ t. IsNext day after t.usage)
  next_after = one_after (IsNext day after) next_row (IsOfDayShown day) (λ all row u v shown it is. shown_is row u v shown (of_day v it.1) is) (λ t. t.usage)
