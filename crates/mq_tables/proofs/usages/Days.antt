-- What the query for a login's days answers of the records.
use Rattle.std.proofs.Common.{◌≡◌, inl, inr, ℕ, ◌≤◌, ◌&&◌, nat_le, List, [], ◌∷◌, codes, map, filter, true, false, true≢false, Option, Some, None, refl, sym, ap, ap₂, subst, ◌∙◌}
use Rattle.mq_tables.proofs.Words.{AllByRecursion, Has, IsPermutation, IsPermutation-sym, Row, UsageRecord, all-permutation, all_from_map, all_weaker, and-true, and_parts, cases_Bool, column, contains_had, everything, listing_schema, same_name, same_text, slice_eq-Decides, unsigned_Decides}
use Rattle.sqlite_rules.proofs.ListLemmas.{all_has}
use Rattle.mq_rows.specs.Found.{is_over, IsFirstOver}
use Rattle.mq_tables.specs.declared.over.DayTotals.{DayTotals}
use Rattle.mq_tables.specs.Ledger.{HasLedger}
use Rattle.mq_tables.specs.Lent.{key_params}
use Rattle.mq_tables.specs.Over.{day_row, is_from, is_past, totals_of, IsTotalsShown, IsFirstShown}
use Rattle.mq_tables.specs.Tables.{usage_table}
use Rattle.mq_tables.proofs.Finds.{Following, follows, int_same, shown_of}
use Rattle.mq_tables.proofs.Firsts.{all_of_filtered}
use Rattle.mq_tables.proofs.SelectShape.{IsSelect, unordered}
use Rattle.mq_tables.proofs.TermShape.{field, against}
use Rattle.mq_tables.proofs.Parts.{usage_part}
use Rattle.mq_tables.proofs.Selected.{Finding, finds_all}
use Rattle.mq_tables.proofs.TermShape.Relation.{Same, AtLeast}
use Rattle.mq_tables.proofs.Tests.{text_test, from_test}

abbrev pub days_text : List ℕ
days_text = codes "SELECT day, settled, reserved FROM usage WHERE login = ?1 AND day >= ?2"

pub days_select : IsSelect days_text (unordered usage_table
    (field (codes "day") 1 ∷ field (codes "settled") 2 ∷ field (codes "reserved") 3 ∷ [])
    (against (field (codes "login") 0) Same 1 ∷ against (field (codes "day") 1) AtLeast 2 ∷ []))
unfolding everything listing_schema same_name
days_select = record { parsed = refl; statement = refl; timeless = refl; unlisted = refl; known = λ t. refl; short = refl; accepted = λ s t low found. rw (low, found) }

-- the row of a record shows its numbers
totals_are : (row : Row) (d : DayTotals) (v : UsageRecord) → IsTotalsShown row d → row ≡ day_row v → d ≡ totals_of v
totals_are row d v shown is =
    let day : d.day ≡ v.day = int_same (sym shown.day ∙ ap (λ r. column r 0) is) in
    let settled : d.settled ≡ v.settled = int_same (sym shown.settled ∙ ap (λ r. column r 1) is) in
    let reserved : d.reserved ≡ v.reserved = int_same (sym shown.reserved ∙ ap (λ r. column r 2) is) in
    λ i. record { day = day i; settled = settled i; reserved = reserved i }

module _ (login : List ℕ) (from : ℕ) where
  pub found_all : Finding days_text (key_params login from) HasLedger (λ t rows. IsPermutation (map day_row (filter (is_from login from) t.usage)) rows)
  found_all =
      finds_all days_select usage_part (key_params login from) (is_from login from)
      (λ u. rw (text_test u.login login, from_test u.day from) (ap (λ b. same_text login u.login && b) (and-true (nat_le from u.day)))) refl

  -- what is said of each row is said of each of the login's days from that one on
  of_rows : (P : DayTotals → Type 0) (all : List UsageRecord) (rows : List Row) → IsPermutation (map day_row (filter (is_from login from) all)) rows
      → AllByRecursion (λ row. (d : DayTotals) × IsTotalsShown row d × P d) rows → AllByRecursion (λ u. is_from login from u ≡ true → P (totals_of u)) all
  of_rows P all rows same each =
      let back = all-permutation _ _ _ (IsPermutation-sym _ _ same) each in
      all_of_filtered (is_from login from) (λ u. P (totals_of u)) all
      (all_weaker _ (λ u. P (totals_of u)) (λ u it. subst P (totals_are (day_row u) it.0 u it.1 refl) it.2) (filter (is_from login from) all) (all_from_map _ day_row (filter (is_from login from) all) back))

  over_parts : (cap : ℕ) (u : UsageRecord) → is_over login from cap u ≡ true → (is_from login from u ≡ true) × (is_past cap (totals_of u) ≡ true)
  over_parts cap u hit =
      let one = and_parts _ _ hit in
      let two = and_parts _ _ one.1 in
      (ap₂ (λ x y. x && y) one.0 two.0, two.1)

  over_whole : (cap : ℕ) (u : UsageRecord) → is_from login from u ≡ true → is_past cap (totals_of u) ≡ true → is_over login from cap u ≡ true
  over_whole cap u p q = let one = and_parts _ _ p in ap₂ (λ x y. x && y) one.0 (ap₂ (λ x y. x && y) one.1 q)

  not_over : (cap : ℕ) (u : UsageRecord) → (is_from login from u ≡ true → is_past cap (totals_of u) ≡ false) → is_over login from cap u ≡ false
  not_over cap u low = elim (cases_Bool (is_over login from cap u)) [ inl is ↦ (let it = over_parts cap u is in absurd (true≢false (sym it.1 ∙ low it.0))) | inr other ↦ other ]

  keyed : (u : UsageRecord) → is_from login from u ≡ true → login ≡ u.login
  keyed u hit = (slice_eq-Decides unsigned_Decides login u.login _ refl).0 (and_parts _ _ hit).0

  found_first : (cap : ℕ) (all : List UsageRecord) (rows : List Row) (found : Option UsageRecord) → IsPermutation (map day_row (filter (is_from login from) all)) rows → IsFirstShown login cap rows found
      → IsFirstOver login from cap all found
  found_first cap all rows None same each = all_weaker _ (λ u. is_over login from cap u ≡ false) (λ u low. not_over cap u low) all (of_rows (λ d. is_past cap d ≡ false) all rows same each)
  found_first cap all rows (Some u) same (owner, ((row, there, shown), past, each)) =
      let of = all_has _ rows row (all-permutation _ _ _ same (shown_of day_row (is_from login from) all)) there in
      let v = of.0 in
      let totals : totals_of u ≡ totals_of v = totals_are row (totals_of u) v shown of.2 in
      let name : u.login ≡ v.login = owner ∙ keyed v of.1.1 in
      let whole : v ≡ u = λ i. record { login = sym name i; day = sym (ap (λ (d : DayTotals). d.day) totals) i; settled = sym (ap (λ (d : DayTotals). d.settled) totals) i; reserved = sym (ap (λ (d : DayTotals). d.reserved) totals) i } in (
        contains_had all u (subst (Has all) whole of.1.0),
        over_whole cap u (subst (λ x. is_from login from x ≡ true) whole of.1.1) past,
        all_weaker _ (λ other. is_over login from cap other ≡ true → u.day ≤ other.day) (λ other low hit. let it = over_parts cap other hit in low it.0 it.1) all
            (of_rows (λ d. is_past cap d ≡ true → u.day ≤ d.day) all rows same each),
      )

  pub found_after : (cap : ℕ) → Following (λ t rows. IsPermutation (map day_row (filter (is_from login from) t.usage)) rows) (IsFirstShown login cap) (λ t. IsFirstOver login from cap t.usage)
  found_after cap = follows _ _ _ (λ t. found_first cap t.usage)
