-- What the query for the latest limit answers of the records.
use Rattle.std.proofs.Common.{◌≡◌, ℕ, pos, ◌<◌, ◌≤◌, ◌<ℤ◌, ◌&&◌, nat_le, List, [], ◌∷◌, codes, true, false, arith, Ordering, Less, Equal, Greater, refl, sym, ap, ◌∙◌}
use Rattle.mq_tables.proofs.Words.{LimitRecord, MatchOrdering, Row, and-true, and_parts, column, everything, int_cmp, int_ranks, is_lt, listing_schema, ordering_then, same_name, same_text, slice_eq-Decides, unsigned_Decides, value_cmp-Int}
use Rattle.mq_rows.specs.Found.{is_due, IsGoverning}
use Rattle.mq_tables.specs.Governing.{limit_row, IsGoverningShown, IsLimitShown, IsFirstLimit}
use Rattle.mq_tables.specs.Ledger.{HasLedger}
use Rattle.mq_tables.specs.Lent.{key_params}
use Rattle.mq_tables.specs.Tables.{ceiling_table}
use Rattle.mq_tables.proofs.Finds.{Following, int_same, one_after}
use Rattle.mq_tables.proofs.SelectShape.{Sorting, IsSelect, first_by}
use Rattle.mq_tables.proofs.Parts.{limits_part}
use Rattle.mq_tables.proofs.Selected.{Finding, finds_first}
use Rattle.mq_tables.proofs.TermShape.{field, against}
use Rattle.mq_tables.proofs.TermShape.Relation.{Same, AtMost}
use Rattle.mq_tables.proofs.Tests.{text_test, until_test}

abbrev pub latest_text : List ℕ
latest_text = codes "SELECT day, cap FROM ceiling WHERE login = ?1 AND day <= ?2 ORDER BY day DESC LIMIT 1"

abbrev pub latest : Sorting
latest = record { column = field (codes "day") 1; descending = true }

pub latest_select : IsSelect latest_text (first_by latest ceiling_table
    (field (codes "day") 1 ∷ field (codes "cap") 2 ∷ [])
    (against (field (codes "login") 0) Same 1 ∷ against (field (codes "day") 1) AtMost 2 ∷ []))
unfolding everything listing_schema same_name
latest_select = record { parsed = refl; statement = refl; timeless = refl; unlisted = refl; known = λ t. refl; short = refl; accepted = λ s t low found. rw (low, found) }

-- a later day comes first
pub not_later : (a b : ℕ) → is_lt (int_cmp (pos a) (pos b)) ≡ false → b ≤ a
not_later a b h = go (int_cmp (pos a) (pos b)) h (int_ranks (pos a) (pos b))
  where
    go : (o : Ordering) → is_lt o ≡ false → MatchOrdering o (pos a <ℤ pos b) (pos a ≡ pos b) (pos b <ℤ pos a) → b ≤ a
    go Less h k = absurd cc
    go Equal h k = let e : a ≡ b = cc in omega (arith, e)
    go Greater h k = let e : b < a = grind arith in omega (arith, e)

pub then_nothing : (o : Ordering) → is_lt (ordering_then o Equal) ≡ is_lt o
then_nothing Less = refl
then_nothing Equal = refl
then_nothing Greater = refl

module _ (login : List ℕ) (day : ℕ) where
  pub found_governing : Finding latest_text (key_params login day) HasLedger (λ t. IsGoverningShown login day t.limits)
  found_governing =
      finds_first latest_select limits_part (key_params login day) (is_due login day)
      (λ c. rw (text_test c.login login, until_test c.day day) (ap (λ b. same_text login c.login && b) (and-true (nat_le c.day day))))
      latest refl (IsGoverning login day) (λ c. c) limit_row (λ other c. other.day ≤ c.day)
      (λ t other c low. not_later c.day other.day (rw (value_cmp-Int (pos c.day) (pos other.day), then_nothing (int_cmp (pos c.day) (pos other.day))) at low))
      (λ all none. none) (λ all c there due last. (there, due, last)) (λ c. refl)

  -- the row shows that limit, whose login is known
  pub limit_is : (row : Row) (u v : LimitRecord) → IsLimitShown login row u → login ≡ v.login → row ≡ limit_row v → v ≡ u
  limit_is row u v shown key is =
      let day' : v.day ≡ u.day = int_same (sym (ap (λ r. column r 0) is) ∙ shown.day) in
      let cap : v.cap ≡ u.cap = int_same (sym (ap (λ r. column r 1) is) ∙ shown.cap) in
      λ i. record { login = (sym key ∙ sym shown.login) i; day = day' i; cap = cap i }

  -- what is due where the first row shows it
  due_login : (c : LimitRecord) → is_due login day c ≡ true → login ≡ c.login
  due_login c hit = (slice_eq-Decides unsigned_Decides login c.login _ refl).0 (and_parts _ _ hit).0

  pub governing_after : Following (λ t. IsGoverningShown login day t.limits) (IsFirstLimit login) (λ t. IsGoverning login day t.limits)
  governing_after = one_after (IsGoverning login day) limit_row (IsLimitShown login) (λ all row u v shown it is. limit_is row u v shown (due_login v it.1) is) (λ t. t.limits)
