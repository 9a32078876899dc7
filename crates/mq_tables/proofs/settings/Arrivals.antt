-- What the query for the count of arrivals answers.
use Rattle.std.proofs.Common.{◌≡◌, ℕ, pos, List, [], ◌∷◌, codes, Ok, Err, refl, sym, ap, subst, ◌∙◌}
use Rattle.mq_tables.proofs.Words.{Int, IsPermutation, Row, binary, column, everything, listing_schema, one_permutation, same_name, value_cmp}
use Rattle.mq_tables.specs.Ledger.{HasLedger, setting_in}
use Rattle.mq_tables.specs.Settings.{SettingRow, setting_fields}
use Rattle.mq_tables.specs.Lent.{IsFirstNatural}
use Rattle.mq_tables.specs.Tables.{setting_table}
use Rattle.mq_tables.specs.Written.{chosen}
use Rattle.mq_tables.proofs.Finds.{Following, follows}
use Rattle.mq_tables.proofs.SelectShape.{SelectShape, IsSelect, unordered, filter_in, shown_in}
use Rattle.mq_tables.proofs.Selected.{Finding, shows_rows}
use Rattle.mq_tables.proofs.TermShape.{field, is_one}

abbrev pub arrivals_text : List ℕ
arrivals_text = codes "SELECT arrivals FROM setting WHERE id = 1"

abbrev pub arrivals_shape : SelectShape
arrivals_shape = unordered setting_table (field (codes "arrivals") 4 ∷ []) (is_one (field (codes "id") 0) ∷ [])

pub arrivals_select : IsSelect arrivals_text arrivals_shape
unfolding everything listing_schema same_name
arrivals_select = record { parsed = refl; statement = refl; timeless = refl; unlisted = refl; known = λ t. refl; short = refl; accepted = λ s t low found. rw (low, found) }

chosen_is : (s : SettingRow) → chosen (filter_in arrivals_shape) (shown_in arrivals_shape) [] (setting_fields s ∷ []) ≡ (Int s.arrivals ∷ []) ∷ []
unfolding binary value_cmp lib.Ieee.is_nan lib.Ieee.lt
chosen_is s = refl

pub found_arrivals : Finding arrivals_text [] HasLedger (λ t rows. rows ≡ (Int (pos t.setting.arrivals) ∷ []) ∷ [])
found_arrivals old new (Ok rows) h = λ t l.
    one_permutation (Int (pos t.setting.arrivals) ∷ []) rows.items
    (subst (λ shown. IsPermutation shown rows.items) (ap (chosen (filter_in arrivals_shape) (shown_in arrivals_shape) []) l.holds.setting ∙ chosen_is (setting_in t.setting))
    (shows_rows arrivals_select [] old new l.at.setting l.tables.setting rows.items h refl))
found_arrivals old new (Err e) h = tt

counted : (m n : ℕ) (rows : List Row) → rows ≡ (Int (pos m) ∷ []) ∷ [] → IsFirstNatural rows n → n ≡ m
counted m n rows is (row, more, whole, (at, low)) =
    let head : row ≡ Int (pos m) ∷ [] = cc in
    let same : Int (pos n) ≡ Int (pos m) = sym at ∙ ap (λ r. column r 0) head in
    cc

pub arrivals_after : Following (λ t rows. rows ≡ (Int (pos t.setting.arrivals) ∷ []) ∷ []) IsFirstNatural (λ t n. n ≡ t.setting.arrivals)
arrivals_after = follows _ _ _ (λ t rows n. counted t.setting.arrivals n rows)
