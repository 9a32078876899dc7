-- What is read of the settings, over a store that has their table at any place.
use Rattle.std.proofs.Common.{◌≡◌, inl, inr, [], ◌∷◌, codes, IsTrue, OnOk, Option, Ok, Err, Result, arith, refl, sym, ap, subst, ◌∙◌}
use Rattle.mq_tables.proofs.Words.{Error, Int, QueriesRow, Row, State, binary, everything, length_permutation, listing_schema, one_permutation, same_name, value_cmp}
use Rattle.mq_tables.specs.declared.setting.Setting.{Setting}
use Rattle.mq_tables.specs.Reading.{setting_text, IsRead}
use Rattle.mq_tables.specs.Settings.{SettingRow, HasSetting, setting_fields, reading, IsOf}
use Rattle.mq_tables.specs.Tables.{setting_table}
use Rattle.mq_tables.specs.Written.{chosen}
use Rattle.mq_tables.proofs.Asked.{IsAlone, IsAnswered, answers}
use Rattle.mq_tables.proofs.SelectShape.{SelectShape, IsSelect, unordered, filter_in, shown_in, bare}
use Rattle.mq_tables.proofs.Spared.{AlwaysBare, answers_open}
use Rattle.mq_tables.proofs.TermShape.{field, is_one}

abbrev setting_shape : SelectShape
setting_shape = unordered setting_table (field (codes "version") 1 ∷ field (codes "minutes") 2 ∷ field (codes "cap") 3 ∷ []) (is_one (field (codes "id") 0) ∷ [])

setting_select : IsSelect setting_text setting_shape
unfolding everything listing_schema same_name
setting_select = record { parsed = refl; statement = refl; timeless = refl; unlisted = refl; known = λ t. refl; short = refl; accepted = λ s t low found. rw (low, found) }

setting_alone : IsAlone setting_text
unfolding everything
setting_alone = (refl, refl)

-- whatever the schema, the query returns nothing of a write, and reads no time
pub setting_bare : AlwaysBare setting_text
setting_bare = bare setting_select

abbrev shown : SettingRow → Row
shown s = Int s.version ∷ Int s.minutes ∷ Int s.cap ∷ []

chosen_is : (s : SettingRow) → chosen (filter_in setting_shape) (shown_in setting_shape) [] (setting_fields s ∷ []) ≡ shown s ∷ []
unfolding binary value_cmp lib.Ieee.is_nan lib.Ieee.lt
chosen_is s = refl

read_so : (s : SettingRow) (answer : Result Row Error) → IsAnswered (shown s ∷ []) answer → IsOf s (reading answer)
read_so s (Ok row) (more, h) =
    let whole : row ∷ more ≡ shown s ∷ [] = one_permutation (shown s) (row ∷ more) h in
    let same : row ≡ shown s = cc in
    inl (ap (λ r. reading (Ok r)) same)
read_so s (Err e) (inl h) = inr h
read_so s (Err e) (inr h) = let same : 0 ≡ 1 = length_permutation _ _ h.1 in absurd (omega (arith, same))

pub of_setting : (old new : State) (r : Result (Option Setting) Error) → IsRead old new r → (s : SettingRow) → HasSetting old.now s → IsOf s r
of_setting old new r j s h =
    subst (IsOf s) (sym j.read_is) (read_so s j.answer (subst (λ rows. IsAnswered rows j.answer) (ap (chosen (filter_in setting_shape) (shown_in setting_shape) []) h.row ∙ chosen_is s)
    (answers setting_select refl setting_alone old new h.tree h.table j.answer j.queried)))

-- a connection that answers is open
pub read_open : (old new : State) (answer : Result Row Error) (r : Result (Option Setting) Error) → r ≡ reading answer → QueriesRow setting_text [] old new answer → OnOk r (IsTrue new.is_open)
read_open old new (Ok row) r is h = subst (λ r. OnOk r (IsTrue new.is_open)) (sym is) (answers_open setting_text setting_bare old new row h)
read_open old new (Err e) r is h = subst (λ r. OnOk r (IsTrue new.is_open)) (sym is) tt
