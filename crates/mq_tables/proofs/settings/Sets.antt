-- The UPDATE of one column in the row of settings, over any schema that has the table at some place.
use Rattle.std.proofs.Common.{append-nil, ◌≡◌, ℕ, ℤ, pos, List, [], ◌∷◌, Ok, Err, Result, codes, refl, ap, subst, ◌∙◌}
use Rattle.mq_tables.proofs.Words.{Error, Executes, ExecutesInside, Given, Int, IsPermutation, Null, Row, State, Term, Trees, binary, col, edit_of, edited, eval_all, everything, ids_of, lit, one_permutation, same_name, value_cmp}
use Rattle.mq_tables.specs.Ledger.{setting_in}
use Rattle.mq_tables.specs.Migrating.{version_params, SetsVersion}
use Rattle.mq_tables.specs.Places.{IsSettingIn, IsUnreferred}
use Rattle.mq_tables.specs.Settings.{SettingRow, setting_fields}
use Rattle.mq_tables.specs.Tables.{setting_table}
use Rattle.mq_tables.specs.Updates.{HasSetRow, CountsArrivals}
use Rattle.mq_tables.specs.Written.{chosen as chosen_rows}
use Rattle.mq_tables.proofs.Changes.{arrivals_changed, version_changed}
use Rattle.mq_tables.proofs.Casts.{cast_int, cast_null}
use Rattle.mq_tables.proofs.Parts.{Executed, Executing}
use Rattle.mq_tables.proofs.TermShape.{field, is_one}
use Rattle.mq_tables.proofs.UpdateShape.{UpdateShape, IsUpdateOf, in_tree, tests_in, made}

-- this column of the row is set to the first parameter
abbrev sets_one : List ℕ → ℕ → List Term → UpdateShape
sets_one column place row = record {
  table = setting_table;
  sets = column ∷ [];
  places = place ∷ [];
  tests = is_one (field (codes "id") 0) ∷ [];
  row = row;
}

module _ (text column : List ℕ) (place : ℕ) (row : List Term) (it : IsUpdateOf text (sets_one column place row)) (n : ℤ) (set : SettingRow → SettingRow)
    (shows : (s : SettingRow) → eval_all row ((Int n ∷ []) ∷ setting_fields s ∷ []) ≡ Int (pos 1) ∷ setting_fields (set s)) where
  abbrev shape : UpdateShape
  shape = sets_one column place row

  abbrev params : Row
  params = Int n ∷ []

  one_edit : (t : ℕ) (db : Trees) (u : SettingRow) (hits : List Row) → hits ≡ (Int (pos 1) ∷ setting_fields u) ∷ [] → edit_of db (in_tree shape t) (ids_of hits) Given 1 hits ≡ record { table = in_tree shape t; gone = pos 1 ∷ []; news = setting_fields u ∷ [] }
  one_edit t db u hits one = rw one (rw (cast_null, cast_int (pos 1), cast_int u.version, cast_int u.minutes, cast_int u.cap, cast_int u.arrivals) refl)

  chosen_is : (s : SettingRow) → chosen_rows (tests_in shape) row params (setting_fields s ∷ []) ≡ eval_all row (params ∷ setting_fields s ∷ []) ∷ []
  unfolding binary value_cmp lib.Ieee.is_nan lib.Ieee.lt
  chosen_is s = refl

  edited_is : (t : ℕ) (s u : SettingRow) (db : Trees) → db t ≡ setting_fields s ∷ [] → edited db (record { table = in_tree shape t; gone = pos 1 ∷ []; news = setting_fields u ∷ [] }) ≡ setting_fields u ∷ []
  unfolding value_cmp lib.Ieee.is_nan lib.Ieee.lt
  edited_is t s u db only = rw only

  set_so : (old new : State) (t : ℕ) (there : IsSettingIn old.now.schema t) → IsUnreferred old.now.schema t → (count : ℕ) → Executes text params old new (Ok count) → HasSetRow set t old.now new.now
  set_so old new t there apart count h =
      let done = made it params old new t there apart count h in
      record {
        sound = done.sound;
        schema = done.schema_is;
        row = λ was only.
            let seen = ap (chosen_rows (tests_in shape) row params) only ∙ chosen_is was ∙ ap (λ r. r ∷ []) (shows was) in
            let hits = one_permutation _ done.hits (subst (λ xs. IsPermutation xs done.hits) seen done.found) in
            done.rows ∙ ap (edited old.now.trees) (one_edit t old.now.trees (set was) done.hits hits) ∙ edited_is t was (set was) old.now.trees only;
        others = done.tables;
      }

-- ---- the count of arrivals

abbrev pub arrivals_text : List ℕ
arrivals_text = codes "UPDATE setting SET arrivals = ?1 WHERE id = 1"

abbrev arrivals_row : List Term
arrivals_row = col 1 0 ∷ col 1 0 ∷ lit Null ∷ col 1 2 ∷ col 1 3 ∷ col 1 4 ∷ col 0 0 ∷ []

arrivals_update : IsUpdateOf arrivals_text (sets_one (codes "arrivals") 5 arrivals_row)
unfolding everything same_name
arrivals_update = record { parsed = refl; statement = refl; formats = refl; placed = λ t. refl; laid = λ t. refl; known = λ t. refl; short = refl; uncounted = refl; timeless = λ params. append-nil params; accepted = λ s t low found. rw (low, found) }

pub counts_arrivals : Executing arrivals_text (λ (n : ℕ). Int (pos n) ∷ []) CountsArrivals
counts_arrivals n (Err e) old new h = (tt, tt)
counts_arrivals n (Ok count) old new h = (
  h.1.mode,
  λ t l.
      let it = set_so arrivals_text (codes "arrivals") 5 arrivals_row arrivals_update (pos n) (λ s. record s { arrivals = pos n }) (λ s. refl) old new l.at.setting l.tables.setting l.tables.setting_alone count h.0 in
      arrivals_changed old.now new.now t l it.schema it.sound it.others n (it.row (setting_in t.setting) l.holds.setting),
)

-- ---- the version

abbrev pub version_text : List ℕ
version_text = codes "UPDATE setting SET version = ?1 WHERE id = 1"

abbrev version_row : List Term
version_row = col 1 0 ∷ col 1 0 ∷ lit Null ∷ col 0 0 ∷ col 1 3 ∷ col 1 4 ∷ col 1 5 ∷ []

version_update : IsUpdateOf version_text (sets_one (codes "version") 2 version_row)
unfolding everything same_name
version_update = record { parsed = refl; statement = refl; formats = refl; placed = λ t. refl; laid = λ t. refl; known = λ t. refl; short = refl; uncounted = refl; timeless = λ params. append-nil params; accepted = λ s t low found. rw (low, found) }

pub sets_version : (r : Result ℕ Error) (old new : State) → ExecutesInside 0 version_text version_params old new r → Executed r new (SetsVersion old.now new.now)
sets_version (Err e) old new h = (tt, tt)
sets_version (Ok count) old new h = (
  h.1.mode,
  λ t l rule floors.
      let it = set_so version_text (codes "version") 2 version_row version_update (pos 3) (λ s. record s { version = pos 3 }) (λ s. refl) old new l.at.setting l.tables.setting l.tables.setting_alone count h.0 in
      (version_changed old.now new.now t l it.schema it.sound it.others rule floors (it.row (setting_in t.setting) l.holds.setting), it.schema, it.others),
)
