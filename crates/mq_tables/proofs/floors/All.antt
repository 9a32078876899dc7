-- What the query for all floors answers, over a store that has their table at any place.
use Rattle.std.proofs.Common.{◌≡◌, List, [], ◌∷◌, map, codes, true, Ok, Err, Result, refl, subst}
use Rattle.mq_tables.proofs.Words.{AllByRecursion, Error, FailsToQuery, Global, IfErr, IfOk, IsPermutation, RetiredRecord, Row, Shown, State, Vec, all-map, all-permutation, all_of, everything, listing_schema, same_name}
use Rattle.sqlite_rules.proofs.ListLemmas.{all_has, test_from}
use Rattle.mq_tables.specs.Floors.{is_floor, are_floors, AreFloorsOf}
use Rattle.mq_tables.specs.Ledger.{HasFloors}
use Rattle.mq_tables.specs.Reading.{floors_text, unlimited, AreFloorsRead}
use Rattle.mq_tables.specs.Records.{retired_fields}
use Rattle.mq_tables.specs.Tables.{retired_table}
use Rattle.mq_tables.proofs.Asked.{IsAlone, stops}
use Rattle.mq_tables.proofs.Finds.{all_pass}
use Rattle.mq_tables.proofs.SelectShape.{IsSelect, unordered}
use Rattle.mq_tables.proofs.Selected.{shows_all}
use Rattle.mq_tables.proofs.TermShape.{field}

pub floors_select : IsSelect floors_text (unordered retired_table (field (codes "host") 0 ∷ field (codes "run") 1 ∷ []) [])
unfolding everything listing_schema same_name
floors_select = record { parsed = refl; statement = refl; timeless = refl; unlisted = refl; known = λ t. refl; short = refl; accepted = λ s t low found. rw (low, found) }

floors_alone : IsAlone floors_text
unfolding everything
floors_alone = (refl, refl)

all_tests : (rows : List Row) → AllByRecursion (λ row. is_floor row ≡ true) rows → are_floors rows ≡ true
all_tests rows all = test_from is_floor rows (λ row there. all_has _ rows row all there)

-- what is answered, row by row or by an error
pub floors_read : (old new : State) (answer : Result (Vec Row Global) Error) → IfOk answer (λ rows. Shown floors_text [] (unlimited old) new rows.items) → IfErr answer (FailsToQuery floors_text [] (unlimited old) new) → AreFloorsRead old new answer
floors_read old new (Ok rows) ok err = ok
floors_read old new (Err e) ok err = err

module _ (old new : State) (floors : List RetiredRecord) (has : HasFloors old.now floors) where
  shows : (rows : List Row) → Shown floors_text [] (unlimited old) new rows → IsPermutation (map retired_fields floors) rows
  shows rows h =
      let all = shows_all retired_fields floors_select refl [] (unlimited old) new has.tree has.table rows h floors refl has.holds.same in
      subst (λ xs. IsPermutation (map retired_fields xs) rows) (all_pass floors) all

  pub floors_answered : (answer : Result (Vec Row Global) Error) → AreFloorsRead old new answer → AreFloorsOf answer
  floors_answered (Ok rows) h = all_tests rows.items (all-permutation (λ row. is_floor row ≡ true) (map retired_fields floors) rows.items (shows rows.items h) (all-map _ retired_fields floors (all_of _ (λ r. refl) floors)))
  floors_answered (Err e) h = stops floors_select refl floors_alone old new has.tree has.table e h
