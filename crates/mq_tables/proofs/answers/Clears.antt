-- The UPDATE that clears the reply of an answer, over any schema that has the table at some place.
use Rattle.std.proofs.Common.{append-nil, ◌≡◌, ◌⊎◌, inl, inr, ℕ, suc, ◌+◌, ◌<◌, ◌≤◌, pos, List, [], ◌∷◌, ◌==◌, length, map, filter, Bool, true, false, Greater, Equal, Ok, Err, codes, arith, refl, sym, ap, ap₂, subst, ◌∙◌}
use Rattle.mq_tables.proofs.Words.{AnswerRecord, Given, Int, IsPermutation, Null, Row, Table, Trees, and-true, col, edit_of, edited, everything, holds, ids_of, length_permutation, list_all, lit, one_permutation, ordering_reverse, put_row, same_name, value_cmp, value_cmp_total, without_rowid}
use Rattle.std.specs.Prelude.{if◌then◌else◌}
use Rattle.std.proofs.lemmas.Bool.Decides.{eqb_tells}
use Rattle.std.proofs.lemmas.Cmp.{tied_itself}
use Rattle.sqlite.specs.State as state
use Rattle.mq_tables.specs.Places.{IsAnswerIn}
use Rattle.mq_tables.specs.Records.{answer_fields, AreNumbered, HoldsAnswers}
use Rattle.mq_tables.specs.Retiring.{clear_params, without_reply, cleared_where, ClearsAt}
use Rattle.mq_tables.specs.Tables.{answer_table}
use Rattle.mq_tables.specs.Written.{chosen as chosen_rows, Updated}
use Rattle.mq_tables.proofs.Changes.{answers_changed}
use Rattle.mq_tables.proofs.Casts.{cast_int, cast_null}
use Rattle.mq_tables.proofs.Parts.{Executing}
use Rattle.mq_tables.proofs.Selected.{chosen_of}
use Rattle.mq_tables.proofs.TermShape.{field, against}
use Rattle.mq_tables.proofs.TermShape.Relation.{Same}
use Rattle.mq_tables.proofs.Tests.{day_test}
use Rattle.mq_tables.proofs.UpdateShape.{UpdateShape, IsUpdateOf, in_tree, tests_in, made}
use Rattle.mq_tables.proofs.answers.Numbered.{ascends}

abbrev pub clear_text : List ℕ
clear_text = codes "UPDATE answer SET reply = ?1 WHERE n = ?2"

abbrev shape : UpdateShape
shape = record {
  table = answer_table;
  sets = codes "reply" ∷ [];
  places = 6 ∷ [];
  tests = against (field (codes "n") 0) Same 2 ∷ [];
  row = col 1 0 ∷ col 1 0 ∷ lit Null ∷ col 1 2 ∷ col 1 3 ∷ col 1 4 ∷ col 1 5 ∷ col 0 0 ∷ [];
}

is_update : IsUpdateOf clear_text shape
unfolding everything same_name
is_update = record { parsed = refl; statement = refl; formats = refl; placed = λ t. refl; laid = λ t. refl; known = λ t. refl; short = refl; uncounted = refl; timeless = λ params. append-nil params; accepted = λ s t low found. rw (low, found) }

-- what the query of the UPDATE shows: the rowid, and then the new row
abbrev shown : AnswerRecord → Row
shown a = Int (pos a.n) ∷ answer_fields (without_reply a)

-- ---- the answer of that number among answers that are numbered on

descends : (a b : ℕ) → a < b → value_cmp (Int (pos b)) (Int (pos a)) ≡ Greater
descends a b low = value_cmp_total.antisymm (Int (pos b)) (Int (pos a)) ∙ ap ordering_reverse (ascends a b low)

put_first : (a : AnswerRecord) (k : ℕ) (more : List AnswerRecord) → a.n < k → AreNumbered k more → put_row (answer_fields a) (map answer_fields more) ≡ answer_fields a ∷ map answer_fields more
put_first a k [] low h = refl
put_first a k (b ∷ more) low h = rw (descends a.n b.n (omega (arith, low, h.0))) refl

module _ (n : ℕ) where
  abbrev passes : AnswerRecord → Bool
  passes a = a.n == n

  abbrev cleared : List AnswerRecord → List AnswerRecord
  cleared = cleared_where passes

  still_numbered : (k : ℕ) (answers : List AnswerRecord) → AreNumbered k answers → AreNumbered k (cleared answers)
  still_numbered k [] h = tt
  still_numbered k (a ∷ more) h = ((elim (passes a) as (λ b. (if b then without_reply a else a).n ≡ a.n) [ true ↦ refl | false ↦ refl ]) ∙ h.0, still_numbered (k + 1) more h.1)

  -- those after it stay as they are
  record AreLater (answers : List AnswerRecord) : Type 0 where
    none : filter passes answers ≡ []
    same : cleared answers ≡ answers
    left : without_rowid (pos n) (map answer_fields answers) ≡ map answer_fields answers

  later : (k : ℕ) (answers : List AnswerRecord) → n < k → AreNumbered k answers → AreLater answers
  later k [] low h = record { none = refl; same = refl; left = refl }
  later k (a ∷ more) low h =
      let it = later (k + 1) more (omega (arith, low)) h.1 in
      let other : (a.n == n) ≡ false = elim (eqb_tells a.n n) [ inl same ↦ absurd (omega (arith, same.1, low, h.0)) | inr differ ↦ differ.0 ] in
      record { none = rw (other, it.none); same = rw (other, it.same); left = rw (descends n a.n (omega (arith, low, h.0)), it.left) }

  -- this one has the number, and is set where it stands
  record IsAt (k : ℕ) (answers : List AnswerRecord) (a : AnswerRecord) : Type 0 where
    low : k ≤ a.n
    is : a.n ≡ n
    one : filter passes answers ≡ a ∷ []
    set : put_row (answer_fields (without_reply a)) (without_rowid (pos n) (map answer_fields answers)) ≡ map answer_fields (cleared answers)

  stands : (k : ℕ) (answers : List AnswerRecord) → AreNumbered k answers → ((filter passes answers ≡ []) × (cleared answers ≡ answers)) ⊎ ((a : AnswerRecord) × IsAt k answers a)
  stands k [] h = inl (refl, refl)
  stands k (a ∷ more) h = elim (eqb_tells a.n n) [
    | inl same ↦ (let it = later (k + 1) more (omega (arith, same.1, h.0)) h.1 in
        let tie : value_cmp (Int (pos a.n)) (Int (pos n)) ≡ Equal = ap (λ (m : ℕ). value_cmp (Int (pos m)) (Int (pos n))) same.1 ∙ tied_itself value_cmp_total (Int (pos n)) in
        inr (
          a,
          record {
            low = omega (arith, h.0);
            is = same.1;
            one = rw (same.0, it.none);
            set = rw (tie, it.left, same.0, it.same) (put_first (without_reply a) (k + 1) more (omega (arith, h.0)) h.1);
          },
        ))
    | inr other ↦ elim (stands (k + 1) more h.1) [
      | inl none ↦ inl (rw (other.0, none.0), rw (other.0, none.1))
      | inr found ↦ (let c = found.0 in
          let it = found.1 in
          inr (
            c,
            record {
              low = omega (arith, it.low);
              is = it.is;
              one = rw (other.0, it.one);
              set = rw (ascends a.n n (omega (arith, h.0, it.low, it.is)), ascends a.n c.n (omega (arith, h.0, it.low)), other.0) (ap (λ (rows : List Row). answer_fields a ∷ rows) it.set);
            },
          ))
    ]
  ]

-- ---- what it leaves

none_shown : (rows : List Row) → IsPermutation [] rows → rows ≡ []
none_shown [] h = refl
none_shown (r ∷ rows) h = absurd (let e : suc (length rows) ≡ 0 = length_permutation _ _ h in omega (arith, e))

module _ (old new : state.State) (n : ℕ) (t : ℕ) (place' : IsAnswerIn old.now.schema t) where
  abbrev table : Table
  table = in_tree shape t

  abbrev db : Trees
  db = old.now.trees

  decides : (a : AnswerRecord) → list_all (holds (clear_params n ∷ answer_fields a ∷ [])) (tests_in shape) ≡ passes n a
  decides a = rw (day_test a.n n) (and-true (a.n == n))

  one_edit : (a : AnswerRecord) (hits : List Row) → hits ≡ shown a ∷ [] → edit_of db table (ids_of hits) Given 1 hits ≡ record { table = table; gone = pos a.n ∷ []; news = answer_fields (without_reply a) ∷ [] }
  one_edit a hits one = rw one (rw (cast_null, cast_int (pos a.n), cast_int (pos a.id.run), cast_int (pos a.id.number)) refl)

  clears : Updated old.now.schema table (tests_in shape) shape.row (clear_params n) old new → (answers : List AnswerRecord) → HoldsAnswers (db t) answers → HoldsAnswers (new.now.trees t) (cleared n answers)
  clears done answers held =
      let shows : IsPermutation (map shown (filter (passes n) answers)) done.hits =
      subst (λ xs. IsPermutation xs done.hits) (ap (chosen_rows (tests_in shape) shape.row (clear_params n)) held.rows ∙ chosen_of (tests_in shape) shape.row (clear_params n) answers ∙ ap (λ (p : AnswerRecord → Bool). map shown (filter p answers)) (λ i a. decides a i)) done.found in
      record {
        rows = done.rows ∙ elim (stands n 1 answers held.numbered) [
          | inl none ↦ (let hits = none_shown done.hits (subst (λ xs. IsPermutation (map shown xs) done.hits) none.0 shows) in
              ap (λ hits. edited db (edit_of db table (ids_of hits) Given 1 hits)) hits ∙ held.rows ∙ ap (map answer_fields) (sym none.1))
          | inr found ↦ (let a = found.0 in
              let it = found.1 in
              let hits = one_permutation (shown a) done.hits (subst (λ xs. IsPermutation (map shown xs) done.hits) it.one shows) in
              ap (edited db) (one_edit a done.hits hits) ∙ ap₂ (λ (m : ℕ) (rows : List Row). put_row (answer_fields (without_reply a)) (without_rowid (pos m) rows)) it.is held.rows ∙ it.set)
        ];
        numbered = still_numbered n 1 answers held.numbered;
      }

pub clears_reply : Executing clear_text clear_params ClearsAt
clears_reply n (Err e) old new h = (tt, tt)
clears_reply n (Ok count) old new h = (
  h.1.mode,
  λ t l.
      let done = made is_update (clear_params n) old new l.at.answer l.tables.answer l.tables.answer_alone count h.0 in
      answers_changed old.now new.now t l done.schema_is done.sound done.tables (cleared n t.answers) (clears old new n l.at.answer l.tables.answer done t.answers l.holds.answers),
)
