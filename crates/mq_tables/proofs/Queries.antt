-- What a query on one table of a known schema answers, whatever the table is.
use Rattle.std.proofs.Common.{if◌then◌else◌, drop, subst₂, ◌≡◌, ℕ, List, [], ◌∷◌, map, filter, flat_map, Bool, false, None, Some, Option, inl, inr, ◌⊎◌, refl, sym, ap, subst, ◌∙◌}
use Rattle.mq_tables.proofs.Words.{Compiled, Error, FailsToQuery, FailsToShow, Global, IsNotRun, IsPermutation, IsPermutation-filter, IsPermutation-map, IsPlain, IsRolledBack, IsTooLate, IsUnchanged, KeepsCommit, Null, Row, Schema, Select, Shown, ShowsRows, State, Term, Trees, cases_Bool, command_of, filter-map, holds, list_all, map-map, reads_as, reads_listing, understood}
use Rattle.sqlite.specs.Query.{IsAnswer, Output, output}
use Rattle.sqlite.specs.Program.{overlay}
use Rattle.std.specs.Prelude.{IsTrue, Vec, IfOk, IfErr, OnOk, Result, Ok, Err}
use Rattle.sqlite.specs.Clock.{timed}
use Rattle.sqlite.proofs.InsideLemmas.{unchanged_keeps}
use Rattle.sqlite_schema.specs.declared.command.Returning.{Returning}
use Rattle.mq_tables.specs.Written.{chosen, plain_query}
use Rattle.mq_tables.proofs.Plain.{IsBare}

pub one_each : (params : Row) (tests : List Term) (rows : List Row)
    → flat_map (λ r. if list_all (holds (params ∷ r ∷ [])) tests then (params ∷ r ∷ []) ∷ [] else []) rows ≡ map (λ r. params ∷ r ∷ []) (filter (λ r. list_all (holds (params ∷ r ∷ [])) tests) rows)
one_each params tests [] = refl
one_each params tests (r ∷ rows) = elim (cases_Bool (list_all (holds (params ∷ r ∷ [])) tests)) [ inl hit ↦ rw hit (ap (λ xs. (params ∷ r ∷ []) ∷ xs) (one_each params tests rows)) | inr other ↦ rw other (one_each params tests rows) ]

pub answer_rows : (t : ℕ) (tests project : List Term) (db : Trees) (params : Row) (rows : List Row) → IsAnswer (plain_query t tests project) db params rows
    → IsPermutation (chosen tests project params (db t)) rows
answer_rows t tests project db params rows a =
    let q = plain_query t tests project in
    let hits = filter (λ r. list_all (holds (params ∷ r ∷ [])) tests) (db t) in
    let staged : a.staged ≡ map (λ r. params ∷ r ∷ []) hits = a.grouped ∙ one_each params tests (db t) in
    let kept : a.kept ≡ map (output q) (map (λ r. params ∷ r ∷ []) hits) = a.distinct ∙ ap (map (output q)) staged in
    let shown : map (λ (o : Output). o.1) a.kept ≡ chosen tests project params (db t) =
    ap (map (λ (o : Output). o.1)) kept ∙ map-map (λ (o : Output). o.1) (output q) (map (λ r. params ∷ r ∷ []) hits) ∙ map-map (λ env. (output q env).1) (λ r. params ∷ r ∷ []) hits in
    subst₂ IsPermutation shown (sym a.shown) (IsPermutation-map (λ (o : Output). o.1) a.kept a.ordered a.same)

module _ (sql : List ℕ) (params : Row) (old new : State) (schema : Schema) (has : old.now.schema ≡ schema) (t : ℕ) (tests project : List Term) (names : List (List ℕ)) where
  pub selects : command_of (understood schema sql) ≡ Select (record { lets = []; body = plain_query t tests project }) names → IsPlain (understood schema sql)
      → reads_listing schema sql ≡ false → overlay old.now.trees [] t ≡ old.now.trees t
      → (rows : List Row) → Shown sql params old new rows → IsPermutation (chosen tests project params (old.now.trees t)) rows
  selects is plain unlisted bare rows h =
      let read = reads_as sql params old new schema has (Select (record { lets = []; body = plain_query t tests project }) names) is plain unlisted rows h in
      subst (λ all. IsPermutation (chosen tests project params all) rows) bare (answer_rows t tests project (overlay old.now.trees []) params rows (read.answer Null))

-- what is made of the rows that pass, where neither rests on the rowid, is made of the records
module _ {R Y : Type 0} (fields : R → Row) (pass test : Row → Bool) (tied : (r : Row) → pass r ≡ test (drop 1 r)) (made make : Row → Y) (same_made : (r : Row) → made r ≡ make (drop 1 r)) where
  pub made_records : (rows : List Row) (records : List R) → IsPermutation (map (drop 1) rows) (map fields records)
      → IsPermutation (map made (filter pass rows)) (map (λ u. make (fields u)) (filter (λ u. test (fields u)) records))
  made_records rows records same =
      let left : map made (filter pass rows) ≡ map make (filter test (map (drop 1) rows)) =
      ap (λ (f : Row → Y). map f (filter pass rows)) (λ i r. same_made r i)
      ∙ ap (λ (p : Row → Bool). map (λ r. make (drop 1 r)) (filter p rows)) (λ i r. tied r i)
      ∙ sym (map-map make (drop 1) (filter (λ r. test (drop 1 r)) rows)) ∙ ap (map make) (sym (filter-map test (drop 1) rows)) in
      let right : map make (filter test (map fields records)) ≡ map (λ u. make (fields u)) (filter (λ u. test (fields u)) records) =
      ap (map make) (filter-map test fields records) ∙ map-map make fields (filter (λ u. test (fields u)) records) in
      subst₂ IsPermutation (sym left) right (IsPermutation-map make _ _ (IsPermutation-filter test _ _ same))

module _ (sql : List ℕ) (params : Row) (old new : State) (e : Error) where
  pub not_run : IsNotRun old new sql params e → IsUnchanged old new ⊎ IsRolledBack old new
  unfolding IsNotRun
  not_run (inl h) = inl h.1
  not_run (inr h) = inr h.3

  not_shown : (c : Compiled) (given : Row) (what : Option Returning) → FailsToShow old new sql c given e what → IsUnchanged old new ⊎ IsRolledBack old new
  not_shown c given None h = inl h.3
  not_shown c given (Some what) (inl h) = inl h.1
  not_shown c given (Some what) (inr h) = inr h.3

  pub query_fails : FailsToQuery sql params old new e ⊎ IsTooLate sql params old new e → KeepsCommit old new
  unfolding FailsToQuery
  query_fails (inl (inl h)) = unchanged_keeps old new (not_run h)
  query_fails (inl (inr h)) = unchanged_keeps old new (not_shown h.0 (timed params h.0.formats h.1.now) h.0.returning h.2)
  query_fails (inr h) = unchanged_keeps old new (inl h.5)

module _ (sql : List ℕ) (params : Row) (old new : State) where
  rows_open : (c : Compiled) (given : Row) (rows : List Row) (what : Option Returning) → ShowsRows old new sql c given rows what → IsTrue old.is_open
  rows_open c given rows None h = h.3.0.was_open
  rows_open c given rows (Some what) h = h.1.shown.was_open

  pub shown_open : (rows : List Row) → Shown sql params old new rows → IsTrue old.is_open
  unfolding Shown
  shown_open rows h = rows_open h.0 (timed params h.0.formats h.1.now) rows h.0.returning h.2

module _ (sql : List ℕ) (params : Row) (old new : State) (bare : (c : Compiled) → understood old.now.schema sql ≡ Ok c → IsBare c) where
  pub shown_same : (rows : List Row) → Shown sql params old new rows → IsUnchanged old new
  unfolding Shown
  shown_same rows h =
      let none = (bare h.0 h.1.is).0 in
      (subst (ShowsRows old new sql h.0 (timed params h.0.formats h.1.now) rows) none h.2).3

  pub asked_same : (r : Result (Vec Row Global) Error) → IfOk r (λ rows. Shown sql params old new rows.items) → OnOk r (IsUnchanged old new)
  asked_same (Ok rows) h = shown_same rows.items h
  asked_same (Err e) h = tt

  pub asked_keeps : (r : Result (Vec Row Global) Error) → IfOk r (λ rows. Shown sql params old new rows.items)
      → IfErr r (λ e. FailsToQuery sql params old new e ⊎ IsTooLate sql params old new e) → KeepsCommit old new
  asked_keeps (Ok rows) h k = unchanged_keeps old new (inl (shown_same rows.items h))
  asked_keeps (Err e) h k = query_fails sql params old new e k
