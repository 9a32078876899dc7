-- An UPDATE of some columns by a conjunction of tests, over any schema that has the table at some place, where one row alone passes.
use Rattle.std.proofs.Common.{append-nil, ◌≡◌, ◌≤◌, ℕ, ℤ, ◌+◌, ◌-◌, ◌^◌, nat_le, List, [], ◌∷◌, ◌++◌, ◌==◌, find, drop, map, reverse, length, Bool, true, false, Option, Some, None, Ok, Err, arith, append_assoc, refl, sym, ap, ap₂, subst, ◌∙◌}
use Rattle.mq_tables.proofs.Words.{AllByRecursion, Checked, Context, Edit, Executes, Expr, Given, Int, IsPermutation, IsPlain, Name, Null, Row, Schema, Table, Term, Trees, Update, accepts_program, and_parts, and_then, are_fresh, col, command_of, edit_of, edited, eval_all, first, holds, id_in, ids_of, leb-true, left_by, list_all, lt-ltb, max_budget, not-true, nothing, one_permutation, out-roll-Expr, put_row, rowid, stamped, understood, without_rowid}
use Rattle.sqlite_ast.specs.declared.Statement.TheVariants as written
use Rattle.sqlite.specs.State as state
use Rattle.sqlite_draft.specs.declared.join.Step.TheVariants.{Inner}
use Rattle.sqlite_resolve.specs.Write.{over, sets_from, places_from, with_place, row, simple, updated}
use Rattle.mq_rows.specs.declared.plan.Write.TheVariants as write
use Rattle.mq_tables.specs.Places.{IsTableIn, IsUnreferred}
use Rattle.mq_tables.specs.Records.{Holds}
use Rattle.mq_tables.specs.Written.{plain_query, chosen as chosen_rows, Updated}
use Rattle.mq_tables.specs.Updates.{HasSet}
use Rattle.mq_tables.proofs.Parts.{Part, Rewrites, Executing}
use Rattle.mq_tables.proofs.Plain.{parsed_in}
use Rattle.mq_tables.proofs.RowFacts.{only, keyed_row, holds_set, held_so}
use Rattle.mq_tables.proofs.Selecting.{parameter_lowered}
use Rattle.mq_tables.proofs.Selected.{same_tests}
use Rattle.mq_tables.proofs.Statements.{updates}
use Rattle.mq_tables.proofs.TermShape.{Test, is_field, filter_of, parameter_as, filter_as, state_of, depth_of, nodes_of, spent_on, last_after, filter_lowered}
use Rattle.mq_tables.proofs.Updating.{IsUpdate, set_next, updated_is, understood_update, nothing_acts}

-- The columns are set to the parameters from 1 on, and `row` is the new row as the query has it: the rowid, and then all fields from the rowid on.
pub record UpdateShape : Type 0 where
  pub table : Table
  pub sets : List Name
  pub places : List ℕ
  pub tests : List Test
  pub row : List Term

abbrev pub in_tree : UpdateShape → ℕ → Table
in_tree shape t = record shape.table { tree = t }

abbrev pub tests_in : UpdateShape → List Term
tests_in shape = filter_of shape.table.key (reverse shape.tests)

-- each column is set to a parameter, which count on
abbrev pub sets_as : ℕ → List Name → List (Name × Expr)
sets_as n [] = []
sets_as n (name ∷ names) = (name, parameter_as n) ∷ sets_as (n + 1) names

abbrev pub values_from : ℕ → List Name → List Term
values_from n [] = []
values_from n (name ∷ names) = col 0 (n - 1) ∷ values_from (n + 1) names

-- the types of the terms
abbrev pub IsAccepted : UpdateShape → Type 0
IsAccepted shape = (s : Schema) (t : ℕ) → nat_le (2 ^ 31) t ≡ false → find (λ (x : Table). x.tree == t) s.tables ≡ Some (in_tree shape t) → accepts_program s [] (plain_query t (tests_in shape) shape.row) [] ≡ true

pub record IsUpdateOf (text : List ℕ) (shape : UpdateShape) : Type 0 where
  pub parsed : first text ≡ Ok (parsed_in (first text))
  pub statement : (parsed_in (first text)).statement ≡ written.Update shape.table.name (sets_as 1 shape.sets) (filter_as (reverse shape.tests)) []
  pub formats : (parsed_in (first text)).formats ≡ []
  pub placed : (t : ℕ) → places_from (in_tree shape t) [] shape.sets ≡ Ok shape.places
  pub laid : (t : ℕ) → row (in_tree shape t) None shape.places (col 1 0 ∷ []) (values_from 1 shape.sets) ≡ Ok shape.row
  pub known : (t : ℕ) → list_all (λ (u : Test). is_field (in_tree shape t) u.column) (reverse shape.tests) ≡ true
  pub short : nat_le (length shape.sets + nodes_of (reverse shape.tests) + depth_of (reverse shape.tests)) 600 ≡ true
  pub uncounted : shape.table.is_counted ≡ false
  pub timeless : (params : Row) → stamped shape.table params ≡ params
  pub accepted : IsAccepted shape

-- ---- what it means

module _ (cx : Context) (table : Table) where
  sets_lowered : (names : List Name) (n : ℕ) (done all : List ℕ) (terms : List Term) (budget : ℕ) → places_from table done names ≡ Ok all → length names + 2 ≤ budget
      → sets_from cx table (done, terms) (sets_as n names) (state_of budget nothing) ≡ Ok ((all, terms ++ values_from n names), state_of (budget - length names) nothing)
  sets_lowered [] n done all terms budget placed enough =
      let same : done ≡ all = cc in
      let left : budget ≡ budget - 0 = omega arith in
      λ i. Ok ((same i, sym (append-nil terms) i), state_of (left i) nothing)
  sets_lowered (name ∷ names) n done all terms budget placed enough =
      go (with_place table done name) refl placed (λ longer placed'. sets_lowered names (n + 1) longer all (terms ++ col 0 (n - 1) ∷ []) (budget - 1) placed' (omega (arith, enough)))
    where
      go : (found : Checked (List ℕ)) → with_place table done name ≡ found → and_then found (λ longer. places_from table longer names) ≡ Ok all
          → ((longer : List ℕ) → places_from table longer names ≡ Ok all
          → sets_from cx table (longer, terms ++ col 0 (n - 1) ∷ []) (sets_as (n + 1) names) (state_of (budget - 1) nothing) ≡ Ok ((all, (terms ++ col 0 (n - 1) ∷ []) ++ values_from (n + 1) names), state_of (budget - 1 - length names) nothing))
          → sets_from cx table (done, terms) (sets_as n (name ∷ names)) (state_of budget nothing) ≡ Ok ((all, terms ++ values_from n (name ∷ names)), state_of (budget - length (name ∷ names)) nothing)
      go (Err e) at placed' deeper = absurd (cc)
      go (Ok longer) at placed' deeper =
          let one = parameter_lowered cx 699 (parameter_as n) n (out-roll-Expr _) (state_of budget nothing) (lt-ltb 1 budget (omega (arith, enough))) refl in
          let left : budget - 1 - length names ≡ budget - length (name ∷ names) = omega arith in
          set_next cx table (done, terms) name (parameter_as n) (sets_as (n + 1) names) longer (col 0 (n - 1)) (state_of budget nothing) (state_of (budget - 1) nothing) _ at one (deeper longer placed')
          ∙ ap₂ (λ xs b. Ok ((all, xs), state_of b nothing)) (append_assoc terms (col 0 (n - 1) ∷ []) (values_from (n + 1) names)) left

module _ {text : List ℕ} {shape : UpdateShape} (it : IsUpdateOf text shape) (s : Schema) (t : ℕ) (place : IsTableIn s shape.table t) where
  short : length shape.sets + nodes_of (reverse shape.tests) + depth_of (reverse shape.tests) ≤ 600
  short = leb-true _ 600 it.short

  abbrev left : ℕ
  left = max_budget - length shape.sets

  abbrev last : ℕ
  last = left - spent_on (reverse shape.tests)

  abbrev sets : List (Name × Expr)
  sets = sets_as 1 shape.sets

  abbrev filter : Option Expr
  filter = filter_as (reverse shape.tests)

  abbrev update : IsUpdate (parsed_in (first text))
  update = record { name = shape.table.name; assignments = sets; test = filter; statement = it.statement; timeless = it.formats }

  updated_so : updated s place.at (in_tree shape t) sets filter ≡ Ok (simple (Inner t ∷ []) (tests_in shape) shape.row)
  updated_so =
      let cx = over s place.at shape.table.name in
      let set = sets_lowered cx (in_tree shape t) shape.sets 1 [] shape.places [] max_budget (it.placed t) (omega (arith, short)) in
      let tested = filter_lowered cx place.at shape.table.name [] (in_tree shape t) refl place.there (reverse shape.tests) (it.known t) left nothing (omega (arith, short)) (omega (arith, short)) in
      updated_is s place.at (in_tree shape t) sets filter shape.places (values_from 1 shape.sets) shape.row (tests_in shape) (state_of left nothing) (state_of last (last_after (reverse shape.tests) nothing)) set (it.laid t) tested

  means_update : (command_of (understood s text) ≡ Update place.at (record { lets = []; body = plain_query t (tests_in shape) shape.row })) × IsPlain (understood s text)
  means_update =
      let is = understood_update text it.parsed update s place.at (in_tree shape t) (simple (Inner t ∷ []) (tests_in shape) shape.row) place.named place.there updated_so (it.accepted s t place.stored place.found) in
      (ap command_of is, subst IsPlain (sym is) (refl, refl))

module _ {text : List ℕ} {shape : UpdateShape} (it : IsUpdateOf text shape) (params : Row) (old new : state.State) (t : ℕ) (place : IsTableIn old.now.schema shape.table t) where
  pub made : IsUnreferred old.now.schema t → (count : ℕ) → Executes text params old new (Ok count) → Updated old.now.schema (in_tree shape t) (tests_in shape) shape.row params old new
  made apart count h =
      let s = old.now.schema in
      let means = means_update it s t place in
      updates text params old new s refl place.at (in_tree shape t) (record { place = place.there; uncounted = it.uncounted; timeless = it.timeless; unreferred = nothing_acts s t apart [] })
      (nothing_acts s t apart) (record { lets = []; body = plain_query t (tests_in shape) shape.row }) (tests_in shape) shape.row means.0 (refl, refl) means.1 (rw place.stored) count h

-- ---- what it leaves of the records

module _ {R : Type 0} (fields : R → Row) (same : R → R → Bool) (set : R → R → R) (params : R → Row) {text : List ℕ} {shape : UpdateShape} (it : IsUpdateOf text shape) (keyless : shape.table.key ≡ None) (r : R) where
  -- whether a row of these fields passes
  abbrev pub test : Row → Bool
  test c = list_all (holds (params r ∷ (Null ∷ c) ∷ [])) (tests_in shape)

  abbrev pass : Row → Bool
  pass c = list_all (holds (params r ∷ c ∷ [])) (tests_in shape)

  tied : (c : Row) → pass c ≡ test (drop 1 c)
  tied c = subst (λ k. list_all (holds (params r ∷ c ∷ [])) (filter_of k (reverse shape.tests)) ≡ list_all (holds (params r ∷ (Null ∷ drop 1 c) ∷ [])) (filter_of k (reverse shape.tests))) (sym keyless) (same_tests (params r) c (reverse shape.tests))

  module _ (decides : (was : R) → test (fields was) ≡ same r was)
      (edits : (db : Trees) (t : ℕ) (was : R) (id : ℤ) (hits : List Row) → hits ≡ eval_all shape.row (params r ∷ (Int id ∷ fields was) ∷ []) ∷ []
      → edit_of db (in_tree shape t) (ids_of hits) Given 1 hits ≡ record { table = in_tree shape t; gone = id ∷ []; news = (Int id ∷ fields (set r was)) ∷ [] })
      (old new : state.State) (t : ℕ) (place : IsTableIn old.now.schema shape.table t) where
    sets_row : Updated old.now.schema (in_tree shape t) (tests_in shape) shape.row (params r) old new → (was : R) (rest : List R) → Holds 1 fields (old.now.trees t) (was ∷ rest) → same r was ≡ true → AllByRecursion (λ v. same r v ≡ false) rest
        → Holds 1 fields (new.now.trees t) (set r was ∷ rest)
    sets_row done was rest held hit apart =
        let db = old.now.trees in
        let hit' = decides was ∙ hit in
        let apart' = subst (λ (f : R → Bool). AllByRecursion (λ v. f v ≡ false) rest) (λ i v. sym (decides v) i) apart in
        let row = only fields pass test tied (db t) was rest held hit' apart' in
        let id = id_in (rowid row.0) in
        let shape' : row.0 ≡ Int id ∷ fields was = keyed_row fields pass test tied (db t) was rest held hit' apart' in
        let seen : chosen_rows (tests_in shape) shape.row (params r) (db t) ≡ eval_all shape.row (params r ∷ (Int id ∷ fields was) ∷ []) ∷ [] =
        ap (map (λ c. eval_all shape.row (params r ∷ c ∷ []))) (row.1 ∙ ap (λ c. c ∷ []) shape') in
        let hits = one_permutation _ done.hits (subst (λ xs. IsPermutation xs done.hits) seen done.found) in
        let edit = edits db t was id done.hits hits in
        let rows : new.now.trees t ≡ put_row (Int id ∷ fields (set r was)) (without_rowid id (db t)) = done.rows ∙ ap (edited db) edit in
        let fresh' : are_fresh (without_rowid id (db t)) ((Int id ∷ fields (set r was)) ∷ []) ≡ true = subst (λ (e : Edit). are_fresh (left_by db e) e.news ≡ true) edit done.fresh in
        subst (λ rs. Holds 1 fields rs (set r was ∷ rest)) (sym rows) (holds_set fields pass test tied (db t) was rest held hit' apart' (set r was) (not-true _ (and_parts _ _ fresh').0))

    pub set_so : IsUnreferred old.now.schema t → (count : ℕ) → Executes text (params r) old new (Ok count) → HasSet (Holds 1 fields) same set r t old.now new.now
    set_so apart count h =
        let done = made it (params r) old new t place apart count h in
        record { sound = done.sound; schema = done.schema_is; rows = sets_row done; others = done.tables }

-- ---- a record of a table whose rows are records in any order

module _ {R : Type 0} (same : R → R → Bool) (set : R → R → R) (params : R → Row) {text : List ℕ} {shape : UpdateShape} (it : IsUpdateOf text shape) (part : Part R shape.table) where
  -- a record passes where it has the key
  abbrev pub Decides : Type 0
  Decides = (r was : R) → test part.fields same set params it part.keyless r (part.fields was) ≡ same r was

  -- the one row is replaced by that with the new fields
  abbrev pub Edits : Type 0
  Edits = (r : R) (db : Trees) (t : ℕ) (was : R) (id : ℤ) (hits : List Row) → hits ≡ eval_all shape.row (params r ∷ (Int id ∷ part.fields was) ∷ []) ∷ []
      → edit_of db (in_tree shape t) (ids_of hits) Given 1 hits ≡ record { table = in_tree shape t; gone = id ∷ []; news = (Int id ∷ part.fields (set r was)) ∷ [] }

  pub updates_record : Decides → Edits → Executing text params (λ r. Rewrites part same set (write.Update r))
  updates_record decides edits r (Err e) old new h = (tt, tt)
  updates_record decides edits r (Ok count) old new h = (
    h.1.mode,
    λ t l was rest held hit apart.
        let done = set_so part.fields same set params it part.keyless r (decides r) (edits r) old new (part.tree old.now t l) (part.place old.now t l) (part.alone old.now t l) count h.0 in
        part.changed old.now new.now t l done.schema done.sound done.others (set r was ∷ rest) (done.rows was rest (held_so part.fields _ (part.records t) (was ∷ rest) (part.holds old.now t l) held) hit apart),
  )
