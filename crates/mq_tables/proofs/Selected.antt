-- What a SELECT of this shape answers of the records: all that pass, or the first of them in the order.
use Rattle.std.proofs.Common.{◌≡◌, ◌⊎◌, ℕ, ◌+◌, suc, ◌&&◌, List, [], ◌∷◌, drop, map, filter, reverse, Bool, true, false, Contains, Option, Some, None, Ok, Err, Result, arith, refl, sym, ap, ap₂, subst, ◌∙◌}
use Rattle.mq_tables.proofs.Words.{AllByRecursion, AnswerRecord, Database, Error, FailsToQuery, Global, HasCleanDisk, IfErr, IfOk, IsPermutation, IsPermutation-sym, IsPermutation-trans, IsTooLate, Null, Row, Select, Shown, State, Survives, Tables, Term, Vec, all-append, all_weaker, column, command_of, contains_had, eval, eval_all, filter-map, holds, list_all, map-map, state, understood}
use Rattle.sqlite.specs.declared.transaction.Transaction.{Transaction}
use Rattle.sqlite_sql.specs.Ops.{binary, is_true}
use Rattle.sqlite_sql.specs.declared.ops.BinaryOp.TheVariants.{Compare}
use Rattle.sqlite_resolve.specs.Terms.{conjuncts}
use Rattle.sqlite_trees.specs.declared.store.Store.{Ghosts}
use Rattle.sqlite_value.specs.declared.keys.Collation.TheVariants.{Binary}
use Rattle.mq_tables.specs.Inside.{Reads}
use Rattle.mq_tables.specs.Ledger.{HasLedger}
use Rattle.mq_tables.specs.Places.{IsTableIn}
use Rattle.mq_tables.specs.Records.{Holds, IsShownOne, answer_fields}
use Rattle.mq_tables.specs.Tables.{answer_table}
use Rattle.mq_tables.specs.Written.{chosen}
use Rattle.mq_tables.proofs.Queries.{asked_same, asked_keeps, selects, made_records}
use Rattle.mq_tables.proofs.Firsts as firsts
use Rattle.mq_tables.proofs.Parts.{Part}
use Rattle.mq_tables.proofs.TermShape.Operand.{Parameter, One}
use Rattle.mq_tables.proofs.TermShape.{Field, Test, Operand, operand_term, compare_of, shown_term, test_term, all_of, filter_of}
use Rattle.mq_tables.proofs.SelectShape.{SelectShape, Sorting, unordered, IsSelect, filter_in, shown_in, order_by, paged, names_in, bare, command_is, plain, apart}

-- ---- a column that is no key is the same in a row without its rowid

same_column : (r : Row) (k : ℕ) → column r (k + 1) ≡ column (Null ∷ drop 1 r) (k + 1)
same_column r k = let next : k + 1 ≡ suc k = omega arith in rw next (go r)
  where
    go : (row : Row) → column row (suc k) ≡ column (Null ∷ drop 1 row) (suc k)
    go [] = refl
    go (x ∷ row) = refl

module _ (params r : Row) where
  abbrev full : List Row
  full = params ∷ r ∷ []

  abbrev cut : List Row
  cut = params ∷ (Null ∷ drop 1 r) ∷ []

  same_shown : (fs : List Field) → eval_all (map (shown_term None) fs) full ≡ eval_all (map (shown_term None) fs) cut
  same_shown [] = refl
  same_shown (f ∷ fs) = ap₂ (λ x xs. x ∷ xs) (same_column r f.at) (same_shown fs)

  same_operand : (o : Operand) → eval (operand_term o) full ≡ eval (operand_term o) cut
  same_operand (Parameter n) = refl
  same_operand One = refl

  one_same : (t : Test) → holds full (test_term None t) ≡ holds cut (test_term None t)
  one_same t = ap₂ (λ v w. is_true (binary (Compare (compare_of t.by) Binary) v w)) (same_column r t.column.at) (same_operand t.operand)

  each_same : (t : Test) (more : List Test) → AllByRecursion (λ x. holds full x ≡ holds cut x) (conjuncts (all_of None t more))
  each_same t [] = (one_same t, tt)
  each_same t (u ∷ more) = all-append _ (conjuncts (all_of None u more)) (test_term None t ∷ []) (each_same u more) (one_same t, tt)

  all_same : (xs : List Term) → AllByRecursion (λ x. holds full x ≡ holds cut x) xs → list_all (holds full) xs ≡ list_all (holds cut) xs
  all_same [] h = refl
  all_same (x ∷ xs) h = ap₂ (λ a b. a && b) h.0 (all_same xs h.1)

  pub same_tests : (ts : List Test) → list_all (holds full) (filter_of None ts) ≡ list_all (holds cut) (filter_of None ts)
  same_tests [] = refl
  same_tests (t ∷ more) = all_same (filter_of None (t ∷ more)) (each_same t more)

-- ---- what is said of a query inside a transaction

-- of what the rows that are shown of a store say
abbrev pub Answering : List ℕ → Row → (Database → Vec Row Global → Type 0) → Type 1
Answering text params Found = (old new : State) (outcome : Result (Vec Row Global) Error) → IfOk outcome (λ rows. Shown text params old new rows.items) → IfOk outcome (Found old.now)

module _ {text : List ℕ} {shape : SelectShape} (it : IsSelect text shape) (params : Row) where
  pub is_read : {S : Type 0} {store : Ghosts S} {old new : Transaction S} (outcome : Result (Vec Row Global) Error) {Found : Database → Vec Row Global → Type 0} → new.conn.ghost_name ≡ old.conn.ghost_name
      → (HasCleanDisk (state store new.conn.now) → IfOk outcome (λ rows. Shown text params (state store old.conn.now) (state store new.conn.now) rows.items))
      → (HasCleanDisk (state store new.conn.now) → IfErr outcome (λ e. FailsToQuery text params (state store old.conn.now) (state store new.conn.now) e ⊎ IsTooLate text params (state store old.conn.now) (state store new.conn.now) e))
      → Survives (state store old.conn.now) (state store new.conn.now) (λ _. ⊥) → Answering text params Found → Reads store old new outcome Found
  is_read {S} {store} {old} {new} outcome same ok err survives found =
      let was = state store old.conn.now in
      let is = state store new.conn.now in
      let bare' = bare it was.now.schema in
      record {
        leaves = record { same_reference = same; kept = λ clean. asked_keeps text params was is bare' outcome (ok clean) (err clean); survives = survives };
        same = λ clean. asked_same text params was is bare' outcome (ok clean);
        found = λ clean. found was is outcome (ok clean);
      }

-- ---- all that pass, in any order, or the first of them

module _ {text : List ℕ} {shape : SelectShape} (it : IsSelect text shape) (params : Row) (old new : State) (t : ℕ) (place : IsTableIn old.now.schema shape.table t) (rows : List Row) (h : Shown text params old new rows) where
  pub shows_rows : shape.order ≡ None → IsPermutation (chosen (filter_in shape) (shown_in shape) params (old.now.trees t)) rows
  shows_rows unordered =
      selects text params old new old.now.schema refl t (filter_in shape) (shown_in shape) (names_in shape t)
      (subst (λ by. command_of (understood old.now.schema text) ≡ Select (record { lets = []; body = paged t shape.table.key (filter_in shape) (shown_in shape) by }) (names_in shape t)) unordered (command_is it old.now.schema t place))
      (plain it old.now.schema t place) (apart it old.now.schema t place) (rw place.stored refl) rows h

-- whether a record passes, and what is shown of it

abbrev pub pass : {R : Type 0} → (R → Row) → SelectShape → Row → R → Bool
pass fields shape params = firsts.pass fields (filter_in shape) (shown_in shape) params

abbrev pub show : {R : Type 0} → (R → Row) → SelectShape → Row → R → Row
show fields shape params = firsts.show fields (filter_in shape) (shown_in shape) params

module _ {R : Type 0} (fields : R → Row) {text : List ℕ} {shape : SelectShape} (it : IsSelect text shape) (keyless : shape.table.key ≡ None) (params : Row) where
  tied : (r : Row) → list_all (holds (params ∷ r ∷ [])) (filter_in shape) ≡ list_all (holds (params ∷ (Null ∷ drop 1 r) ∷ [])) (filter_in shape)
  tied r = subst (λ k. list_all (holds (params ∷ r ∷ [])) (filter_of k (reverse shape.tests)) ≡ list_all (holds (params ∷ (Null ∷ drop 1 r) ∷ [])) (filter_of k (reverse shape.tests))) (sym keyless) (same_tests params r (reverse shape.tests))

  shows : (r : Row) → eval_all (shown_in shape) (params ∷ r ∷ []) ≡ eval_all (shown_in shape) (params ∷ (Null ∷ drop 1 r) ∷ [])
  shows r = subst (λ k. eval_all (map (shown_term k) shape.shown) (params ∷ r ∷ []) ≡ eval_all (map (shown_term k) shape.shown) (params ∷ (Null ∷ drop 1 r) ∷ [])) (sym keyless) (same_shown params r shape.shown)

  module _ (old new : State) (t : ℕ) (place : IsTableIn old.now.schema shape.table t) (rows : List Row) (h : Shown text params old new rows) (all : List R) where
    pub shows_all : shape.order ≡ None → IsPermutation (map (drop 1) (old.now.trees t)) (map fields all) → IsPermutation (map (show fields shape params) (filter (pass fields shape params) all)) rows
    shows_all unordered held =
        IsPermutation-trans _ _ _ (IsPermutation-sym _ _ (made_records fields (λ r. list_all (holds (params ∷ r ∷ [])) (filter_in shape)) (λ c. list_all (holds (params ∷ (Null ∷ c) ∷ [])) (filter_in shape)) tied
        (λ r. eval_all (shown_in shape) (params ∷ r ∷ [])) (λ c. eval_all (shown_in shape) (params ∷ (Null ∷ c) ∷ [])) shows (old.now.trees t) all held)) (shows_rows it params old new t place rows h unordered)

    pub shows_first : (by : Sorting) → shape.order ≡ Some by → Holds 1 fields (old.now.trees t) all → firsts.IsFirstRow fields (filter_in shape) (shown_in shape) params (order_by shape.table.key by) t all rows
    shows_first by ordered held =
        firsts.shows_first fields (filter_in shape) (shown_in shape) params (order_by shape.table.key by) tied (λ r. ap₂ (λ a b. (a, b)) (sorted r) (shows r)) text (names_in shape t) old new t rows all
        (subst (λ o. command_of (understood old.now.schema text) ≡ Select (record { lets = []; body = paged t shape.table.key (filter_in shape) (shown_in shape) o }) (names_in shape t)) ordered (command_is it old.now.schema t place))
        (plain it old.now.schema t place) (apart it old.now.schema t place) place.stored held h
      where
        sorted : (r : Row) → eval_all (shown_term shape.table.key by.column ∷ []) (params ∷ r ∷ []) ≡ eval_all (shown_term shape.table.key by.column ∷ []) (params ∷ (Null ∷ drop 1 r) ∷ [])
        sorted r = subst (λ k. eval_all (shown_term k by.column ∷ []) (params ∷ r ∷ []) ≡ eval_all (shown_term k by.column ∷ []) (params ∷ (Null ∷ drop 1 r) ∷ [])) (sym keyless) (same_shown params r (by.column ∷ []))

-- ---- of ledgers that have the records in the table

-- what is shown of each of these
abbrev pub Finding : List ℕ → Row → (Database → Tables → Type 0) → (Tables → List Row → Type 0) → Type 1
Finding text params IsIn Found = Answering text params (λ db rows. (t : Tables) → IsIn db t → Found t rows.items)

module _ {R : Type 0} {text : List ℕ} {shape : SelectShape} (it : IsSelect text shape) (part : Part R shape.table) (params : Row)
    (test : R → Bool) (decides : (r : R) → pass part.fields shape params r ≡ test r) where
  -- all that pass are answered
  pub finds_all : shape.order ≡ None → Finding text params part.IsIn (λ t rows. IsPermutation (map (show part.fields shape params) (filter test (part.records t))) rows)
  finds_all unordered old new (Ok rows) h = λ t l.
      subst (λ (p : R → Bool). IsPermutation (map (show part.fields shape params) (filter p (part.records t))) rows.items) (λ i r. decides r i)
      (shows_all part.fields it part.keyless params old new (part.tree old.now t l) (part.place old.now t l) rows.items h (part.records t) unordered (part.holds old.now t l).same)
  finds_all unordered old new (Err e) h = tt

  -- the first in an order is, of which less may be asked
  module _ (by : Sorting) (ordered : shape.order ≡ Some by) {A : Type 0} (Is : List R → Option A → Type 0) (of : R → A) (shown : A → Row) (NotBefore : R → R → Type 0) where
    abbrev out : R → Row × Row
    out = firsts.out part.fields (filter_in shape) (shown_in shape) params (order_by shape.table.key by)

    -- what the order says of two records, what it is that none passes, and that this one comes first
    pub finds_first : ((t : ℕ) (other r : R) → firsts.before part.fields (filter_in shape) (shown_in shape) params (order_by shape.table.key by) t (out other) (out r) ≡ false → NotBefore other r)
        → ((all : List R) → AllByRecursion (λ r. test r ≡ false) all → Is all None)
        → ((all : List R) (r : R) → Contains all r → test r ≡ true → AllByRecursion (λ other. test other ≡ true → NotBefore other r) all → Is all (Some (of r)))
        → ((r : R) → show part.fields shape params r ≡ shown (of r)) → Finding text params part.IsIn (λ t rows. IsShownOne Is shown (part.records t) rows)
    finds_first ranks none one shows old new (Ok rows) h = λ t l.
        let tree = part.tree old.now t l in
        go tree (part.records t) rows.items (shows_first part.fields it part.keyless params old new tree (part.place old.now t l) rows.items h (part.records t) by ordered (part.holds old.now t l))
      where
        go : (t : ℕ) (all : List R) (rows : List Row) → firsts.IsFirstRow part.fields (filter_in shape) (shown_in shape) params (order_by shape.table.key by) t all rows → IsShownOne Is shown all rows
        go t all [] free = none all (all_weaker _ (λ r. test r ≡ false) (λ r free. sym (decides r) ∙ free) all free)
        go t all (row ∷ more) (r, first, is) = (
          of r,
          one all r (contains_had all r first.there) (sym (decides r) ∙ first.passing)
              (all_weaker _ (λ other. test other ≡ true → NotBefore other r) (λ other low hit. ranks t other r (low (decides other ∙ hit))) all first.first),
          is ∙ shows r,
        )
    finds_first ranks none one shows old new (Err e) h = tt

-- the same of the answers, whose rows with their rowids are those of the records

abbrev pub whole_pass : List Term → Row → AnswerRecord → Bool
whole_pass tests params r = list_all (holds (params ∷ answer_fields r ∷ [])) tests

abbrev whole_show : List Term → Row → AnswerRecord → Row
whole_show project params r = eval_all project (params ∷ answer_fields r ∷ [])

pub chosen_of : (tests project : List Term) (params : Row) (all : List AnswerRecord) → chosen tests project params (map answer_fields all) ≡ map (whole_show project params) (filter (whole_pass tests params) all)
chosen_of tests project params all =
    ap (map (λ r. eval_all project (params ∷ r ∷ []))) (filter-map (λ r. list_all (holds (params ∷ r ∷ [])) tests) answer_fields all)
    ∙ map-map (λ r. eval_all project (params ∷ r ∷ [])) answer_fields (filter (whole_pass tests params) all)

module _ {text : List ℕ} {shown : List Field} {tests : List Test} (it : IsSelect text (unordered answer_table shown tests)) (params : Row) where
  abbrev shape : SelectShape
  shape = unordered answer_table shown tests

  pub finds_answers : (test : AnswerRecord → Bool) → ((r : AnswerRecord) → whole_pass (filter_in shape) params r ≡ test r) → Finding text params HasLedger (λ t rows. IsPermutation (map (whole_show (shown_in shape) params) (filter test t.answers)) rows)
  finds_answers test decides old new (Ok rows) h = λ t l.
      let are = ap (chosen (filter_in shape) (shown_in shape) params) l.holds.answers.rows ∙ chosen_of (filter_in shape) (shown_in shape) params t.answers ∙ ap (λ (p : AnswerRecord → Bool). map (whole_show (shown_in shape) params) (filter p t.answers)) (λ i r. decides r i) in
      subst (λ xs. IsPermutation xs rows.items) are (shows_rows it params old new l.at.answer l.tables.answer rows.items h refl)
  finds_answers test decides old new (Err e) h = tt
