-- What the rows of a strict table hold, none of whose columns may be NULL.
use Rattle.std.proofs.Common.{◌≡◌, ℕ, ℤ, ◌+◌, suc, zero, List, [], ◌∷◌, drop, map, true, false, not, ◌||◌, None, true≢false, arith, refl, sym, ap, ap₂, subst, ◌∙◌}
use Rattle.mq_tables.proofs.Words.{AllByRecursion, Blob, Database, Int, IsDatabase, IsPermutation, IsPermutation-refl, Null, Real, Row, Schema, Table, Text, Trees, all-slice_get, all_weaker, and_parts, column}
use Rattle.std.specs.Prelude.{if◌then◌else◌}
use Rattle.sqlite.specs.declared.types.Value.{Value}
use Rattle.sqlite.specs.Kind.{Kind}
use Rattle.sqlite.specs.Kind.TheVariants as kind
use Rattle.sqlite_sql.specs.Ops.{is_null}
use Rattle.sqlite_schema.specs.declared.schema.Column.{Column}
use Rattle.sqlite_schema.specs.declared.schema.Constraint.{Constraint}
use Rattle.sqlite_schema.specs.declared.schema.Constraint.TheVariants.{Datatype, NotNull}
use Rattle.sqlite_schema.specs.Rules.{is_of, has_affinity, are_typed, are_present, passes, Obeys}
use Rattle.mq_rows.specs.Audit.{Figures}
use Rattle.mq_tables.specs.Figures.{HasAuditTables, HaveCells, HasFigures, WholeTransaction, usage_cells, limit_cells, whole_cells}
use Rattle.mq_tables.specs.Places.{IsTableIn}
use Rattle.mq_tables.specs.Tables.{trans_table, usage_table, ceiling_table}
use Rattle.mq_rows.specs.declared.audited.LimitFigures.{LimitFigures}
use Rattle.mq_rows.specs.declared.audited.UsageFigures.{UsageFigures}
use Rattle.mq_lemmas.proofs.Booleans.{is_not}

-- what a cell of a kind holds

abbrev Content : Kind → Type 0
Content kind.Integer = ℤ
Content kind.Real = Value
Content kind.Text = Value
Content kind.Blob = List ℕ
Content kind.Any = Value

abbrev cell : (k : Kind) → Content k → Value
cell kind.Integer n = Int n
cell kind.Real v = v
cell kind.Text v = v
cell kind.Blob b = Blob b
cell kind.Any v = v

fits : (k : Kind) (v : Value) → is_of k v ≡ true → is_null v ≡ false → (x : Content k) × (v ≡ cell k x)
fits kind.Integer Null of there = absurd (true≢false there)
fits kind.Integer (Int n) of there = (n, refl)
fits kind.Integer (Real x) of there = absurd (true≢false (sym of))
fits kind.Integer (Text t) of there = absurd (true≢false (sym of))
fits kind.Integer (Blob b) of there = absurd (true≢false (sym of))
fits kind.Real v of there = (v, refl)
fits kind.Text v of there = (v, refl)
fits kind.Blob Null of there = absurd (true≢false there)
fits kind.Blob (Int n) of there = absurd (true≢false (sym of))
fits kind.Blob (Real x) of there = absurd (true≢false (sym of))
fits kind.Blob (Text t) of there = absurd (true≢false (sym of))
fits kind.Blob (Blob b) of there = (b, refl)
fits kind.Any v of there = (v, refl)

-- what a row of such cells holds

abbrev Contents : List Column → Type 0
Contents [] = Unit {0}
Contents (c ∷ cs) = Content c.kind × Contents cs

abbrev row_of : (cs : List Column) → Contents cs → Row
row_of [] p = []
row_of (c ∷ cs) p = cell c.kind p.0 ∷ row_of cs p.1

abbrev IsWhole : Column → Type 0
IsWhole c = (c.is_strict ≡ true) × (c.not_null ≡ true)

column_past : (n : ℕ) (row : Row) → drop n row ≡ [] → column row n ≡ Null
column_past zero [] e = refl
column_past zero (v ∷ row) e = absurd cc
column_past (suc n) [] e = refl
column_past (suc n) (v ∷ row) e = column_past n row e

column_at : (n : ℕ) (row : Row) (v : Value) (vs : Row) → drop n row ≡ v ∷ vs → (column row n ≡ v) × (drop (suc n) row ≡ vs)
column_at zero [] v vs e = absurd cc
column_at zero (w ∷ row) v vs e = (cc, cc)
column_at (suc n) [] v vs e = absurd cc
column_at (suc n) (w ∷ row) v vs e = column_at n row v vs e

typed : (cs : List Column) → AllByRecursion IsWhole cs → (at : ℕ) (row vs : Row) → drop (at + 1) row ≡ vs → are_typed None at cs vs ≡ true → are_present None at cs row ≡ true → (p : Contents cs) × (vs ≡ row_of cs p)
typed [] whole at row [] is fit there = (tt, refl)
typed [] whole at row (v ∷ vs) is fit there = absurd (true≢false (sym fit))
typed (c ∷ cs) whole at row [] is fit there =
    absurd (true≢false (sym (and_parts _ _ there).0 ∙ ap₂ (λ b v. not b || not (is_null v)) whole.0.1 (column_past (at + 1) row is)))
typed (c ∷ cs) whole at row (v ∷ vs) is fit there =
    let here = column_at (at + 1) row v vs is in
    let place : suc (at + 1) ≡ at + 1 + 1 = omega arith in
    let next : drop (at + 1 + 1) row ≡ vs = subst (λ k. drop k row ≡ vs) place here.1 in
    let present : is_null v ≡ false = is_not (is_null v) (sym (ap₂ (λ b w. not b || not (is_null w)) whole.0.1 here.0) ∙ (and_parts _ _ there).0) in
    let of : is_of c.kind v ≡ true = sym (ap (λ b. if b then is_of c.kind v else has_affinity c.kind v) whole.0.0) ∙ (and_parts _ _ fit).0 in
    let one = fits c.kind v of present in
    let more = typed cs whole.1 (at + 1) row vs next (and_parts _ _ fit).1 (and_parts _ _ there).1 in
    ((one.0, more.0), ap₂ (λ x xs. x ∷ xs) one.1 more.1)

typed_rows : (cs : List Column) → AllByRecursion IsWhole cs → (rows : List Row) → AllByRecursion (λ row. are_typed None 0 cs (drop 1 row) ≡ true) rows → AllByRecursion (λ row. are_present None 0 cs row ≡ true) rows
    → (ps : List (Contents cs)) × (map (drop 1) rows ≡ map (row_of cs) ps)
typed_rows cs whole [] fit there = ([], refl)
typed_rows cs whole (row ∷ rows) fit there =
    let one = typed cs whole 0 row (drop 1 row) refl fit.0 there.0 in
    let more = typed_rows cs whole rows fit.1 there.1 in
    (one.0 ∷ more.0, ap₂ (λ x xs. x ∷ xs) one.1 more.1)

-- the rows of a table of a sound store

module _ (schema : Schema) (db : Trees) (obeys : Obeys schema db) (made : Table) (tree : ℕ) (place : IsTableIn schema made tree) (keyless : made.key ≡ None) (whole : AllByRecursion IsWhole made.columns) where
  kept : (rule : Constraint) → AllByRecursion (λ row. passes rule schema db (record made { tree = tree }) row ≡ true) (db tree)
  kept rule = all-slice_get (λ t. AllByRecursion (λ row. passes rule schema db t row ≡ true) (db t.tree)) schema.tables place.at (record made { tree = tree }) place.there (obeys.rules rule)

  held : (ps : List (Contents made.columns)) × (map (drop 1) (db tree) ≡ map (row_of made.columns) ps)
  held = typed_rows made.columns whole (db tree)
      (all_weaker _ _ (λ row h. subst (λ k. are_typed k 0 made.columns (drop 1 row) ≡ true) keyless (and_parts _ _ h).0) (db tree) (kept Datatype))
      (all_weaker _ _ (λ row h. subst (λ k. are_present k 0 made.columns row ≡ true) keyless h) (db tree) (kept NotNull))

  mapped : {R : Type 0} (cells : R → Row) (from : Contents made.columns → R) → ((p : Contents made.columns) → row_of made.columns p ≡ cells (from p)) → (ps : List (Contents made.columns)) → map (row_of made.columns) ps ≡ map cells (map from ps)
  mapped cells from same [] = refl
  mapped cells from same (p ∷ ps) = ap₂ (λ x xs. x ∷ xs) (same p) (mapped cells from same ps)

  have_cells : {R : Type 0} (cells : R → Row) (from : Contents made.columns → R) → ((p : Contents made.columns) → row_of made.columns p ≡ cells (from p)) → (all : List R) × HaveCells cells (db tree) all
  have_cells cells from same = (map from held.0, subst (IsPermutation (map (drop 1) (db tree))) (held.1 ∙ mapped cells from same held.0) (IsPermutation-refl _))

-- the three tables

abbrev usage_of : Contents usage_table.columns → UsageFigures
usage_of p = record { pair = record { login = p.0; day = p.1.0 }; settled = p.1.1.0; reserved = p.1.1.1.0 }

abbrev limit_of : Contents ceiling_table.columns → LimitFigures
limit_of p = record { pair = record { login = p.0; day = p.1.0 }; cap = p.1.1.0 }

abbrev whole_of : Contents trans_table.columns → WholeTransaction
whole_of p = record {
  host = p.0;
  run = p.1.0;
  txn = p.1.1.0;
  figures = record { pair = record { login = p.1.1.1.0; day = p.1.1.1.1.1.0 }; moment = p.1.1.1.1.0; held = p.1.1.1.1.1.1.0; settled = p.1.1.1.1.1.1.1.0 };
  closed = p.1.1.1.1.1.1.1.1.0;
}

pub figures_there : (db : Database) → IsDatabase db → HasAuditTables db.schema → (f : Figures) × HasFigures db f
figures_there db sound tables =
    let trans = have_cells db.schema db.trees sound.obeys trans_table tables.trans_tree tables.trans refl (search) whole_cells whole_of (λ p. refl) in
    let usage = have_cells db.schema db.trees sound.obeys usage_table tables.usage_tree tables.usage refl (search) usage_cells usage_of (λ p. refl) in
    let ceiling = have_cells db.schema db.trees sound.obeys ceiling_table tables.ceiling_tree tables.ceiling refl (search) limit_cells limit_of (λ p. refl) in (
      record { usage = usage.0; transactions = map (λ (w : WholeTransaction). w.figures) trans.0; limits = ceiling.0 },
      record { tables = tables; whole = trans.0; holds_trans = trans.1; holds_usage = usage.1; holds_ceiling = ceiling.1; transactions = refl },
    )
