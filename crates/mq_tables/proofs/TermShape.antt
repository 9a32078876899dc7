-- The terms of one statement on one table: the columns that it shows, and the tests of its WHERE, each of a column against a parameter or the number 1.
use Rattle.std.proofs.Common.{pos, codes, not, ◌≡◌, ◌≤◌, ℕ, suc, ◌+◌, ◌-◌, ◌==◌, nat_lt, List, [], ◌∷◌, ◌++◌, map, length, Bool, true, false, ◌&&◌, Option, Some, None, Ok, slice_get, arith, append-nil, append_assoc, refl, sym, ap, ap₂, subst, ◌∙◌}
use Rattle.mq_tables.proofs.Words.{Context, Expr, Int, Name, Table, Term, and_parts, col, column_named, declared, eqb-true, everything, is_key, list_all, lit, lt-ltb, op2, out-Expr, out-roll-Expr, roll-Expr}
use Rattle.std.specs.Prelude.{if◌then◌else◌, unwrap_or, option_map}
use Rattle.sqlite_ast.specs.declared.Expr.TheOpen.{Expr-F, Shown-F}
use Rattle.sqlite_ast.specs.declared.Shown.{Shown, roll-Shown, out-roll-Shown}
use Rattle.sqlite_ast.specs.declared.Binary.{Binary as Sign}
use Rattle.sqlite_ast.specs.declared.Binary.TheVariants as sign
use Rattle.sqlite_schema.specs.declared.schema.Column.{Column}
use Rattle.sqlite_schema.specs.declared.schema.Kind.{Kind}
use Rattle.sqlite_schema.specs.declared.schema.Kind.TheVariants as kind
use Rattle.sqlite_value.specs.declared.keys.Collation.{Collation}
use Rattle.sqlite_value.specs.declared.keys.Collation.TheVariants.{Binary}
use Rattle.sqlite_value.specs.declared.keys.Collation.TheVariants as collation
use Rattle.sqlite_sql.specs.declared.ops.BinaryOp.TheVariants.{Compare, And}
use Rattle.sqlite_sql.specs.declared.ops.CompareOp.{CompareOp}
use Rattle.sqlite_sql.specs.declared.ops.CompareOp.TheVariants.{Eq, Le, Ge}
use Rattle.sqlite_resolve.specs.declared.compare.Affinity.{Affinity}
use Rattle.sqlite_resolve.specs.declared.compare.Affinity.TheVariants as affinity
use Rattle.sqlite_resolve.specs.declared.scope.Bound.{Bound}
use Rattle.sqlite_resolve.specs.declared.scope.Output.{Output}
use Rattle.sqlite_resolve.specs.declared.state.Carried.{Carried}
use Rattle.sqlite_resolve.specs.declared.state.State.{State}
use Rattle.sqlite_resolve.specs.Lowering.{nothing, chosen, alone, first_found, spend, begin, finish}
use Rattle.sqlite_resolve.specs.Body.{outputs_from, tests, shown as shown_in}
use Rattle.sqlite_resolve.specs.Expr.{lower, lower_to, node, opened, passes, operation, both, combine, tests_truth, tests_alias, wanted_truth}
use Rattle.sqlite_resolve.specs.Terms.{conjuncts}
use Rattle.sqlite_resolve.specs.Literal.{integer}
use Rattle.sqlite_resolve.specs.Compare.{compared, affinity_of, of_column, converted, may_be_text, of_kind, of_declared, is_filler}
use Rattle.mq_tables.proofs.Selecting.{column_shown, column_lowered, parameter_lowered, integer_lowered, and_lowered, tested, outputs_next}

-- a column, by its name and by its place in the table
pub record Field : Type 0 where
  pub name : Name
  pub at : ℕ

abbrev pub field : List ℕ → ℕ → Field
field name at = record { name = name; at = at }

pub data Relation : Type 0 where
  Same : Relation
  AtMost : Relation
  AtLeast : Relation

-- as it is written, and as it is computed
abbrev pub sign_of : Relation → Sign
sign_of Same = sign.Eq
sign_of AtMost = sign.Le
sign_of AtLeast = sign.Ge

abbrev pub compare_of : Relation → CompareOp
compare_of Same = Eq
compare_of AtMost = Le
compare_of AtLeast = Ge

-- parameters count from 1, as in the text
pub data Operand : Type 0 where
  Parameter : ℕ → Operand
  One : Operand

pub record Test : Type 0 where
  pub column : Field
  pub by : Relation
  pub operand : Operand

abbrev pub against : Field → Relation → ℕ → Test
against f by n = record { column = f; by = by; operand = Parameter n }

abbrev pub is_one : Field → Test
is_one f = record { column = f; by = Same; operand = One }

-- ---- the table has the column, and compares it as it is

abbrev is_at : Option ℕ → ℕ → Bool
is_at None at = false
is_at (Some found) at = found == at

abbrev is_binary : Collation → Bool
is_binary collation.Binary = true
is_binary _ = false

abbrev is_text : Kind → Bool
is_text kind.Text = true
is_text _ = false

abbrev is_plain : Option Column → Bool
is_plain None = false
is_plain (Some c) = (c.is_strict && is_binary c.collation) && not (is_text c.kind)

abbrev pub is_field : Table → Field → Bool
is_field table f = is_at (column_named table f.name) f.at && is_plain (slice_get table.columns f.at)

pub record IsField (table : Table) (f : Field) : Type 0 where
  pub column : Column
  pub named : column_named table f.name ≡ Some f.at
  pub there : slice_get table.columns f.at ≡ Some column
  pub strict : column.is_strict ≡ true
  pub binary : column.collation ≡ Binary
  pub textless : not (is_text column.kind) ≡ true

at_it : (found : Option ℕ) (at : ℕ) → is_at found at ≡ true → found ≡ Some at
at_it None at h = absurd (cc)
at_it (Some found) at h = ap Some (eqb-true found at h)

binary_it : (c : Collation) → is_binary c ≡ true → c ≡ Binary
binary_it collation.Binary h = refl
binary_it collation.NoCase h = absurd (cc)
binary_it collation.RTrim h = absurd (cc)

pub of_field : (table : Table) (f : Field) → is_field table f ≡ true → IsField table f
of_field table f h = let both = and_parts _ _ h in go (slice_get table.columns f.at) refl (at_it _ f.at both.0) both.1
  where
    go : (c : Option Column) → slice_get table.columns f.at ≡ c → column_named table f.name ≡ Some f.at → is_plain c ≡ true → IsField table f
    go None is named plain = absurd (cc)
    go (Some c) is named plain = let parts = and_parts (c.is_strict && is_binary c.collation) (not (is_text c.kind)) plain in let more = and_parts _ _ parts.0 in record { column = c; named = named; there = is; strict = more.0; binary = binary_it c.collation more.1; textless = parts.1 }

-- ---- terms

-- where a row has the column: first the rowid, which stands for the column that is the key, if there is one
abbrev pub place : Option ℕ → ℕ → ℕ
place key at = if is_key key at then 0 else at + 1

abbrev pub shown_term : Option ℕ → Field → Term
shown_term key f = col 1 (place key f.at)

abbrev pub operand_term : Operand → Term
operand_term (Parameter n) = col 0 (n - 1)
operand_term One = lit (Int (pos 1))

abbrev pub test_term : Option ℕ → Test → Term
test_term key t = op2 (Compare (compare_of t.by) Binary) (col 1 (place key t.column.at)) (operand_term t.operand)

-- the last test stands first in these lists, as the outermost AND has it
abbrev pub all_of : Option ℕ → Test → List Test → Term
all_of key t [] = test_term key t
all_of key t (u ∷ more) = op2 And (all_of key u more) (test_term key t)

abbrev pub filter_of : Option ℕ → List Test → List Term
filter_of key [] = []
filter_of key (t ∷ more) = conjuncts (all_of key t more)

-- a column has the name that it was declared with
abbrev pub heading_of : Table → Field → Name
heading_of table f = unwrap_or (option_map (λ (c : Column). c.name) (slice_get table.columns f.at)) f.name

abbrev pub carried_at : Option ℕ → ℕ → Carried
carried_at key at = if is_key key at then nothing else record { collation = Some Binary; is_written = false }

abbrev pub output_of : Table → Field → Output
output_of table f = record { name = heading_of table f; is_alias = false; is_column = true; term = shown_term table.key f; carried = carried_at table.key f.at }

-- ---- how they are written

abbrev pub column_as : Name → Expr
column_as name = roll-Expr (Expr-F.Column None name)

abbrev pub parameter_as : ℕ → Expr
parameter_as n = roll-Expr (Expr-F.Parameter n)

abbrev operand_as : Operand → Expr
operand_as (Parameter n) = parameter_as n
operand_as One = roll-Expr (Expr-F.Integer (codes "1"))

abbrev test_as : Test → Expr
test_as t = roll-Expr (Expr-F.Binary (sign_of t.by) (column_as t.column.name) (operand_as t.operand))

abbrev all_as : Test → List Test → Expr
all_as t [] = test_as t
all_as t (u ∷ more) = roll-Expr (Expr-F.Binary sign.And (all_as u more) (test_as t))

abbrev pub filter_as : List Test → Option Expr
filter_as [] = None
filter_as (t ∷ more) = Some (all_as t more)

abbrev pub shown_as : Field → Shown
shown_as f = roll-Shown (Shown-F.One (column_as f.name) None f.name)

-- ---- what reading them takes

abbrev pub state_of : ℕ → Carried → State
state_of budget last = record { next = 2; steps = []; aggregates = []; budget = budget; written = None; last = last }

abbrev pub depth_of : List Test → ℕ
depth_of [] = 2
depth_of (t ∷ more) = depth_of more + 1

abbrev pub nodes_of : List Test → ℕ
nodes_of [] = 3
nodes_of (t ∷ more) = nodes_of more + 4

abbrev pub spent_on : List Test → ℕ
spent_on [] = 0
spent_on (t ∷ more) = nodes_of more

pub spent_most : (ts : List Test) → spent_on ts ≤ nodes_of ts
spent_most [] = omega arith
spent_most (t ∷ more) = omega (arith, nodes_more more)
  where
    nodes_more : (us : List Test) → nodes_of us ≤ nodes_of us + 4
    nodes_more us = omega arith

abbrev pub last_after : List Test → Carried → Carried
last_after [] last = last
last_after (t ∷ more) last = nothing

abbrev pub last_shown : Option ℕ → List Field → Carried → Carried
last_shown key [] last = last
last_shown key (f ∷ fs) last = last_shown key fs (carried_at key f.at)

abbrev pub bound_at : ℕ → Name → Bound
bound_at at name = record { name = name; table = at; slot = 1; shared = [] }

-- what makes a comparison convert the other side
abbrev converts : Affinity → Bool
converts affinity.Loose = true
converts affinity.Text = true
converts _ = false

either_way : {X : Type 0} (x : X) (b : Bool) → (if b then x else x) ≡ x
either_way x true = refl
either_way x false = refl

firm_kind : (b : Bool) (k : Kind) → not (is_text k) ≡ true → converts (if b then affinity.None else of_kind k) ≡ false
firm_kind true k h = refl
firm_kind false kind.Integer h = refl
firm_kind false kind.Real h = refl
firm_kind false kind.Text h = absurd (cc)
firm_kind false kind.Blob h = refl
firm_kind false kind.Any h = refl

firm_column : (c : Column) → c.is_strict ≡ true → not (is_text c.kind) ≡ true → converts (of_declared c) ≡ false
firm_column c strict textless = rw strict (firm_kind (is_filler c) c.kind textless)

left_alone : (a : Affinity) (t : Term) → converted a affinity.None t ≡ t
unfolding converted
left_alone affinity.Numeric t = refl
left_alone affinity.Loose t = refl
left_alone affinity.Text t = refl
left_alone affinity.Blob t = refl
left_alone affinity.None t = refl

converted_operand : (a : Affinity) (o : Operand) → converts a ≡ false → converted affinity.None a (operand_term o) ≡ operand_term o
unfolding converted may_be_text
converted_operand affinity.Numeric (Parameter n) h = refl
converted_operand affinity.Numeric One h = refl
converted_operand affinity.Loose o h = absurd (cc)
converted_operand affinity.Text o h = absurd (cc)
converted_operand affinity.Blob o h = refl
converted_operand affinity.None o h = refl

pub one_reads : integer false (codes "1") ≡ Ok (Int (pos 1))
unfolding everything
one_reads = refl

pub carried_is : (table : Table) (at : ℕ) (c : Column) → c.collation ≡ Binary → declared table at c ≡ carried_at table.key at
carried_is table at c binary = ap (λ k. if is_key table.key at then nothing else record { collation = Some k; is_written = false }) binary

binary_chosen : (key : Option ℕ) (at : ℕ) → chosen (carried_at key at) nothing ≡ Binary
unfolding chosen alone first_found
binary_chosen key at = elim (is_key key at) as (λ b. chosen (if b then nothing else record { collation = Some Binary; is_written = false }) nothing ≡ Binary) [ true ↦ refl | false ↦ refl ]

pub binary_alone : (key : Option ℕ) (at : ℕ) → alone (carried_at key at) ≡ Binary
unfolding alone
binary_alone key at = elim (is_key key at) as (λ b. alone (if b then nothing else record { collation = Some Binary; is_written = false }) ≡ Binary) [ true ↦ refl | false ↦ refl ]

heading_is : (table : Table) (f : Field) (c : Column) → slice_get table.columns f.at ≡ Some c → c.name ≡ heading_of table f
heading_is table f c there = rw there refl

module _ (cx : Context) (at : ℕ) (name : Name) (shown : List Output) (table : Table) (levels : cx.levels ≡ record { tables = bound_at at name ∷ []; shown = shown } ∷ []) (there : slice_get cx.schema.tables at ≡ Some table) where
  operand_affinity : (o : Operand) → affinity_of cx (operand_term o) ≡ affinity.None
  unfolding affinity_of of_column
  operand_affinity (Parameter n) = rw levels (either_way affinity.None (n - 1 == 0))
  operand_affinity One = refl

  column_affinity : (f : Field) → IsField table f → converts (affinity_of cx (shown_term table.key f)) ≡ false
  unfolding affinity_of of_column
  column_affinity f it = go (is_key table.key f.at)
    where
      go : (b : Bool) → converts (affinity_of cx (col 1 (if b then 0 else f.at + 1))) ≡ false
      go true = rw levels refl
      go false = let next : f.at + 1 ≡ suc f.at = omega arith in rw (next, levels, there, it.there) (firm_column it.column it.strict it.textless)

  compared_is : (t : Test) → IsField table t.column → compared cx (Compare (compare_of t.by) Binary) (shown_term table.key t.column) (operand_term t.operand) ≡ test_term table.key t
  unfolding compared
  compared_is t it =
      rw (operand_affinity t.operand, left_alone (affinity_of cx (shown_term table.key t.column)) (shown_term table.key t.column), converted_operand (affinity_of cx (shown_term table.key t.column)) t.operand (column_affinity t.column it)) refl

  operand_lowered : (o : Operand) (depth : ℕ) (st : State) → nat_lt 1 st.budget ≡ true → st.written ≡ None → lower_to (suc depth) cx (operand_as o) st ≡ Ok (operand_term o, record st { budget = st.budget - 1; written = None; last = nothing })
  operand_lowered (Parameter n) depth st enough unwritten = parameter_lowered cx depth (operand_as (Parameter n)) n (out-roll-Expr _) st enough unwritten
  operand_lowered One depth st enough unwritten = integer_lowered cx depth (operand_as One) (codes "1") (Int (pos 1)) (out-roll-Expr _) one_reads st enough unwritten

  either_lowered : (by : Relation) (depth : ℕ) (e a c : Expr) (x y : Term) (st one two : State) → out-Expr e ≡ Expr-F.Binary (sign_of by) a c → nat_lt 1 st.budget ≡ true → st.written ≡ None
      → lower_to depth cx a (record st { budget = st.budget - 1; written = None; last = nothing }) ≡ Ok (x, one) → lower_to depth cx c one ≡ Ok (y, two) → two.written ≡ None
      → lower_to (suc depth) cx e st ≡ Ok (compared cx (Compare (compare_of by) (chosen one.last two.last)) x y, record two { written = None; last = nothing })
  unfolding lower_to node spend begin opened finish passes operation both combine tests_truth tests_alias wanted_truth
  either_lowered Same depth e a c x y st one two is enough unwritten first second after = rw (is, enough, first, second, after, unwritten)
  either_lowered AtMost depth e a c x y st one two is enough unwritten first second after = rw (is, enough, first, second, after, unwritten)
  either_lowered AtLeast depth e a c x y st one two is enough unwritten first second after = rw (is, enough, first, second, after, unwritten)

  test_lowered : (t : Test) → is_field table t.column ≡ true → (depth budget : ℕ) (last : Carried) → 5 ≤ budget
      → lower_to (suc (suc depth)) cx (test_as t) (state_of budget last) ≡ Ok (test_term table.key t, state_of (budget - 1 - 1 - 1) nothing)
  test_lowered t known depth budget last enough =
      let it = of_field table t.column known in
      let column = column_lowered cx (bound_at at name) shown table levels refl there t.column.name t.column.at it.column it.named it.there (column_as t.column.name) (out-roll-Expr _) depth (state_of (budget - 1) nothing) (lt-ltb 1 (budget - 1) (omega (arith, enough))) refl in
      let carried = carried_is table t.column.at it.column it.binary in
      let operand = operand_lowered t.operand depth (state_of (budget - 1 - 1) (declared table t.column.at it.column)) (lt-ltb 1 (budget - 1 - 1) (omega (arith, enough))) refl in
      let both = either_lowered t.by (suc depth) (test_as t) (column_as t.column.name) (operand_as t.operand) (shown_term table.key t.column) (operand_term t.operand) (state_of budget last) (state_of (budget - 1 - 1) (declared table t.column.at it.column)) (state_of (budget - 1 - 1 - 1) nothing) (out-roll-Expr _) (lt-ltb 1 budget (omega (arith, enough))) refl column operand refl in
      both ∙ ap (λ k. Ok (compared cx (Compare (compare_of t.by) k) (shown_term table.key t.column) (operand_term t.operand), state_of (budget - 1 - 1 - 1) nothing)) (ap (λ k. chosen k nothing) carried ∙ binary_chosen table.key t.column.at)
      ∙ ap (λ x. Ok (x, state_of (budget - 1 - 1 - 1) nothing)) (compared_is t it)

  all_lowered : (t : Test) (more : List Test) → list_all (λ (u : Test). is_field table u.column) (t ∷ more) ≡ true → (depth budget : ℕ) (last : Carried) → depth_of more ≤ depth → nodes_of more + 2 ≤ budget
      → lower_to depth cx (all_as t more) (state_of budget last) ≡ Ok (all_of table.key t more, state_of (budget - nodes_of more) nothing)
  all_lowered t [] known depth budget last deep enough =
      let down : suc (suc (depth - 2)) ≡ depth = omega (arith, deep) in
      let left : budget - 1 - 1 - 1 ≡ budget - 3 = omega arith in
      subst (λ d. lower_to d cx (test_as t) (state_of budget last) ≡ Ok (test_term table.key t, state_of (budget - 3) nothing)) down
      (test_lowered t (and_parts _ _ known).0 (depth - 2) budget last (omega (arith, enough)) ∙ ap (λ b. Ok (test_term table.key t, state_of b nothing)) left)
  all_lowered t (u ∷ more) known depth budget last deep enough =
      let both = and_parts (is_field table t.column) (list_all (λ (v : Test). is_field table v.column) (u ∷ more)) known in
      let down : suc (suc (suc (depth - 1 - 2))) ≡ depth = omega (arith, deep, deep_so more) in
      let next : suc (suc (depth - 1 - 2)) ≡ depth - 1 = omega (arith, deep, deep_so more) in
      let one = all_lowered u more both.1 (depth - 1) (budget - 1) nothing (omega (arith, deep)) (omega (arith, enough)) in
      let two = test_lowered t both.0 (depth - 1 - 2) (budget - 1 - nodes_of more) nothing (omega (arith, enough)) in
      let left : budget - 1 - nodes_of more - 1 - 1 - 1 ≡ budget - (nodes_of more + 4) = omega arith in
      subst (λ d. lower_to d cx (all_as t (u ∷ more)) (state_of budget last) ≡ Ok (all_of table.key t (u ∷ more), state_of (budget - nodes_of (u ∷ more)) nothing)) down
      (and_lowered cx (suc (suc (depth - 1 - 2))) (all_as t (u ∷ more)) (all_as u more) (test_as t) (all_of table.key u more) (test_term table.key t) (state_of budget last) (state_of (budget - 1 - nodes_of more) nothing) (state_of (budget - 1 - nodes_of more - 1 - 1 - 1) nothing) (out-roll-Expr _) (lt-ltb 1 budget (omega (arith, enough))) refl
      (subst (λ d. lower_to d cx (all_as u more) (state_of (budget - 1) nothing) ≡ Ok (all_of table.key u more, state_of (budget - 1 - nodes_of more) nothing)) (sym next) one) two refl
      ∙ ap (λ b. Ok (all_of table.key t (u ∷ more), state_of b nothing)) left)
    where
      deep_so : (ts : List Test) → 2 ≤ depth_of ts
      deep_so [] = omega arith
      deep_so (v ∷ ts) = omega (arith, deep_so ts)

  pub filter_lowered : (ts : List Test) → list_all (λ (u : Test). is_field table u.column) ts ≡ true → (budget : ℕ) (last : Carried) → depth_of ts ≤ 700 → nodes_of ts ≤ budget
      → tests lower cx [] (filter_as ts) (state_of budget last) ≡ Ok (filter_of table.key ts, state_of (budget - spent_on ts) (last_after ts last))
  unfolding tests
  filter_lowered [] known budget last deep enough = let same : budget ≡ budget - 0 = omega arith in ap (λ b. Ok ([], state_of b last)) same
  filter_lowered (t ∷ more) known budget last deep enough =
      tested cx (all_as t more) (all_of table.key t more) [] (state_of budget last) (state_of (budget - nodes_of more) nothing) (all_lowered t more known 700 budget last (omega (arith, deep)) (omega (arith, enough)))

  pub fields_shown : (fs : List Field) → list_all (is_field table) fs ≡ true → (done : List Output) (budget : ℕ) (last : Carried) → length fs + 2 ≤ budget
      → outputs_from lower cx (bound_at at name ∷ []) done (map shown_as fs) (state_of budget last) ≡ Ok (done ++ map (output_of table) fs, state_of (budget - length fs) (last_shown table.key fs last))
  fields_shown [] known done budget last enough = let same : budget ≡ budget - 0 = omega arith in ap₂ (λ xs b. Ok (xs, state_of b last)) (sym (append-nil done)) same
  fields_shown (f ∷ fs) known done budget last enough =
      let parts = and_parts _ _ known in
      let it = of_field table f parts.0 in
      let shown' = column_shown cx (bound_at at name) shown table levels refl there f.name f.at it.column it.named it.there (column_as f.name) (out-roll-Expr _) (shown_as f) f.name (out-roll-Shown _) (bound_at at name ∷ []) done (state_of budget last) (lt-ltb 1 budget (omega (arith, enough))) refl in
      let carried = carried_is table f.at it.column it.binary in
      let heading = heading_is table f it.column it.there in
      let one : shown_in lower cx (bound_at at name ∷ []) done (shown_as f) (state_of budget last) ≡ Ok (done ++ output_of table f ∷ [], state_of (budget - 1) (carried_at table.key f.at)) =
      shown' ∙ ap₂ (λ h k. Ok (done ++ record { name = h; is_alias = false; is_column = true; term = shown_term table.key f; carried = k } ∷ [], state_of (budget - 1) k)) heading carried in
      let rest = fields_shown fs parts.1 (done ++ output_of table f ∷ []) (budget - 1) (carried_at table.key f.at) (omega (arith, enough)) in
      let left : budget - 1 - length fs ≡ budget - length (f ∷ fs) = omega arith in
      outputs_next cx (bound_at at name ∷ []) (shown_as f) (map shown_as fs) done (done ++ output_of table f ∷ []) ((done ++ output_of table f ∷ []) ++ map (output_of table) fs) (state_of budget last) (state_of (budget - 1) (carried_at table.key f.at)) (state_of (budget - 1 - length fs) (last_shown table.key fs (carried_at table.key f.at))) one rest
      ∙ ap₂ (λ xs b. Ok (xs, state_of b (last_shown table.key fs (carried_at table.key f.at)))) (append_assoc done (output_of table f ∷ []) (map (output_of table) fs)) left
