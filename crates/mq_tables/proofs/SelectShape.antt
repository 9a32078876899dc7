-- A SELECT on one table by a conjunction of tests, with or without an order and a limit of one row, over any schema that has the table at some place.
use Rattle.std.proofs.Common.{pos, negsuc, ◌≡◌, ◌≤◌, ℕ, ◌+◌, ◌-◌, ◌^◌, nat_le, ◌&&◌, List, [], ◌∷◌, ◌==◌, find, map, reverse, length, Bool, true, false, Option, Some, None, Ok, Err, codes, arith, refl, sym, ap, subst, ◌∙◌}
use Rattle.mq_tables.proofs.Words.{Compiled, Context, Expr, Int, IsPlain, Name, Schema, Table, Term, accepts_program, and_parts, command_of, compiled, first, fresh, if_select, leb-true, list_all, listing_schema, lit, lt-ltb, map-map, max_budget, nothing, out-roll-Expr, planned, position_from, reads_listing, roll-Expr, same_name, understood, with_command}
use Rattle.sqlite_ast.specs.declared.Expr.TheOpen.{Expr-F}
use Rattle.sqlite_ast.specs.declared.Source.{Source, out-Source, roll-Source, out-roll-Source}
use Rattle.sqlite_ast.specs.declared.Core.{Core, out-Core, roll-Core, out-roll-Core}
use Rattle.sqlite_ast.specs.declared.Select.{Select, out-Select, roll-Select, out-roll-Select}
use Rattle.sqlite_ast.specs.declared.Sort.{Sort, out-Sort, roll-Sort, out-roll-Sort}
use Rattle.sqlite_ast.specs.declared.Origin.TheVariants as origin
use Rattle.sqlite_ast.specs.declared.Statement.TheVariants as written
use Rattle.sqlite.specs.Query.{Query}
use Rattle.sqlite_value.specs.declared.keys.Collation.TheVariants.{Binary}
use Rattle.sqlite_value.specs.declared.keys.Key.{Key}
use Rattle.sqlite_draft.specs.declared.join.Step.TheVariants.{Inner}
use Rattle.sqlite_draft.specs.declared.query.Draft.{Draft}
use Rattle.sqlite_draft.specs.Query.{query_of}
use Rattle.sqlite_resolve.specs.declared.scope.Output.{Output}
use Rattle.sqlite_resolve.specs.declared.state.Carried.{Carried}
use Rattle.sqlite_resolve.specs.declared.state.State.{State}
use Rattle.sqlite_resolve.specs.Select.{outermost, inside, constant_or}
use Rattle.sqlite_resolve.specs.Order.{sorts}
use Rattle.sqlite_resolve.specs.Body.{within, body, bounds, joins, tests, outputs_from}
use Rattle.sqlite_resolve.specs.Expr.{lower}
use Rattle.sqlite_resolve.specs.declared.error.CompileError.TheVariants.{NoSuchTable}
use Rattle.sqlite.specs.Command.TheVariants.{Select as Select'}
use Rattle.mq_tables.specs.Places.{IsTableIn}
use Rattle.mq_tables.specs.Written.{plain_query, latest_query}
use Rattle.mq_tables.proofs.Plain.{parsed_in, IsQuery, IsBare, any_bare, as_compiled}
use Rattle.mq_tables.proofs.Selecting.{bound_one, column_lowered, join_one, body_is, sorts_none, sorts_one, parts_are, draft_of, named_is, number_limit, no_limit, query_is, plan_selects}
use Rattle.mq_tables.proofs.TermShape.{Field, Test, one_reads, is_field, of_field, carried_is, binary_alone, shown_term, filter_of, carried_at, output_of, column_as, filter_as, shown_as, state_of, depth_of, nodes_of, spent_on, spent_most, last_after, last_shown, bound_at, filter_lowered, fields_shown}

pub record Sorting : Type 0 where
  pub column : Field
  pub descending : Bool

-- the tests as they are written; an order shows its first row alone
pub record SelectShape : Type 0 where
  pub table : Table
  pub shown : List Field
  pub tests : List Test
  pub order : Option Sorting

-- all that pass, in any order
abbrev pub unordered : Table → List Field → List Test → SelectShape
unordered table shown tests = record { table = table; shown = shown; tests = tests; order = None }

-- the first of those that pass in an order
abbrev pub first_by : Sorting → Table → List Field → List Test → SelectShape
first_by by table shown tests = record { table = table; shown = shown; tests = tests; order = Some by }

abbrev pub in_tree : SelectShape → ℕ → Table
in_tree shape t = record shape.table { tree = t }

abbrev pub filter_in : SelectShape → List Term
filter_in shape = filter_of shape.table.key (reverse shape.tests)

abbrev pub shown_in : SelectShape → List Term
shown_in shape = map (shown_term shape.table.key) shape.shown

abbrev pub order_by : Option ℕ → Sorting → List (Term × Key)
order_by key by = (shown_term key by.column, record { collation = Binary; descending = by.descending }) ∷ []

abbrev pub paged : ℕ → Option ℕ → List Term → List Term → Option Sorting → Query
paged t key tests project None = plain_query t tests project
paged t key tests project (Some by) = latest_query t tests project (order_by key by)

abbrev pub query_in : SelectShape → ℕ → Query
query_in shape t = paged t shape.table.key (filter_in shape) (shown_in shape) shape.order

abbrev pub names_in : SelectShape → ℕ → List Name
names_in shape t = map (λ (o : Output). o.name) (map (output_of (in_tree shape t)) shape.shown)

abbrev pub compiled_of : List ℕ → SelectShape → ℕ → Compiled
compiled_of text shape t = with_command (parsed_in (first text)) ([], (Select' (record { lets = []; body = query_in shape t }) (names_in shape t), None))

-- ---- how the text is written

abbrev source_as : Name → Source
source_as name = roll-Source (record { is_left = false; origin = origin.Table name; alias = None; on = None; using = [] })

abbrev sort_as : Sorting → Sort
sort_as by = roll-Sort (record { key = column_as by.column.name; descending = by.descending; nulls_first = None })

abbrev one_as : Expr
one_as = roll-Expr (Expr-F.Integer (codes "1"))

abbrev order_as : Option Sorting → List Sort
order_as None = []
order_as (Some by) = sort_as by ∷ []

abbrev limit_as : Option Sorting → Option Expr
limit_as None = None
limit_as (Some by) = Some one_as

abbrev core_as : SelectShape → Core
core_as shape = roll-Core (record { distinct = false; shown = map shown_as shape.shown; from = source_as shape.table.name ∷ []; filter = filter_as (reverse shape.tests); group = []; having = None })

abbrev pub select_as : SelectShape → Select
select_as shape = roll-Select (record { with = []; first = core_as shape; others = []; order = order_as shape.order; limit = limit_as shape.order; offset = None })

abbrev pub sorted_fields : Option Sorting → List Field
sorted_fields None = []
sorted_fields (Some by) = by.column ∷ []

abbrev are_known : Table → SelectShape → Bool
are_known table shape = list_all (is_field table) shape.shown && (list_all (λ (t : Test). is_field table t.column) (reverse shape.tests) && list_all (is_field table) (sorted_fields shape.order))

-- the types of the query's terms
abbrev pub IsAccepted : SelectShape → Type 0
IsAccepted shape = (s : Schema) (t : ℕ) → nat_le (2 ^ 31) t ≡ false → find (λ (x : Table). x.tree == t) s.tables ≡ Some (in_tree shape t) → accepts_program s [] (query_in shape t) [] ≡ true

pub record IsSelect (text : List ℕ) (shape : SelectShape) : Type 0 where
  pub parsed : first text ≡ Ok (parsed_in (first text))
  pub statement : (parsed_in (first text)).statement ≡ written.Select (select_as shape)
  pub timeless : (parsed_in (first text)).formats ≡ []
  pub unlisted : if_select (compiled listing_schema text) ≡ Err NoSuchTable
  pub known : (t : ℕ) → are_known (in_tree shape t) shape ≡ true
  pub short : nat_le (length shape.shown + nodes_of (reverse shape.tests) + depth_of (reverse shape.tests)) 600 ≡ true
  pub accepted : IsAccepted shape

-- ---- what it means

module _ (shape : SelectShape) where
  abbrev core : Core
  core = core_as shape

  abbrev source : Source
  source = source_as shape.table.name

  abbrev select : Select
  select = select_as shape

  from_is : (out-Core core).from ≡ source ∷ []
  from_is = rw out-roll-Core refl

  shown_is : (out-Core core).shown ≡ map shown_as shape.shown
  shown_is = rw out-roll-Core refl

  filter_is : (out-Core core).filter ≡ filter_as (reverse shape.tests)
  filter_is = rw out-roll-Core refl

  ungrouped : ((out-Core core).group ≡ []) × ((out-Core core).having ≡ None) × ((out-Core core).distinct ≡ false)
  ungrouped = rw out-roll-Core (refl, refl, refl)

  one_source : ((out-Source source).origin ≡ origin.Table shape.table.name) × ((out-Source source).alias ≡ None) × ((out-Source source).using ≡ []) × ((out-Source source).on ≡ None) × ((out-Source source).is_left ≡ false)
  one_source = rw out-roll-Source (refl, refl, refl, refl, refl)

  alone : ((out-Select select).first ≡ core) × ((out-Select select).with ≡ []) × ((out-Select select).others ≡ []) × ((out-Select select).offset ≡ None)
  alone = rw out-roll-Select (refl, refl, refl, refl)

  sorted : ((out-Select select).order ≡ order_as shape.order) × ((out-Select select).limit ≡ limit_as shape.order)
  sorted = rw out-roll-Select (refl, refl)

sort_is : (by : Sorting) → ((out-Sort (sort_as by)).key ≡ column_as by.column.name) × ((out-Sort (sort_as by)).descending ≡ by.descending) × ((out-Sort (sort_as by)).nulls_first ≡ None)
sort_is by = let rolled = out-roll-Sort (record { key = column_as by.column.name; descending = by.descending; nulls_first = None }) in (ap (λ s. s.key) rolled, ap (λ s. s.descending) rolled, ap (λ s. s.nulls_first) rolled)

unaliased : (table : Table) (name : Name) (fs : List Field) (k : ℕ) → position_from (λ (o : Output). o.is_alias && same_name o.name name) k (map (output_of table) fs) ≡ None
unaliased table name [] k = refl
unaliased table name (f ∷ fs) k = unaliased table name fs (k + 1)

module _ {text : List ℕ} {shape : SelectShape} (it : IsSelect text shape) where
  pub query_of_text : IsQuery (parsed_in (first text))
  query_of_text = (select_as shape, it.statement, it.timeless)

  pub bare : (s : Schema) (c : Compiled) → understood s text ≡ Ok c → IsBare c
  bare = any_bare text it.parsed query_of_text it.unlisted

  abbrev budget : ℕ
  budget = max_budget - length shape.shown

  abbrev left : ℕ
  left = budget - spent_on (reverse shape.tests)

  short : length shape.shown + nodes_of (reverse shape.tests) + depth_of (reverse shape.tests) ≤ 600
  short = leb-true _ 600 it.short

  module _ (s : Schema) (t : ℕ) (place : IsTableIn s shape.table t) where
    abbrev table : Table
    table = in_tree shape t

    abbrev outputs : List Output
    outputs = map (output_of table) shape.shown

    abbrev last : Carried
    last = last_shown shape.table.key shape.shown nothing

    abbrev read_as : List Output → Bool → Context
    read_as shown may = within (outermost s) (record { tables = bound_at place.at shape.table.name ∷ []; shown = shown }) may

    abbrev start : State
    start = fresh 1 max_budget

    abbrev three : State
    three = state_of left (last_after (reverse shape.tests) last)

    abbrev project : List Term
    project = map (λ (o : Output). o.term) outputs

    shown_known : list_all (is_field table) shape.shown ≡ true
    shown_known = (and_parts _ (list_all (λ (u : Test). is_field table u.column) (reverse shape.tests) && list_all (is_field table) (sorted_fields shape.order)) (it.known t)).0

    others_known : (list_all (λ (u : Test). is_field table u.column) (reverse shape.tests) ≡ true) × (list_all (is_field table) (sorted_fields shape.order) ≡ true)
    others_known = and_parts _ _ (and_parts (list_all (is_field table) shape.shown) _ (it.known t)).1

    whole : body lower (outermost s) (core shape) start ≡ Ok (record { level = record { tables = bound_at place.at shape.table.name ∷ []; shown = outputs }; steps = Inner t ∷ []; filter = filter_in shape }, three)
    whole =
        let b = bound_at place.at shape.table.name in
        let src = source shape in
        let one = one_source shape in
        let from : bounds s (out-Core (core shape)).from start ≡ Ok (b ∷ [], state_of max_budget nothing) = rw (from_is shape) (bound_one s src place.at shape.table.name start place.named one.0 one.1 one.2 refl) in
        let shown : outputs_from lower (read_as [] true) (b ∷ []) [] (out-Core (core shape)).shown (state_of max_budget nothing) ≡ Ok (outputs, state_of budget last) =
        rw (shown_is shape) (fields_shown (read_as [] true) place.at shape.table.name [] table refl place.there shape.shown shown_known [] max_budget nothing (omega (arith, short))) in
        let joined : joins lower (read_as outputs false) (b ∷ []) (out-Core (core shape)).from (state_of budget last) ≡ Ok (record { steps = Inner t ∷ []; filter = [] }, state_of budget last) =
        rw (from_is shape) (join_one (read_as outputs false) b src table (state_of budget last) place.there refl one.4 one.3 one.2) in
        let tested : tests lower (read_as outputs false) [] (out-Core (core shape)).filter (state_of budget last) ≡ Ok (filter_in shape, three) =
        rw (filter_is shape) (filter_lowered (read_as outputs false) place.at shape.table.name outputs table refl place.there (reverse shape.tests) others_known.0 budget last (omega (arith, short)) (omega (arith, short))) in
        body_is s (core shape) b outputs (Inner t ∷ []) (filter_in shape) start (state_of max_budget nothing) (state_of budget last) three from shown joined tested

    -- the plan, sorted and cut so
    module _ (by : List Sort) (cut : Option Expr) (four : State) (order : List (Term × Key)) (limit : Term) where
      abbrev drafted : Draft
      drafted = draft_of s (core shape) (bound_at place.at shape.table.name) outputs (Inner t ∷ []) (filter_in shape) start three four by order (limit, lit (Int (pos 0)))

      plan_with : ((out-Select (select shape)).order ≡ by) × ((out-Select (select shape)).limit ≡ cut) → sorts lower (inside s (record { tables = bound_at place.at shape.table.name ∷ []; shown = outputs }) false) outputs by three ≡ Ok (order, four)
          → constant_or s (lit (Int (negsuc 0))) cut ≡ Ok limit → four.steps ≡ [] → accepts_program s [] (query_of drafted) [] ≡ true
          → planned s (parsed_in (first text)) ≡ Ok ([], (Select' (record { lets = []; body = query_of drafted }) (names_in shape t), None))
      plan_with so sorted limited none accepts =
          let b = bound_at place.at shape.table.name in
          let un = ungrouped shape in
          let only = alone shape in
          let parts = parts_are s (core shape) b outputs (Inner t ∷ []) (filter_in shape) start three four by order whole un.0 un.1 sorted in
          let one = named_is s (core shape) b outputs (Inner t ∷ []) (filter_in shape) start three four by order parts refl un.2 none (limit, lit (Int (pos 0))) in
          let asked = query_is s (select shape) (core shape) (source shape) shape.table.name by cut limit _ only.0 only.1 only.2 so.0 so.1 limited only.3 (from_is shape) (one_source shape).0 one in
          plan_selects s (parsed_in (first text)) (select shape) _ _ _ it.statement it.timeless asked accepts

    plans : (by : Option Sorting) → ((out-Select (select shape)).order ≡ order_as by) × ((out-Select (select shape)).limit ≡ limit_as by) → list_all (is_field table) (sorted_fields by) ≡ true
        → accepts_program s [] (paged t shape.table.key (filter_in shape) project by) [] ≡ true
        → planned s (parsed_in (first text)) ≡ Ok ([], (Select' (record { lets = []; body = paged t shape.table.key (filter_in shape) project by }) (names_in shape t), None))
    plans None so known accepts = plan_with [] None three [] (lit (Int (negsuc 0))) so (sorts_none _ outputs three) (no_limit s) refl accepts
    plans (Some by) so known accepts =
        let cx = inside s (record { tables = bound_at place.at shape.table.name ∷ []; shown = outputs }) false in
        let it' = of_field table by.column (and_parts _ _ known).0 in
        let c = by.column in
        let key = column_as c.name in
        let four = state_of (left - 1) (carried_at shape.table.key c.at) in
        let lowered = column_lowered cx (bound_at place.at shape.table.name) outputs table refl refl place.there c.name c.at it'.column it'.named it'.there key (out-roll-Expr _) 699 three (lt-ltb 1 left (omega (arith, short, spent_most (reverse shape.tests)))) refl
        ∙ ap (λ k. Ok (shown_term shape.table.key c, state_of (left - 1) k)) (carried_is table c.at it'.column it'.binary) in
        let sorts_are = sorts_one cx outputs (sort_as by) key c.name (shown_term shape.table.key c) by.descending three four (out-roll-Expr _) (sort_is by).0 (sort_is by).1 (sort_is by).2 (unaliased table c.name shape.shown 0) lowered refl
        ∙ ap (λ k. Ok ((shown_term shape.table.key c, record { collation = k; descending = by.descending }) ∷ [], four)) (binary_alone shape.table.key c.at) in
        plan_with (sort_as by ∷ []) (Some one_as) four (order_by shape.table.key by) (lit (Int (pos 1))) so sorts_are (number_limit s one_as (codes "1") (Int (pos 1)) (out-roll-Expr _) one_reads) refl accepts

    -- the terms as the outputs have them
    project_is : project ≡ shown_in shape
    project_is = map-map (λ (o : Output). o.term) (output_of table) shape.shown

    pub means : understood s text ≡ Ok (compiled_of text shape t)
    unfolding understood compiled
    means =
        let accepts = subst (λ p. accepts_program s [] (paged t shape.table.key (filter_in shape) p shape.order) [] ≡ true) (sym project_is) (it.accepted s t place.stored place.found) in
        let plan = plans shape.order (sorted shape) others_known.1 accepts in
        let plan' = subst (λ p. planned s (parsed_in (first text)) ≡ Ok ([], (Select' (record { lets = []; body = paged t shape.table.key (filter_in shape) p shape.order }) (names_in shape t), None))) project_is plan in
        rw it.parsed (rw plan')

    pub command_is : command_of (understood s text) ≡ Select' (record { lets = []; body = query_in shape t }) (names_in shape t)
    command_is = ap command_of means

    pub plain : IsPlain (understood s text)
    plain = subst IsPlain (sym means) (refl, refl)

    pub apart : reads_listing s text ≡ false
    apart = (as_compiled text it.unlisted s (compiled_of text shape t) means).0
