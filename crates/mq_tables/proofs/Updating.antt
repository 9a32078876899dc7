-- UPDATE of a table that the schema has at some place.
use Rattle.std.proofs.Common.{◌≡◌, ℕ, List, [], ◌∷◌, ◌++◌, true, false, Option, Some, None, Ok, find, ◌==◌, refl}
use Rattle.mq_tables.proofs.Words.{Compiled, Context, Expr, Name, Parsed, Row, Schema, Table, Term, Update, accepts_program, col, command, compiled, first, fresh, max_budget, meaning, planned, returning, same_name, shows, table_named, timed, understood, update, with_command}
use Rattle.std.specs.Prelude.{slice_get}
use Rattle.std.specs.List.{AllByRecursion, flat_map, filter_map}
use Rattle.sqlite_ast.specs.declared.Statement.TheVariants as written
use Rattle.sqlite_schema.specs.declared.schema.Keys.TheVariants.{Enforced}
use Rattle.sqlite_schema.specs.declared.schema.Reference.{Reference}
use Rattle.sqlite_schema.specs.Rules.{ParentKey, parent_key, key_in, key_places, declared_order}
use Rattle.sqlite_value.specs.declared.keys.Order.{Order}
use Rattle.std.specs.Prelude.{option_map, option_and_then, length}
use Rattle.sqlite_rules.specs.Action.{works, work_by, work_for, deed_for, pairs}
use Rattle.sqlite_rules.specs.declared.action.Deed.{Deed}
use Rattle.sqlite_draft.specs.declared.join.Step.TheVariants.{Inner}
use Rattle.sqlite_draft.specs.declared.query.Draft.{Draft}
use Rattle.sqlite_draft.specs.Query.{query_of}
use Rattle.sqlite_resolve.specs.declared.state.State.{State}
use Rattle.sqlite_resolve.specs.Body.{tests}
use Rattle.sqlite_resolve.specs.Expr.{lower}
use Rattle.sqlite_resolve.specs.Program.{program}
use Rattle.sqlite_resolve.specs.Reach.{any_scans}
use Rattle.sqlite_resolve.specs.Write.{over, sets, sets_from, with_place, assigned, picked, row, simple, updated_in, updated}
use Rattle.mq_tables.specs.Places.{refers, is_tree, IsUnreferred}
use Rattle.mq_tables.proofs.Plain.{parsed_in}

-- one more column that SET names
pub set_next : (cx : Context) (table : Table) (done : List ℕ × List Term) (name : Name) (e : Expr) (more : List (Name × Expr)) (at : List ℕ) (t : Term) (st next : State) (all : (List ℕ × List Term) × State)
    → with_place table done.0 name ≡ Ok at → lower cx e st ≡ Ok (t, next) → sets_from cx table (at, done.1 ++ t ∷ []) more next ≡ Ok all
    → sets_from cx table done ((name, e) ∷ more) st ≡ Ok all
set_next cx table done name e more at t st next all place is rest = rw (place, is, rest)

module _ (s : Schema) (at : ℕ) (table : Table) (assignments : List (Name × Expr)) (test : Option Expr) (places : List ℕ) (terms project filter : List Term) (one two : State) where
  pub updated_is : sets_from (over s at table.name) table ([], []) assignments (fresh 2 max_budget) ≡ Ok ((places, terms), record one { steps = [] })
      → row table None places (col 1 0 ∷ []) terms ≡ Ok project → tests lower (over s at table.name) [] test (record one { steps = [] }) ≡ Ok (filter, record two { steps = [] })
      → updated s at table assignments test ≡ Ok (simple (Inner table.tree ∷ []) filter project)
  unfolding updated updated_in assigned picked any_scans sets
  updated_is given laid tested = rw (given, laid, tested)

pub record IsUpdate (p : Parsed) : Type 0 where
  pub name : Name
  pub assignments : List (Name × Expr)
  pub test : Option Expr
  pub statement : p.statement ≡ written.Update name assignments test []
  pub timeless : p.formats ≡ []

plan_updates : (s : Schema) (p : Parsed) (it : IsUpdate p) (at : ℕ) (table : Table) (d : Draft) → table_named s it.name ≡ Some at → slice_get s.tables at ≡ Some table
    → updated s at table it.assignments it.test ≡ Ok d → accepts_program s [] (query_of d) [] ≡ true → planned s p ≡ Ok ([], (Update at (record { lets = []; body = query_of d }), None))
unfolding planned meaning returning timed command update shows program
plan_updates s p it at table d named there asked accepted = rw (it.statement, named, there, it.timeless, asked, accepted)

-- the text, of a table that is found at this place, stands for this UPDATE
module _ (text : List ℕ) (parses : first text ≡ Ok (parsed_in (first text))) (it : IsUpdate (parsed_in (first text))) (s : Schema) (at : ℕ) (table : Table) (d : Draft)
    (named : table_named s it.name ≡ Some at) (there : slice_get s.tables at ≡ Some table)
    (asked : updated s at table it.assignments it.test ≡ Ok d) (accepted : accepts_program s [] (query_of d) [] ≡ true) where
  abbrev pub update_of : Compiled
  update_of = with_command (parsed_in (first text)) ([], (Update at (record { lets = []; body = query_of d }), None))

  compiled_update : compiled s text ≡ Ok update_of
  unfolding compiled
  compiled_update = rw parses (rw (plan_updates s (parsed_in (first text)) it at table d named there asked accepted))

  pub understood_update : understood s text ≡ Ok update_of
  unfolding understood
  understood_update = rw compiled_update

-- ---- no foreign key acts on a table that none refers to

apart_key : (tree : ℕ) (ref : Reference) (found : Option Table) → is_tree tree found ≡ false
    → (key : ParentKey) → option_and_then (λ t. option_and_then (key_in t) (key_places t ref.parent_columns)) found ≡ Some key → (key.0 == tree) ≡ false
apart_key tree ref None apart key is = absurd (cc)
apart_key tree ref (Some t) apart key is = places (key_places t ref.parent_columns) is
  where
    orders : (ps : List ℕ) (o : Option Order) → option_map (λ (o : Order). (t.tree, ps, o)) o ≡ Some key → (key.0 == tree) ≡ false
    orders ps None is = absurd (cc)
    orders ps (Some o) is = let same : t.tree ≡ key.0 = cc in rw (← same) apart

    places : (ps : Option (List ℕ)) → option_and_then (key_in t) ps ≡ Some key → (key.0 == tree) ≡ false
    places None is = absurd (cc)
    places (Some ps) is = orders ps (declared_order t ps) is

no_work : (depth tree : ℕ) (moves : List (Row × Row)) (child : Table) (ref : Reference) (deed : Option Deed) (key : Option ParentKey) → ((k : ParentKey) → key ≡ Some k → (k.0 == tree) ≡ false)
    → work_by depth tree moves child ref deed key ≡ None
no_work depth tree moves child ref None key apart = refl
no_work depth tree moves child ref (Some deed) None apart = refl
no_work depth tree moves child ref (Some deed) (Some key) apart = rw (apart key refl)

none_of : {X Y : Type 0} (f : X → Option Y) (P : X → Type 0) → ((x : X) → P x → f x ≡ None) → (xs : List X) → AllByRecursion P xs → filter_map f xs ≡ []
none_of f P none [] h = refl
none_of f P none (x ∷ xs) h = rw (none x h.0) (none_of f P none xs h.1)

nothing_of : {X Y : Type 0} (f : X → List Y) (P : X → Type 0) → ((x : X) → P x → f x ≡ []) → (xs : List X) → AllByRecursion P xs → flat_map f xs ≡ []
nothing_of f P none [] h = refl
nothing_of f P none (x ∷ xs) h = rw (none x h.0) (nothing_of f P none xs h.1)

pub nothing_acts : (s : Schema) (tree : ℕ) → IsUnreferred s tree → (olds news : List Row) → works s Enforced 0 tree olds news ≡ []
nothing_acts s tree h olds news =
    nothing_of (λ child. filter_map (work_for s Enforced 0 tree olds news child) child.references) (λ t. AllByRecursion (λ ref. refers s tree ref ≡ false) t.references)
    (λ child all. none_of (work_for s Enforced 0 tree olds news child) (λ ref. refers s tree ref ≡ false)
    (λ ref apart. no_work 0 tree (pairs olds news) child ref (deed_for Enforced (length news == 0) ref) (parent_key s.tables ref) (apart_key tree ref (find (λ t. same_name t.name ref.parent) s.tables) apart)) child.references all) s.tables h
