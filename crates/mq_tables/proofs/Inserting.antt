-- INSERT of one row of values into a table that the schema has at some place.
use Rattle.std.proofs.Common.{◌≡◌, ℕ, ◌+◌, List, [], ◌∷◌, length, Option, Some, None, Ok, refl}
use Rattle.mq_tables.proofs.Words.{Compiled, Insert, Name, Parsed, Row, Schema, Table, command, compiled, first, insert, insert_or_abort, meaning, new_rows, planned, returning, shows, small, table_named, timed, understood, with_command}
use Rattle.std.specs.Prelude.{slice_get, ◌==◌}
use Rattle.std.specs.List.{filter_map}
use Rattle.sqlite_ast.specs.declared.Statement.TheVariants as written
use Rattle.sqlite_ast.specs.declared.Conflict.TheVariants as conflict
use Rattle.sqlite_ast.specs.declared.Rows.{Rows}
use Rattle.sqlite.specs.Source.{Source}
use Rattle.sqlite_schema.specs.declared.schema.Keys.TheVariants.{Enforced}
use Rattle.sqlite_schema.specs.declared.schema.Reference.{Reference}
use Rattle.sqlite_schema.specs.Rules.{ParentKey, parent_key}
use Rattle.sqlite_rules.specs.Action.{works, work_by, work_for, deed_for}
use Rattle.sqlite_rules.specs.declared.action.Deed.{Deed}
use Rattle.mq_tables.proofs.Plain.{parsed_in}
use Rattle.mq_lemmas.proofs.Booleans.{and_false}
use Rattle.sqlite_trees.proofs.ListLemmas.{flat_map_none}

pub record IsInsert (p : Parsed) : Type 0 where
  pub name : Name
  pub columns : List Name
  pub rows : Rows
  pub statement : p.statement ≡ written.Insert conflict.Abort name columns rows [] []
  pub timeless : p.formats ≡ []

plan_inserts : (s : Schema) (p : Parsed) (it : IsInsert p) (at : ℕ) (table : Table) (from : Source) → table_named s it.name ≡ Some at → slice_get s.tables at ≡ Some table → table.stamps.formats ≡ []
    → new_rows s table (small p.names + small table.stamps.formats) it.columns it.rows ≡ Ok from → planned s p ≡ Ok ([], (Insert at from, None))
unfolding planned meaning returning timed command insert insert_or_abort shows
plan_inserts s p it at table from named there timeless rows = rw (it.statement, named, there, it.timeless, rows, timeless)

-- the text, of a table that is found at this place, stands for these rows
module _ (text : List ℕ) (parses : first text ≡ Ok (parsed_in (first text))) (it : IsInsert (parsed_in (first text))) (s : Schema) (at : ℕ) (table : Table) (from : Source)
    (named : table_named s it.name ≡ Some at) (there : slice_get s.tables at ≡ Some table) (timeless : table.stamps.formats ≡ [])
    (rows : new_rows s table (small (parsed_in (first text)).names + small table.stamps.formats) it.columns it.rows ≡ Ok from) where
  abbrev pub insert_of : Compiled
  insert_of = with_command (parsed_in (first text)) ([], (Insert at from, None))

  compiled_insert : compiled s text ≡ Ok insert_of
  unfolding compiled
  compiled_insert = rw parses (rw (plan_inserts s (parsed_in (first text)) it at table from named there timeless rows))

  pub understood_insert : understood s text ≡ Ok insert_of
  unfolding understood
  understood_insert = rw compiled_insert

-- an INSERT takes no row out, so no foreign key acts
no_work : (key : Option ParentKey) (deed : Option Deed) (depth tree : ℕ) (child : Table) (ref : Reference) → work_by depth tree [] child ref deed key ≡ None
no_work key None depth tree child ref = refl
no_work None (Some deed) depth tree child ref = refl
no_work (Some key) (Some deed) depth tree child ref = rw (and_false (key.0 == tree))

none_of : {X Y : Type 0} (f : X → Option Y) → ((x : X) → f x ≡ None) → (xs : List X) → filter_map f xs ≡ []
none_of f none [] = refl
none_of f none (x ∷ xs) = rw (none x) (none_of f none xs)

pub unreferred : (s : Schema) (tree : ℕ) (news : List Row) → works s Enforced 0 tree [] news ≡ []
unreferred s tree news =
    flat_map_none (λ child. filter_map (work_for s Enforced 0 tree [] news child) child.references)
    (λ child. none_of (work_for s Enforced 0 tree [] news child) (λ ref. no_work (parent_key s.tables ref) (deed_for Enforced (length news == 0) ref) 0 tree child ref) child.references) s.tables
