-- What a SELECT of this shape with no order answers over a connection with no limit on steps: of the rows that pass, or that memory or the disk stopped it.
use Rattle.std.proofs.Common.{◌≡◌, ◌⊎◌, inl, inr, ℕ, List, [], ◌∷◌, length, true, true≢false, Some, None, Ok, Err, Result, slice_get, arith, refl, sym, ap, subst, ◌∙◌}
use Rattle.mq_tables.proofs.Words.{Compiled, Database, EndsIn, Error, FailsToQuery, IsPermutation, IsSourceOf, IsStatement, QueriesRow, Row, Select, Shown, State, accepts_program, begins_shown, command_of, first, is_ok, reads_listing, understood}
use Rattle.sqlite.specs.declared.error.Error.TheVariants.{QueryReturnedNoRows}
use Rattle.sqlite.specs.Clock.{timed}
use Rattle.mq_tables.specs.Places.{IsTableIn}
use Rattle.mq_tables.specs.Reading.{unlimited}
use Rattle.mq_tables.specs.Settings as settings
use Rattle.mq_tables.specs.Written.{chosen, plain_query}
use Rattle.mq_tables.proofs.Plain.{parsed_in}
use Rattle.mq_tables.proofs.Refusals.{IsStop, query_stops, names_of, tail_of}
use Rattle.mq_tables.proofs.SelectShape.{SelectShape, IsSelect, filter_in, shown_in, paged, names_in, compiled_of, means, plain, apart}
use Rattle.mq_tables.proofs.Selected.{shows_rows}

-- the text is one statement, with no parameters
abbrev pub IsAlone : List ℕ → Type 0
IsAlone text = ((parsed_in (first text)).tail ≡ length text) × (length (parsed_in (first text)).names ≡ 0)

-- a row is the first of those shown; an error is that none is, or what stopped the query
abbrev pub IsAnswered : List Row → Result Row Error → Type 0
IsAnswered shown (Ok row) = (more : List Row) × IsPermutation shown (row ∷ more)
IsAnswered shown (Err e) = settings.IsStop e ⊎ ((e ≡ QueryReturnedNoRows) × IsPermutation shown [])

first_of : (shown : List Row) (row : Row) (rows : List Row) → slice_get rows 0 ≡ Some row → IsPermutation shown rows → IsAnswered shown (Ok row)
first_of shown row [] there h = absurd cc
first_of shown row (x ∷ more) there h = let e : x ≡ row = cc in (more, subst (λ r. IsPermutation shown (r ∷ more)) e h)

module _ {text : List ℕ} {shape : SelectShape} (it : IsSelect text shape) (unordered : shape.order ≡ None) (alone : IsAlone text) (old new : State) (tree : ℕ)
    (place : IsTableIn old.now.schema shape.table tree) where
  is : understood old.now.schema text ≡ Ok (compiled_of text shape tree)
  is = means it old.now.schema tree place

  command : command_of (understood old.now.schema text) ≡ Select (record { lets = []; body = plain_query tree (filter_in shape) (shown_in shape) }) (names_in shape tree)
  command = subst (λ by. command_of (understood old.now.schema text) ≡ Select (record { lets = []; body = paged tree shape.table.key (filter_in shape) (shown_in shape) by }) (names_in shape tree)) unordered (ap command_of is)

  types : accepts_program old.now.schema [] (plain_query tree (filter_in shape) (shown_in shape)) [] ≡ true
  types = subst (λ by. accepts_program old.now.schema [] (paged tree shape.table.key (filter_in shape) (shown_in shape) by) [] ≡ true) unordered (it.accepted old.now.schema tree place.stored place.found)

  stopped : (e : Error) → IsStop (unlimited old) e → settings.IsStop e
  stopped e (inl h) = h
  stopped e (inr h) = absurd (true≢false (sym h.1))

  pub stops : (e : Error) → FailsToQuery text [] (unlimited old) new e → settings.IsStop e
  stops e h =
      stopped e (query_stops text [] (unlimited old) new e old.now.schema refl tree (filter_in shape) (shown_in shape) (names_in shape tree) command (plain it old.now.schema tree place)
      (ap is_ok is) (sym alone.1 ∙ sym (ap (λ r. length (names_of r)) is)) (let e = ap tail_of is in omega (arith, e, alone.0)) (apart it old.now.schema tree place) types h)

  shows : (rows : List Row) → Shown text [] (unlimited old) new rows → IsPermutation (chosen (filter_in shape) (shown_in shape) [] (old.now.trees tree)) rows
  shows rows h = shows_rows it [] (unlimited old) new tree place rows h unordered

  ends : (c : Compiled) (db : Database) (s : IsStatement (unlimited old) text [] c) → IsSourceOf (reads_listing old.now.schema text) old.now db → EndsIn c.command db (timed [] c.formats s.now)
  ends c db s source =
      let same : Select (record { lets = []; body = plain_query tree (filter_in shape) (shown_in shape) }) (names_in shape tree) ≡ c.command = sym command ∙ ap command_of s.is in
      subst (λ k. EndsIn k db (timed [] c.formats s.now)) same tt

  pub answers : (answer : Result Row Error) → QueriesRow text [] (unlimited old) new answer → IsAnswered (chosen (filter_in shape) (shown_in shape) [] (old.now.trees tree)) answer
  unfolding QueriesRow
  answers (Ok row) (inl h) = let all = begins_shown text [] (unlimited old) new (row ∷ []) h.0 h.1 ends in (all.0, shows (row ∷ all.0) all.1)
  answers (Ok row) (inr h) = first_of _ row h.0 h.2 (shows h.0 h.1)
  answers (Err e) (inl h) = inl (stops e h)
  answers (Err e) (inr h) = inr (h.0, shows [] h.1)
