-- An INSERT of one row of parameters into a table of ours, over any schema that has the table at some place.
use Rattle.std.proofs.Common.{◌≡◌, ℕ, ◌+◌, ◌/◌, List, [], ◌∷◌, drop, length, Bool, false, Some, Ok, Err, slice_get, refl, sym, ap, subst}
use Rattle.mq_tables.proofs.Words.{Chosen, Executes, IsPlain, Row, Schema, State, Table, Term, command_of, eval_all, first, new_rows, small, stamped, table_named, value_rows, with_rowid}
use Rattle.sqlite.specs.Source.TheVariants.{Values}
use Rattle.sqlite.specs.Cast.{cast_row}
use Rattle.mq_rows.specs.declared.plan.Write.TheVariants as write
use Rattle.mq_tables.specs.Places.{IsTableIn}
use Rattle.mq_tables.specs.Records.{Holds}
use Rattle.mq_tables.specs.Written.{Inserted}
use Rattle.mq_tables.proofs.Parts.{Part, Rewrites, Executing}
use Rattle.mq_tables.proofs.Plain.{parsed_in}
use Rattle.mq_tables.proofs.Inserting.{IsInsert, understood_insert, unreferred}
use Rattle.mq_tables.proofs.RowFacts.{holds_put}
use Rattle.mq_tables.proofs.Statements.{inserts}

-- the terms stand for the whole row, with that of the rowid first
pub record InsertShape : Type 0 where
  pub table : Table
  pub terms : List Term

abbrev pub in_tree : InsertShape → ℕ → Table
in_tree shape tree = record shape.table { tree = tree }

pub record IsInsertOf (text : List ℕ) (shape : InsertShape) : Type 0 where
  pub parsed : first text ≡ Ok (parsed_in (first text))
  pub insert : IsInsert (parsed_in (first text))
  pub named : insert.name ≡ shape.table.name
  pub rows : (s : Schema) (tree : ℕ) → new_rows s (in_tree shape tree) (small (parsed_in (first text)).names + small shape.table.stamps.formats) insert.columns insert.rows ≡ Ok (Values shape.terms (length shape.terms))
  pub whole : (params : Row) → value_rows params (length shape.terms) (length shape.terms / length shape.terms) shape.terms ≡ eval_all shape.terms (params ∷ []) ∷ []
  pub uncounted : shape.table.is_counted ≡ false
  pub formats : shape.table.stamps.formats ≡ []
  pub timeless : (params : Row) → stamped shape.table params ≡ params

module _ {text : List ℕ} {shape : InsertShape} (it : IsInsertOf text shape) (params : Row) (old new : State) (tree at : ℕ) (named : table_named old.now.schema shape.table.name ≡ Some at)
    (there : slice_get old.now.schema.tables at ≡ Some (in_tree shape tree)) where
  abbrev pub new_row : Row
  new_row = with_rowid Chosen (old.now.trees tree) (cast_row (in_tree shape tree) (eval_all shape.terms (params ∷ [])))

  pub inserted : (count : ℕ) → Executes text params old new (Ok count) → Inserted old.now.schema (in_tree shape tree) new_row old new
  inserted count h =
      let s = old.now.schema in
      let is = understood_insert text it.parsed it.insert s at (in_tree shape tree) (Values shape.terms (length shape.terms)) (rw it.named named) there it.formats (it.rows s tree) in
      inserts text params old new s refl at (in_tree shape tree) (record { place = there; uncounted = it.uncounted; timeless = it.timeless; unreferred = unreferred s tree })
      shape.terms (length shape.terms) (ap command_of is) (subst IsPlain (sym is) (refl, refl)) (it.whole params) count h

  -- one record more, whose fields are the parameters
  pub holds_inserted : {R : Type 0} (fields : R → Row) (r : R) (all : List R) → drop 1 new_row ≡ fields r → Holds 1 fields (old.now.trees tree) all → Inserted old.now.schema (in_tree shape tree) new_row old new
      → Holds 1 fields (new.now.trees tree) (r ∷ all)
  holds_inserted fields r all is held made = subst (λ rows. Holds 1 fields rows (r ∷ all)) (sym made.rows) (holds_put 1 fields new_row r (old.now.trees tree) all is made.fresh made.keyed held)

-- ---- a record of a table whose rows are records in any order

module _ {R : Type 0} {text : List ℕ} {shape : InsertShape} (it : IsInsertOf text shape) (part : Part R shape.table) where
  -- the new row has the fields of the record
  abbrev pub GivesRow : Type 1
  GivesRow = (old new : State) (r : R) (tree : ℕ) (place : IsTableIn old.now.schema shape.table tree) → drop 1 (new_row it (part.fields r) old new tree place.at place.named place.there) ≡ part.fields r

  pub inserts_record : GivesRow → (same : R → R → Bool) (set : R → R → R) → Executing text part.fields (λ r. Rewrites part same set (write.Insert r))
  inserts_record gives same set r (Err e) old new h = (tt, tt)
  inserts_record gives same set r (Ok count) old new h = (
    h.1.mode,
    λ t l.
        let tree = part.tree old.now t l in
        let place = part.place old.now t l in
        let made = inserted it (part.fields r) old new tree place.at place.named place.there count h.0 in
        part.changed old.now new.now t l made.schema_is made.sound made.tables (r ∷ part.records t)
        (holds_inserted it (part.fields r) old new tree place.at place.named place.there part.fields r (part.records t) (gives old new r tree place) (part.holds old.now t l) made),
  )
