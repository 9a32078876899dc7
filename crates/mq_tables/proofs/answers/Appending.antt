-- The INSERT of an answer, over any schema that has the table at some place.
use Rattle.std.proofs.Common.{append-nil, ◌≡◌, ℕ, pos, List, [], ◌∷◌, ◌++◌, Ok, Err, codes, refl, ap, ◌∙◌}
use Rattle.mq_tables.proofs.Words.{AnswerRecord, Null, State, col, everything, lit, put_row}
use Rattle.mq_tables.specs.Lent.{answer_params}
use Rattle.mq_tables.specs.Places.{IsAnswerIn}
use Rattle.mq_tables.specs.Records.{answer_fields}
use Rattle.mq_tables.specs.Tables.{answer_table}
use Rattle.mq_tables.specs.Updates.{Appends}
use Rattle.mq_tables.proofs.Changes.{answers_changed}
use Rattle.mq_tables.proofs.InsertShape.{IsInsertOf, new_row, inserted}
use Rattle.mq_tables.proofs.Casts.{cast_int, cast_null}
use Rattle.mq_tables.proofs.Parts.{Executing}
use Rattle.mq_tables.proofs.answers.Numbered.{appended, numbered_on}

abbrev pub append_text : List ℕ
append_text = codes "INSERT INTO answer (n, host, run, seq, request, reply) VALUES (?1, ?2, ?3, ?4, ?5, ?6)"

is_insert : IsInsertOf append_text (record { table = answer_table; terms = col 0 0 ∷ lit Null ∷ col 0 1 ∷ col 0 2 ∷ col 0 3 ∷ col 0 4 ∷ col 0 5 ∷ [] })
unfolding everything
is_insert = record { parsed = refl; insert = record { name = _; columns = _; rows = _; statement = refl; timeless = refl }; named = refl; rows = λ s tree. refl; whole = λ params. refl; uncounted = refl; formats = refl; timeless = λ params. append-nil params }

row_is : (old new : State) (a : AnswerRecord) (tree : ℕ) (place : IsAnswerIn old.now.schema tree) → new_row is_insert (answer_params a) old new tree place.at place.named place.there ≡ answer_fields a
row_is old new a tree place = rw (cast_int (pos a.n), cast_null, cast_int (pos a.id.run), cast_int (pos a.id.number)) refl

pub appends : Executing append_text answer_params Appends
appends a (Err e) old new h = (tt, tt)
appends a (Ok count) old new h = (
  h.1.mode,
  λ t l next.
      let tree = l.at.answer in
      let place = l.tables.answer in
      let it = inserted is_insert (answer_params a) old new tree place.at place.named place.there count h.0 in
      answers_changed old.now new.now t l it.schema_is it.sound it.tables (t.answers ++ a ∷ []) (record {
        rows = it.rows ∙ ap (λ r. put_row r (old.now.trees tree)) (row_is old new a tree place) ∙ ap (put_row (answer_fields a)) l.holds.answers.rows ∙ appended 1 t.answers a l.holds.answers.numbered next;
        numbered = numbered_on 1 t.answers a l.holds.answers.numbered next;
      }),
)
