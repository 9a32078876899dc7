-- The INSERT of the row of settings and of that of a rule, each where its table is at some place and empty.
use Rattle.std.proofs.Common.{append-nil, ◌≡◌, ℕ, pos, List, [], ◌∷◌, Some, Ok, Err, Result, OnOk, codes, slice_get, refl, ap, ◌∙◌}
use Rattle.mq_tables.proofs.Words.{Error, ExecutesInside, Int, Null, Row, State, col, everything, lit, put_row, table_named}
use Rattle.mq_ledger.specs.Day.{minutes_in}
use Rattle.mq_rows.specs.declared.setting.TheConstants.{VERSION}
use Rattle.mq_tables.specs.declared.setting.NewSetting.{NewSetting}
use Rattle.mq_tables.specs.Tables.{setting_table, rule_table}
use Rattle.mq_tables.specs.Settings.{rule_fields}
use Rattle.mq_tables.specs.Making.{Puts, setting_row, setting_params, rule_params}
use Rattle.mq_tables.proofs.Casts.{cast_int, cast_null}
use Rattle.mq_tables.proofs.InsertShape.{InsertShape, IsInsertOf, in_tree, new_row, inserted}

module _ {text : List ℕ} {shape : InsertShape} (it : IsInsertOf text shape) (params row : Row)
    (row_is : (old new : State) (tree at : ℕ) (named : table_named old.now.schema shape.table.name ≡ Some at) (there : slice_get old.now.schema.tables at ≡ Some (in_tree shape tree)) → new_row it params old new tree at named there ≡ row) where
  puts_one : (old new : State) (r : Result ℕ Error) → ExecutesInside 0 text params old new r → OnOk r (Puts shape.table row old new)
  puts_one old new (Err e) h = tt
  puts_one old new (Ok count) h = (
    h.1.mode,
    λ at tree named there none.
        let done = inserted it params old new tree at named there count h.0 in
        record { sound = done.sound; schema = done.schema_is; row_is = done.rows ∙ ap (λ r. put_row r (old.now.trees tree)) (row_is old new tree at named there) ∙ ap (put_row row) none; others = done.tables },
  )

abbrev pub setting_text : List ℕ
setting_text = codes "INSERT INTO setting (id, version, minutes, cap, arrivals) VALUES (1, ?1, ?2, ?3, 0)"

setting_insert : IsInsertOf setting_text (record { table = setting_table; terms = lit (Int (pos 1)) ∷ lit Null ∷ col 0 0 ∷ col 0 1 ∷ col 0 2 ∷ lit (Int (pos 0)) ∷ [] })
unfolding everything
setting_insert = record { parsed = refl; insert = record { name = _; columns = _; rows = _; statement = refl; timeless = refl }; named = refl; rows = λ s tree. refl; whole = λ params. refl; uncounted = refl; formats = refl; timeless = λ params. append-nil params }

pub puts_setting : (made_with : NewSetting) (old new : State) (r : Result ℕ Error) → ExecutesInside 0 setting_text (setting_params made_with) old new r → OnOk r (Puts setting_table (setting_row made_with) old new)
puts_setting made_with =
    puts_one setting_insert (setting_params made_with) (setting_row made_with)
    (λ old new tree at named there. rw (cast_null, cast_int (pos 1), cast_int (pos VERSION), cast_int (minutes_in made_with.zone), cast_int (pos made_with.cap), cast_int (pos 0)) refl)

abbrev pub rule_text : List ℕ
rule_text = codes "INSERT INTO rule (id, bytes) VALUES (1, ?1)"

rule_insert : IsInsertOf rule_text (record { table = rule_table; terms = lit (Int (pos 1)) ∷ lit Null ∷ col 0 0 ∷ [] })
unfolding everything
rule_insert = record { parsed = refl; insert = record { name = _; columns = _; rows = _; statement = refl; timeless = refl }; named = refl; rows = λ s tree. refl; whole = λ params. refl; uncounted = refl; formats = refl; timeless = λ params. append-nil params }

pub puts_rule : (text : List ℕ) (old new : State) (r : Result ℕ Error) → ExecutesInside 0 rule_text (rule_params text) old new r → OnOk r (Puts rule_table (rule_fields text) old new)
puts_rule text = puts_one rule_insert (rule_params text) (rule_fields text) (λ old new tree at named there. rw (cast_null, cast_int (pos 1)) refl)
