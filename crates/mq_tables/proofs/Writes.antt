-- The INSERT and the UPDATE of a record of `usage`, `trans`, `ceiling` and `retired`, over any schema that has the table at some place.
use Rattle.std.proofs.Common.{append-nil, pos, List, ℕ, [], ◌∷◌, Result, Ok, Err, codes, refl, ap, ◌&&◌, ◌==◌}
use Rattle.mq_tables.proofs.Words.{Error, Null, RetiredRecord, State, and-true, col, everything, lit, same_name, same_text}
use Rattle.mq_rows.specs.declared.plan.Write.{Write}
use Rattle.mq_rows.specs.declared.plan.Write.TheVariants as write
use Rattle.mq_rows.specs.Plan.{same_key, set_transaction, same_day, set_usage, same_from, set_limit, same_host, set_run}
use Rattle.mq_tables.specs.Lent.{standing_params, totals_params, cap_params, floor_params}
use Rattle.mq_tables.specs.Records.{transaction_fields, usage_fields, limit_fields, retired_fields, bit}
use Rattle.mq_tables.specs.Tables.{trans_table, usage_table, ceiling_table, retired_table}
use Rattle.mq_tables.specs.Updates.{WritesTransaction, WritesUsage, WritesLimit, WritesFloor}
use Rattle.mq_tables.proofs.Casts.{cast_int, cast_null}
use Rattle.mq_tables.proofs.InsertShape.{IsInsertOf, inserts_record}
use Rattle.mq_tables.proofs.Parts.{Executed, Executing, Rewrites, transactions_part, usage_part, limits_part, floors_part}
use Rattle.mq_tables.proofs.TermShape.{field, against}
use Rattle.mq_tables.proofs.TermShape.Relation.{Same}
use Rattle.mq_tables.proofs.Tests.{text_test, day_test, nat_test}
use Rattle.mq_tables.proofs.UpdateShape.{IsUpdateOf, updates_record}

-- ---- transactions

abbrev insert_trans_text : List ℕ
insert_trans_text = codes "INSERT INTO trans (host, run, txn, login, moment, day, held, settled, closed) VALUES (?1, ?2, ?3, ?4, ?5, ?6, ?7, ?8, ?9)"

is_trans_insert : IsInsertOf insert_trans_text (record { table = trans_table; terms = lit Null ∷ col 0 0 ∷ col 0 1 ∷ col 0 2 ∷ col 0 3 ∷ col 0 4 ∷ col 0 5 ∷ col 0 6 ∷ col 0 7 ∷ col 0 8 ∷ [] })
unfolding everything
is_trans_insert = record { parsed = refl; insert = record { name = _; columns = _; rows = _; statement = refl; timeless = refl }; named = refl; rows = λ s tree. refl; whole = λ params. refl; uncounted = refl; formats = refl; timeless = λ params. append-nil params }

pub inserts_trans : Executing insert_trans_text transaction_fields (λ r. WritesTransaction (write.Insert r))
inserts_trans = inserts_record is_trans_insert transactions_part (λ old new u tree place. rw (cast_int (pos u.run), cast_int (pos u.txn), cast_int (pos u.moment), cast_int (pos u.day), cast_int (pos u.held), cast_int (pos u.settled), cast_int (pos (bit u.closed)), cast_null) refl) same_key set_transaction

abbrev update_trans_text : List ℕ
update_trans_text = codes "UPDATE trans SET held = ?1, settled = ?2, closed = ?3 WHERE host = ?4 AND run = ?5 AND txn = ?6"

is_trans_update : IsUpdateOf update_trans_text (record {
  table = trans_table;
  sets = codes "held" ∷ codes "settled" ∷ codes "closed" ∷ [];
  places = 7 ∷ 8 ∷ 9 ∷ [];
  tests = against (field (codes "host") 0) Same 4 ∷ against (field (codes "run") 1) Same 5 ∷ against (field (codes "txn") 2) Same 6 ∷ [];
  row = col 1 0 ∷ col 1 0 ∷ col 1 1 ∷ col 1 2 ∷ col 1 3 ∷ col 1 4 ∷ col 1 5 ∷ col 1 6 ∷ col 0 0 ∷ col 0 1 ∷ col 0 2 ∷ [];
})
unfolding everything same_name
is_trans_update = record { parsed = refl; statement = refl; formats = refl; placed = λ t. refl; laid = λ t. refl; known = λ t. refl; short = refl; uncounted = refl; timeless = λ params. append-nil params; accepted = λ s t low found. rw (low, found) }

pub updates_trans : Executing update_trans_text standing_params (λ r. WritesTransaction (write.Update r))
updates_trans = updates_record same_key set_transaction standing_params is_trans_update transactions_part
    (λ r was. rw (text_test was.host r.host, nat_test was.run r.run, nat_test was.txn r.txn) (ap (λ b. (same_text r.host was.host) && b) (ap (λ b. (r.run == was.run) && b) (and-true (r.txn == was.txn)))))
    (λ r db t was id hits one. rw one (rw (cast_int id, cast_int (pos was.run), cast_int (pos was.txn), cast_int (pos was.moment), cast_int (pos was.day), cast_int (pos r.held), cast_int (pos r.settled), cast_int (pos (bit r.closed))) refl))

-- ---- what a login has on a day

abbrev insert_usage_text : List ℕ
insert_usage_text = codes "INSERT INTO usage (login, day, settled, reserved) VALUES (?1, ?2, ?3, ?4)"

is_usage_insert : IsInsertOf insert_usage_text (record { table = usage_table; terms = lit Null ∷ col 0 0 ∷ col 0 1 ∷ col 0 2 ∷ col 0 3 ∷ [] })
unfolding everything
is_usage_insert = record { parsed = refl; insert = record { name = _; columns = _; rows = _; statement = refl; timeless = refl }; named = refl; rows = λ s tree. refl; whole = λ params. refl; uncounted = refl; formats = refl; timeless = λ params. append-nil params }

pub inserts_usage : Executing insert_usage_text usage_fields (λ r. WritesUsage (write.Insert r))
inserts_usage = inserts_record is_usage_insert usage_part (λ old new u tree place. rw (cast_int (pos u.day), cast_int (pos u.settled), cast_int (pos u.reserved), cast_null) refl) same_day set_usage

abbrev update_usage_text : List ℕ
update_usage_text = codes "UPDATE usage SET settled = ?1, reserved = ?2 WHERE login = ?3 AND day = ?4"

is_usage_update : IsUpdateOf update_usage_text (record {
  table = usage_table;
  sets = codes "settled" ∷ codes "reserved" ∷ [];
  places = 3 ∷ 4 ∷ [];
  tests = against (field (codes "login") 0) Same 3 ∷ against (field (codes "day") 1) Same 4 ∷ [];
  row = col 1 0 ∷ col 1 0 ∷ col 1 1 ∷ col 1 2 ∷ col 0 0 ∷ col 0 1 ∷ [];
})
unfolding everything same_name
is_usage_update = record { parsed = refl; statement = refl; formats = refl; placed = λ t. refl; laid = λ t. refl; known = λ t. refl; short = refl; uncounted = refl; timeless = λ params. append-nil params; accepted = λ s t low found. rw (low, found) }

pub updates_usage : Executing update_usage_text totals_params (λ r. WritesUsage (write.Update r))
updates_usage = updates_record same_day set_usage totals_params is_usage_update usage_part
    (λ u was. rw (text_test was.login u.login, day_test was.day u.day) (ap (λ b. same_text u.login was.login && b) (and-true (was.day == u.day))))
    (λ u db t was id hits one. rw one (rw (cast_int id, cast_int (pos was.day), cast_int (pos u.settled), cast_int (pos u.reserved)) refl))

-- ---- limits

abbrev insert_limit_text : List ℕ
insert_limit_text = codes "INSERT INTO ceiling (login, day, cap) VALUES (?1, ?2, ?3)"

is_limit_insert : IsInsertOf insert_limit_text (record { table = ceiling_table; terms = lit Null ∷ col 0 0 ∷ col 0 1 ∷ col 0 2 ∷ [] })
unfolding everything
is_limit_insert = record { parsed = refl; insert = record { name = _; columns = _; rows = _; statement = refl; timeless = refl }; named = refl; rows = λ s tree. refl; whole = λ params. refl; uncounted = refl; formats = refl; timeless = λ params. append-nil params }

pub inserts_limit : Executing insert_limit_text limit_fields (λ r. WritesLimit (write.Insert r))
inserts_limit = inserts_record is_limit_insert limits_part (λ old new u tree place. rw (cast_int (pos u.day), cast_int (pos u.cap), cast_null) refl) same_from set_limit

abbrev update_limit_text : List ℕ
update_limit_text = codes "UPDATE ceiling SET cap = ?1 WHERE login = ?2 AND day = ?3"

is_limit_update : IsUpdateOf update_limit_text (record {
  table = ceiling_table;
  sets = codes "cap" ∷ [];
  places = 3 ∷ [];
  tests = against (field (codes "login") 0) Same 2 ∷ against (field (codes "day") 1) Same 3 ∷ [];
  row = col 1 0 ∷ col 1 0 ∷ col 1 1 ∷ col 1 2 ∷ col 0 0 ∷ [];
})
unfolding everything same_name
is_limit_update = record { parsed = refl; statement = refl; formats = refl; placed = λ t. refl; laid = λ t. refl; known = λ t. refl; short = refl; uncounted = refl; timeless = λ params. append-nil params; accepted = λ s t low found. rw (low, found) }

pub updates_limit : Executing update_limit_text cap_params (λ r. WritesLimit (write.Update r))
updates_limit = updates_record same_from set_limit cap_params is_limit_update limits_part
    (λ r was. rw (text_test was.login r.login, day_test was.day r.day) (ap (λ b. (same_text r.login was.login) && b) (and-true (was.day == r.day))))
    (λ r db t was id hits one. rw one (rw (cast_int id, cast_int (pos was.day), cast_int (pos r.cap)) refl))

-- ---- floors, of tables of the current version

apart : (w : Write RetiredRecord) (old new : State) (outcome : Result ℕ Error) → Executed outcome new (Rewrites floors_part same_host set_run w old new) → Executed outcome new (WritesFloor w old new)
apart w old new (Ok count) h = (h.0, λ t l current. h.1 t (l, current))
apart w old new (Err e) h = h

abbrev insert_floor_text : List ℕ
insert_floor_text = codes "INSERT INTO retired (host, run) VALUES (?1, ?2)"

is_floor_insert : IsInsertOf insert_floor_text (record { table = retired_table; terms = lit Null ∷ col 0 0 ∷ col 0 1 ∷ [] })
unfolding everything
is_floor_insert = record { parsed = refl; insert = record { name = _; columns = _; rows = _; statement = refl; timeless = refl }; named = refl; rows = λ s tree. refl; whole = λ params. refl; uncounted = refl; formats = refl; timeless = λ params. append-nil params }

pub inserts_floor : Executing insert_floor_text retired_fields (λ r. WritesFloor (write.Insert r))
inserts_floor r outcome old new h = apart (write.Insert r) old new outcome (inserts_record is_floor_insert floors_part (λ old new u tree place. rw (cast_int (pos u.run), cast_null) refl) same_host set_run r outcome old new h)

abbrev update_floor_text : List ℕ
update_floor_text = codes "UPDATE retired SET run = ?1 WHERE host = ?2"

is_floor_update : IsUpdateOf update_floor_text (record {
  table = retired_table;
  sets = codes "run" ∷ [];
  places = 2 ∷ [];
  tests = against (field (codes "host") 0) Same 2 ∷ [];
  row = col 1 0 ∷ col 1 0 ∷ col 1 1 ∷ col 0 0 ∷ [];
})
unfolding everything same_name
is_floor_update = record { parsed = refl; statement = refl; formats = refl; placed = λ t. refl; laid = λ t. refl; known = λ t. refl; short = refl; uncounted = refl; timeless = λ params. append-nil params; accepted = λ s t low found. rw (low, found) }

pub updates_floor : Executing update_floor_text floor_params (λ r. WritesFloor (write.Update r))
updates_floor r outcome old new h = apart (write.Update r) old new outcome (updates_record same_host set_run floor_params is_floor_update floors_part
    (λ r was. rw (text_test was.host r.host) (and-true (same_text r.host was.host)))
    (λ r db t was id hits one. rw one (rw (cast_int id, cast_int (pos r.run)) refl)) r outcome old new h)
