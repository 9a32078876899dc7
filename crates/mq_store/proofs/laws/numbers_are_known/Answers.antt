use Rattle.std.proofs.Common.{List, None, ap, false, find, is_some, subst, sym, true, ◌≡◌}
use Rattle.mq_store.proofs.Words.{AnswerRecord, answer_rows, day_of, is_below, or_first, requests, same_id, stored}
use Rattle.mq_store.proofs.KnownNumbers.{known_as_stored}
use Rattle.mq_store.proofs.KeyedRows.{found_of}
use Rattle.mq_store.proofs.laws.numbers_are_known.Goals as goal
use Rattle.mq_rows.proofs.Leading.{none_found}

pub returns-clause-old : goal.returns-clause-old
returns-clause-old c = λ zone default H r id h below. (or_first (is_below (requests H) id) (is_some (stored H id)) below, sym (c.floors_are_found.ensures.old (day_of zone) default H r id h below))

pub returns-clause-new : goal.returns-clause-new
returns-clause-new c = λ zone default H r id db b in_range h above none.
    let found : find (λ (x : AnswerRecord). same_id id x.id) (answer_rows H) ≡ None =
    subst (λ (rows : List AnswerRecord). find (λ (x : AnswerRecord). same_id id x.id) rows ≡ None) b.has.rows.answers (none_found (λ (x : AnswerRecord). same_id id x.id) b.has.tables.answers none) in
    known_as_stored H id false above (ap is_some (c.repeats_are_answered.ensures.unknown H r id in_range h found))

pub returns-clause-known : goal.returns-clause-known
returns-clause-known c = λ zone default H r id db b row a in_range h above one repeat.
    let each = c.repeats_are_answered.ensures.one (day_of zone) default H r id b.legal.legal in_range h in
    let found = found_of (λ (x : AnswerRecord). same_id id x.id) b.has.tables.answers (answer_rows H) row b.has.rows.answers each one in (
      known_as_stored H id true above (c.repeats_are_answered.ensures.stored H r id row in_range h found),
      c.repeats_are_answered.ensures.known (day_of zone) default H r id row a b.legal.default (c.replies_in_range.ensures.days zone b.legal.zone) b.legal.legal in_range h above found repeat,
    )

pub returns-clause-spelled : goal.returns-clause-spelled
returns-clause-spelled c = λ zone default H r id db b row in_range h above one.
    let each = c.repeats_are_answered.ensures.one (day_of zone) default H r id b.legal.legal in_range h in
    let found = found_of (λ (x : AnswerRecord). same_id id x.id) b.has.tables.answers (answer_rows H) row b.has.rows.answers each one in
    c.repeats_are_answered.ensures.spelled (day_of zone) default H r id row b.legal.default (c.replies_in_range.ensures.days zone b.legal.zone) b.legal.legal in_range h above found
