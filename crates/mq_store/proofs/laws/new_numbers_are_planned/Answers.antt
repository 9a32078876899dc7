use Rattle.mq_store.specs.Taking.{book_of}
use Rattle.mq_store.proofs.KnownNumbers.{not_known}
use Rattle.mq_store.proofs.KeyedRows.{keyed}
use Rattle.mq_store.proofs.laws.new_numbers_are_planned.Goals as goal

pub returns-clause-planned : goal.returns-clause-planned
returns-clause-planned c = λ zone default H r id t f legal rows in_range h new found.
    let unknown = not_known H id new in
    let is = found (keyed (book_of zone default H) t rows) in (
      c.one_more_answer.ensures.reply (book_of zone default H) t r id f legal rows h unknown.0 unknown.1 is,
      c.one_more_answer.ensures.rows (book_of zone default H) t r id f legal rows in_range h unknown.0 unknown.1 is,
    )

pub returns-clause-found : goal.returns-clause-found
returns-clause-found c = λ zone default H r id t f legal rows in_range h new found.
    let unknown = not_known H id new in
    c.one_more_answer.ensures.found (book_of zone default H) t r id f legal rows in_range h unknown.0 unknown.1 (found (keyed (book_of zone default H) t rows))
