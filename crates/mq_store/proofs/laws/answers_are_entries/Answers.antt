use Rattle.mq_store.proofs.Words.{day_of}
use Rattle.mq_store.proofs.Entries.{entry_is}
use Rattle.mq_store.proofs.laws.answers_are_entries.Goals as goal

pub returns : goal.returns
returns c = λ zone default H t place b r a legal rows at spelled known.
    entry_is c.one_spelling.ensures.one_request c.one_spelling.ensures.one_reply H t.answers place b r a legal.legal.range
    (c.replies_in_range.ensures.stored (day_of zone) default H legal.default (c.replies_in_range.ensures.days zone legal.zone) legal.legal)
    rows.answers at spelled known
