use Rattle.std.proofs.Common.{subst}
use Rattle.mq_store.proofs.Words.{day_of}
use Rattle.mq_store.specs.Taking.{HasBook, book_of}
use Rattle.mq_store.proofs.Entries.{followed, replied}
use Rattle.mq_store.proofs.laws.entries_are_followed.Goals as goal

pub returns-clause-reply : goal.returns-clause-reply
returns-clause-reply c = λ zone default H place e legal at.
    replied (day_of zone) default H place e at legal.legal (c.fronts_are_legal.ensures.front (day_of zone) default) (c.fronts_are_legal.ensures.next (day_of zone) default)

pub returns-clause-follows : goal.returns-clause-follows
returns-clause-follows c = λ zone default H place e db legal at.
    subst (λ K. HasBook (book_of zone default K) db)
    (followed (day_of zone) default H place e at legal.legal (c.fronts_are_legal.ensures.front (day_of zone) default) (c.one_more_arrival.ensures.again (day_of zone) default))
