use Rattle.std.proofs.Common.{List, subst, sym}
use Rattle.mq_store.proofs.Words.{Entry, day_of}
use Rattle.mq_store.specs.Taking.{HasBook, book_of}
use Rattle.mq_store.proofs.KnownNumbers.{not_known}
use Rattle.mq_store.proofs.laws.arrivals_are_applied.Goals as goal

pub returns-clause-new : goal.returns-clause-new
returns-clause-new c = λ zone default H r id db legal in_range h new rows.
    let day = day_of zone in
    let (above, none) = not_known H id new in
    subst (λ (K : List Entry). HasBook (book_of zone default K) db) (sym (c.one_more_answer.ensures.history day default H r id legal.legal h above none)) (record {
      legal = record { zone = legal.zone; default = legal.default; legal = c.one_more_answer.ensures.legal day default H r id legal.legal in_range h above none };
      has = rows;
    })

pub returns-clause-known : goal.returns-clause-known
returns-clause-known c = λ zone default H r id db there b.
    subst (λ (K : List Entry). HasBook (book_of zone default K) db) (sym (c.nothing_is_added.ensures.known (day_of zone) default H r b.legal.legal there)) b

pub returns-clause-unnumbered : goal.returns-clause-unnumbered
returns-clause-unnumbered c = λ zone default H r db h b.
    subst (λ (K : List Entry). HasBook (book_of zone default K) db) (sym (c.nothing_is_added.ensures.unnumbered (day_of zone) default H r b.legal.legal h)) b
