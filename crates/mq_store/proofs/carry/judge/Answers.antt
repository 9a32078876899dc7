use Rattle.std.proofs.Common.{subst, sym}
use Rattle.mq_store.proofs.Words.{was_clean}
use Rattle.mq_store.specs.Taking.{HasBook, book_of}
use Rattle.mq_store.proofs.carry.judge.Goals as goal

pub returns-clause-judged : goal.returns-clause-judged
returns-clause-judged g c clean = λ default H has.
    let mid = was_clean c.stays.ensures.leaves clean in
    let a = c.in_ok-answered.ensures.read mid c.args.terms.now.zone default H has in
    let here = subst (HasBook (book_of c.args.terms.now.zone default H)) (sym (c.in_ok-answered.ensures.stays mid).now) has in
    record { reply = a.reply; at = a.at; told = c.in_ok-is_staying.ensures.told clean default H here a.reply a.is }
