use Rattle.std.proofs.Common.{ap, sym, take, ◌∙◌}
use Rattle.mq_store.proofs.Words.{Entry, is_set, memory_is_clean}
use Rattle.mq_store.proofs.carry.set_again.Goals as goal

pub returns-clause-set : goal.returns-clause-set
returns-clause-set c = λ H place reply legal at front.
    let e : Entry = record { request = c.args.request.now; reply = reply } in
    let over = c.in_ok-reply.ensures.taken (memory_is_clean c.take_any.new.tx.conn.now) (take place H) front in
    let same = c.entries_are_followed.ensures.reply c.args.terms.now.zone c.args.terms.now.default H place e legal at in (
      ap (is_set c.args.request.now) (sym same ∙ sym over.0) ∙ sym c.is_set.ensures,
      c.entries_are_followed.ensures.follows c.args.terms.now.zone c.args.terms.now.default H place e _ legal at over.1,
    )

pub returns-clause-inside : goal.returns-clause-inside
returns-clause-inside c = c.in_ok-reply.ensures.inside (memory_is_clean c.take_any.new.tx.conn.now)
