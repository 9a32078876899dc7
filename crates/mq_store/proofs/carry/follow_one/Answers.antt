use Rattle.mq_store.proofs.Words.{memory_is_clean}
use Rattle.mq_store.proofs.carry.follow_one.Goals as goal

pub returns-clause-follows : goal.returns-clause-follows
returns-clause-follows g c clean = λ H has front.
    let a = c.in_ok-answered.ensures.read clean c.args.terms.now.zone c.args.terms.now.default H has in
    let over = c.in_ok-_reply.ensures.taken (memory_is_clean c.take_any.new.tx.conn.now) _ front in
    c.entries_are_followed.ensures.follows c.args.terms.now.zone c.args.terms.now.default H c.args.place _ _ has.legal a.at over.1

pub returns-clause-inside : goal.returns-clause-inside
returns-clause-inside g c = c.in_ok-_reply.ensures.inside (memory_is_clean c.take_any.new.tx.conn.now)
