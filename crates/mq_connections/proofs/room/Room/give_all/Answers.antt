use Rattle.std.proofs.Common.{drop, length, rules, ◌+◌, ◌∙◌, ◌≤◌}
use Rattle.std.proofs.lemmas.List.{drop_all, drop_more}
use Rattle.mq_connections.specs.Sessions.{held}
use Rattle.mq_connections.proofs.Giving.{got_drop, left_more, left_none, left_short}
use Rattle.mq_connections.proofs.room.Room.give_all.Goals as goal

-- a reply is there for each
pub returns-in_default-clause-goes : goal.returns-in_default-clause-goes
returns-in_default-clause-goes c = λ who old wires end l.
    let i = c.loop-at.invariant in
    let ns = c.args.numbers.now in
    let at = c.loop-at.at in
    let short : length c.args.replies.now ≤ at = search rules in
    absurd (left_short old wires c.loop-at.self.last (held c.loop-at.self.opened) _ (drop (at + 1) ns) end (rw (drop_more ns at 0 c.loop-at-test.true, drop_all at c.args.replies.now short) at (i.goes who old wires end l)))

pub loop-at-preserved : goal.loop-at-preserved
loop-at-preserved c =
    let i = c.loop-at.invariant in
    let ns = c.args.numbers.now in
    let at = c.loop-at.at in
    let e = c.give.ensures in
    let got = c.in-Some.ensures.lookup in
    record {
      last = e.last ∙ i.last;
      goes = λ who old wires end l.
          rw e.last (left_more c.more_exchanges.ensures.more old wires c.loop-at.self.last _ (held c.loop-at.self.opened) (held c.give.new.self.opened) (drop (at + 1) ns) c.in-Some.reply.now (drop (at + 1) c.args.replies.now) end e.gives e.others
          (rw (drop_more ns at 0 c.loop-at-test.true, got_drop c.args.replies.now at c.in-Some.reply.now got.3.0 got.1) at (i.goes who old wires end l)));
    }

pub returns-clause-goes : goal.returns-clause-goes
returns-clause-goes c = λ who old wires end l.
    let none = drop_all c.loop-at.at c.args.numbers.now c.loop-at-test.false in
    left_none old wires c.loop-at.self.last (held c.loop-at.self.opened) (drop c.loop-at.at c.args.replies.now) end (rw none at (c.loop-at.invariant.goes who old wires end l))
