use Rattle.std.proofs.Common.{Some, ap, arith, refl, suc, ◌+◌, ◌<◌, ◌≡◌}
use Rattle.mq_server.proofs.Giving.{given_enough, given_going, given_none, left_is, under_all}
use Rattle.mq_server.proofs.connection.Connection.hold_reply.Goals as goal

pub returns-then-self-ge-ENOUGH-clause-lives : goal.returns-then-self-ge-ENOUGH-clause-lives
returns-then-self-ge-ENOUGH-clause-lives c = rw (← c.self.view_is) (λ going.
    let left = left_is c.self.inside.feed c.next_body.follows.lender-at-none c.self.invariant.0 c.next_body.follows.holds-at-none in
    let count : c.self.inside.answered + 1 ≡ suc c.self.inside.answered = omega arith in
    let under = under_all c.self.inside.end c.self.inside.answered c.self.invariant.1 going in
    let all : c.self.inside.answered + 1 ≡ 10000 = omega (arith, under, c.if-self-ge-ENOUGH.true) in
    given_enough _ _ c.args.reply.now going left refl count all (rw c.in-Answered.is at c.add.ensures.added))

pub returns-else-self-ge-ENOUGH-clause-lives : goal.returns-else-self-ge-ENOUGH-clause-lives
returns-else-self-ge-ENOUGH-clause-lives c = rw (← c.self.view_is) (λ going.
    let left = left_is c.self.inside.feed c.next_body.follows.lender-at-none c.self.invariant.0 c.next_body.follows.holds-at-none in
    let count : c.self.inside.answered + 1 ≡ suc c.self.inside.answered = omega arith in
    let under = under_all c.self.inside.end c.self.inside.answered c.self.invariant.1 going in
    let few : c.self.inside.answered + 1 < 10000 = omega (arith, under, c.if-self-ge-ENOUGH.false) in
    given_going _ _ c.args.reply.now going left going count few (rw c.in-Answered.is at c.add.ensures.added))

pub returns-in-Ended-clause-lives : goal.returns-in-Ended-clause-lives
returns-in-Ended-clause-lives c = rw (← c.self.view_is) (λ going.
    let left = left_is c.self.inside.feed c.next_body.follows.lender-at-none c.self.invariant.0 c.next_body.follows.holds-at-none in
    let full = rw c.in-Ended.is at c.add.ensures.added in
    given_none _ _ c.args.reply.now going left (ap Some full.0) full.1)
