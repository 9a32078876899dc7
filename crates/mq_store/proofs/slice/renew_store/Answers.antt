use Rattle.std.proofs.Common.{arith, rules, ◌≡◌}
use Rattle.mq_store.proofs.Words.{HasCleanDisk, memory_is_clean, state}
use Rattle.mq_store.proofs.Renewals.{renews_still, ends}
use Rattle.mq_store.proofs.slice.renew_store.Goals as goal

pub returns-clause-renews : goal.returns-clause-renews
returns-clause-renews g c = λ kept kept_into.
    let same_into : c.commit.new.self.0 ≡ c.into-2-1.given.0 = search rules in
    let same_scratch : c.commit-2.new.self.0 ≡ c.scratch-2-1.given.0 = search rules in
    let read : HasCleanDisk (state g.S.Store c.go_through.new.from.conn.now) = search rules in
    let after : HasCleanDisk (state g.T.Store c.commit.new.self.0) = rw same_into kept_into.clean in
    let mid : HasCleanDisk (state g.T.Store c.go_through.new.into.conn.now) = omega (arith, c.commit.ensures.survives.clean, after) in
    let went = rw (c.transaction-reading.ensures.begun, c.transaction-writing.ensures.begun, c.transaction-applying.ensures.begun) at (c.in_ok-slice.ensures.renews read mid) in
    let now = rw same_into at ((c.in_ok-commit.ensures.ok after).1.now_is) in
    let scratch = rw same_scratch at ((c.in_ok-commit-2.ensures.ok (memory_is_clean c.commit-2.new.self.0)).1.now_is) in
    renews_still c.args.terms.now.zone c.args.terms.now.default c.args.terms.now.day c.args.at c.in_ok-slice.slice.reached _ _ _ _ _ _ _ went now scratch

pub returns-clause-counts : goal.returns-clause-counts
returns-clause-counts g c = λ kept.
    let read : HasCleanDisk (state g.S.Store c.go_through.new.from.conn.now) = search rules in
    rw c.transaction-reading.ensures.begun at (c.in_ok-slice.ensures.counts read)

pub returns-clause-ends : goal.returns-clause-ends
returns-clause-ends g c = λ kept kept_into through.
    let same_into : c.commit.new.self.0 ≡ c.into-2-1.given.0 = search rules in
    let read : HasCleanDisk (state g.S.Store c.go_through.new.from.conn.now) = search rules in
    let after : HasCleanDisk (state g.T.Store c.commit.new.self.0) = rw same_into kept_into.clean in
    let mid : HasCleanDisk (state g.T.Store c.go_through.new.into.conn.now) = omega (arith, c.commit.ensures.survives.clean, after) in
    let went = rw (c.transaction-reading.ensures.begun, c.transaction-writing.ensures.begun, c.transaction-applying.ensures.begun) at (c.in_ok-slice.ensures.renews read mid) in
    let is = rw c.transaction-reading.ensures.begun at (c.in_ok-slice.ensures.through read through) in
    let now = rw same_into at ((c.in_ok-commit.ensures.ok after).1.now_is) in
    ends c.args.terms.now.zone c.args.terms.now.default c.args.terms.now.day c.args.at c.in_ok-slice.slice.reached _ _ _ _ _ _ went is now
