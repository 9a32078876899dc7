use Rattle.std.proofs.Common.{Ok, Some, arith, ap, drop, length, refl, sym, ◌+◌, ◌-◌, ◌≡◌}
use Rattle.mq_frame.specs.Feed.{front, next_answer}
use Rattle.mq_frame.proofs.Cuts.{shown_past}
use Rattle.mq_frame.proofs.feed.FrameFeed.next_body.Goals as goal

pub invariant_of-self-2 : goal.invariant_of-self-2
invariant_of-self-2 c =
    let feed = c.self.inside in
    let e : Ok (Some c.in-Some.body.now) ≡ next_answer (front feed.limit (drop feed.taken feed.bytes.items)) = rw c.in-Some.is at c.in_ok-body.ensures in
    (shown_past feed.limit feed.taken feed.bytes.items c.in-Some.body.now c.self.invariant e).0

pub slice_bounds-result-end : goal.slice_bounds-result-end
slice_bounds-result-end c =
    let feed = c.self.inside in
    let e : Ok (Some c.in-Some.body.now) ≡ next_answer (front feed.limit (drop feed.taken feed.bytes.items)) = rw c.in-Some.is at c.in_ok-body.ensures in
    let there = (shown_past feed.limit feed.taken feed.bytes.items c.in-Some.body.now c.self.invariant e).0 in
    omega (arith, there, ap length c.deref.ensures.value)

pub returns : goal.returns
returns c =
    let feed = c.self.inside in
    let e : Ok (Some c.in-Some.body.now) ≡ next_answer (front feed.limit (drop feed.taken feed.bytes.items)) = rw c.in-Some.is at c.in_ok-body.ensures in
    let s = shown_past feed.limit feed.taken feed.bytes.items c.in-Some.body.now c.self.invariant e in
    let size : feed.taken + 2 + length c.in-Some.body.now - (feed.taken + 2) ≡ length c.in-Some.body.now = omega arith in
    rw (← c.self.view_is) (
      (refl, (λ _. tt), record { limit = refl; rest = s.2; held = refl; room = refl }),
      record { after = tt; answer = rw (size, c.deref.ensures.value, s.1) e },
    )
