use Rattle.std.proofs.Common.{take, ◌∙◌}
use Rattle.mq_store.proofs.Words.{Entry, day_of, remembered}
use Rattle.mq_store.proofs.carry.carry_one.Goals as goal

pub returns-then-not-is_staying-clause-carried : goal.returns-then-not-is_staying-clause-carried
returns-then-not-is_staying-clause-carried g c clean = λ H place reply legal at is carried.
    let t = c.args.terms.now in
    let e : Entry = record { request = c.args.request.now; reply = reply } in
    c.entries_are_carried.ensures.goes t.zone t.default t.day H place e _ legal at (is ∙ c.if-not-is_staying.true) carried

pub returns-clause-carried : goal.returns-clause-carried
returns-clause-carried g c clean = λ H place reply legal at is carried.
    let t = c.args.terms.now in
    let e : Entry = record { request = c.args.request.now; reply = reply } in
    let kept = remembered (day_of t.zone) t.day (take place H) in
    c.entries_are_carried.ensures.stays t.zone t.default t.day H place e _ legal at (is ∙ c.if-not-is_staying.false)
    (c.in_ok-_reply.ensures.taken clean kept carried).1
