use Rattle.mq_store.proofs.recall.answered_at.Goals as goal

pub returns-clause-read : goal.returns-clause-read
returns-clause-read g c clean = λ zone default H b.
    c.answers_are_entries.ensures zone default H b.has.tables c.args.place c.in-Some.bodies c.in_ok-request.request c.in_ok-reply.reply b.legal b.has.rows
    (rw c.in-Some.is at (c.in_ok-bodies.ensures.found clean b.has.tables b.has.holds)) c.in_ok-request.ensures c.in_ok-reply.ensures
