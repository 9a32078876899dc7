use Rattle.std.proofs.Common.{drop, length, rules, sym, ◌≤◌, ◌∙◌}
use Rattle.std.proofs.lemmas.List.{drop_all}
use Rattle.mq_watch.proofs.Allowing.{none_left}
use Rattle.mq_watch.proofs.allowed.are_allowed.Goals as goal

-- no peer is there for the request at this place
pub returns-in_default : goal.returns-in_default
returns-in_default c =
    let at = c.loop-at.at in
    let ps = c.args.peers.now in
    let short : length ps ≤ at = search rules in
    sym (none_left c.args.permits.now c.args.requests.now at c.loop-at-test.true) ∙ (rw (drop_all at ps short) at c.loop-at.invariant.same)
