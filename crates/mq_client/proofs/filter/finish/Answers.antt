use Rattle.std.proofs.Common.{[], refl, None}
use Rattle.mq_client.specs.declared.fault.FilterFault.TheVariants as faults
use Rattle.mq_client.proofs.Looping.{Does-still, stops, at_before, ends, err_not_ok, is_ok_by}
use Rattle.mq_client.proofs.filter.finish.Goals as goal

pub returns-in-Err-clause-fault : goal.returns-in-Err-clause-fault
returns-in-Err-clause-fault g c = λ o pieces source sink read_failed write_failed at_end s.
    stops o pieces c.args.feed.now.rest c.args.filter.now source _ _ read_failed write_failed faults.CutLine None [] [] s (Does-still _)
    (λ stage a. ((λ none. err_not_ok c.finish.result _ c.in-Err.is (c.finish.ensures.ok.1 none)), c.requires, at_end))
    (λ stage a. (refl, refl))

pub returns-then-not-filter-clause-fault : goal.returns-then-not-filter-clause-fault
returns-then-not-filter-clause-fault g c = λ o pieces source sink read_failed write_failed at_end s.
    stops o pieces c.args.feed.now.rest c.args.filter.now source _ _ read_failed write_failed faults.EndedEarly None [] [] s (Does-still _)
    (λ stage a. (at_before c.args.filter.now stage c.if-not-filter.true a, c.finish.ensures.ok.0 (is_ok_by c.finish.result _ c.in-Ok.is), at_end))
    (λ stage a. (refl, refl))

pub returns-clause-ok : goal.returns-clause-ok
returns-clause-ok g c = λ o bytes sink s.
    let (group, told, makes) = c.drain-left.ensures.step in
    ends o bytes c.args.feed.now.rest c.args.filter.now sink _ _ _ _ group _ s c.if-not-filter.false (c.finish.ensures.ok.0 (is_ok_by c.finish.result _ c.in-Ok.is)) told makes refl c.drain-left.ensures.left
