use Rattle.std.proofs.Common.{[], ℕ, List, refl, subst, ap, Err, None}
use Rattle.mq_client.proofs.Words.{SoFar, around, concat}
use Rattle.mq_client.specs.declared.fault.FilterFault.TheVariants as faults
use Rattle.mq_client.proofs.Looping.{Does-still, stops_within}
use Rattle.mq_client.proofs.filter.take_lines.Goals as goal

pub returns-in-Err-handle-clause-fault : goal.returns-in-Err-handle-clause-fault
returns-in-Err-handle-clause-fault g c = λ o pieces source read_failed s.
    let (one, rest, whole) = rw c.in-Ok-Some.field-0-is at c.in-Ok-Some.ensures.front in
    c.in-Err-handle.ensures.fault rest o pieces source read_failed (subst (λ (held : List ℕ). SoFar o (concat pieces) held c.lines.filter (around (g.W.Sink.contents c.lines.output) (g.K.Link.told c.lines.link) c.lines.client)) whole (c.lines.invariant.carries o (concat pieces) s))

pub returns-in-Err-clause-fault : goal.returns-in-Err-clause-fault
returns-in-Err-clause-fault g c = λ o pieces source read_failed s.
    stops_within o pieces c.lines.feed.rest c.lines.filter source _ _ read_failed _ faults.TooLong None [] [] (c.lines.invariant.carries o (concat pieces) s) (Does-still _)
    (λ stage a. c.in-Err.ensures.too_long.0 (ap Err c.in-Err.ensures.fault))
    (λ stage a. (refl, refl))
    (λ stage a e. absurd (cc (e)))
