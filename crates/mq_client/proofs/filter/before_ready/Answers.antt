use Rattle.std.proofs.Common.{◌++◌, ◌∷◌, [], refl, sym, inr, None}
use Rattle.mq_client.proofs.Words.{IsAt, IsAtWork, Stage, meaning}
use Rattle.mq_client.specs.declared.fault.FilterFault.TheVariants as faults
use Rattle.mq_client.proofs.Looping.{carries_early, carries_ready, at_before, Does-still, stops_within, cut_found, cut_in_hand, first_of}
use Rattle.mq_lemmas.proofs.Telling.{Tells-none}
use Rattle.mq_client.proofs.filter.before_ready.Goals as goal

pub returns-in-Passed-clause-ok : goal.returns-in-Passed-clause-ok
returns-in-Passed-clause-ok g c = λ told client. carries_early (meaning c.args.line.now) c.args.filter.now _ c.requires c.in-Passed.ensures

pub returns-in-Ok-clause-ok : goal.returns-in-Ok-clause-ok
returns-in-Ok-clause-ok g c = λ told client. carries_ready (meaning c.args.line.now) c.args.filter.now _ _ _ told client c.requires c.in-Ready.ensures c.in-Ok.ensures.ok refl refl refl refl

pub returns-in-TooEarly-clause-fault : goal.returns-in-TooEarly-clause-fault
returns-in-TooEarly-clause-fault g c = λ told client o pieces line rest source read_failed one reads s.
    stops_within o pieces (line ++ 10 ∷ rest) c.args.filter.now source _ _ read_failed _ faults.NotReady None [] [] s (Does-still _)
    (λ stage a. (meaning c.args.line.now, line, at_before c.args.filter.now stage c.requires a, first_of line rest one, reads, c.in-TooEarly.ensures))
    (λ stage a. (refl, refl))
    (λ stage a e. absurd (cc (e)))

pub returns-in-Err-clause-fault : goal.returns-in-Err-clause-fault
returns-in-Err-clause-fault g c = λ told client o pieces line rest source read_failed one reads s.
    let (front, more, whole, written) = c.in-Err.ensures.cut in
    let f = c.in-Err.fault in
    let work : (stage : Stage) → IsAt c.args.filter.now stage → IsAtWork stage (line ++ 10 ∷ rest) = λ stage a. rw (at_before c.args.filter.now stage c.requires a) (line, first_of line rest one, rw c.in-Ready.ensures at reads) in
    stops_within o pieces (line ++ 10 ∷ rest) c.args.filter.now source _ _ read_failed _ f None front more s
    (record { written = written; exchanged = Tells-none told; made = refl })
    (λ stage a. cut_found f stage pieces _ source read_failed _ c.in-Err.ensures.fault (work stage a))
    (λ stage a. rw (at_before c.args.filter.now stage c.requires a) (cut_in_hand f _ _ _ _ _ None _ c.in-Err.ensures.fault (inr (line, first_of line rest one, (rw c.in-Ready.ensures at reads, refl, sym whole)))))
    (λ stage a e. work stage a)
