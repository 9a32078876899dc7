use Rattle.std.proofs.Common.{◌++◌, ◌∷◌, [], refl, None}
use Rattle.mq_client.specs.declared.fault.FilterFault.TheVariants as faults
use Rattle.mq_client.proofs.Looping.{stops_within, Does-still, first_of}
use Rattle.mq_client.proofs.filter.handle.Goals as goal

-- a line that can't be read
pub returns-in-Err-clause-fault : goal.returns-in-Err-clause-fault
returns-in-Err-clause-fault g c = λ rest o pieces source read_failed s.
    stops_within o pieces (c.args.bytes.now ++ 10 ∷ rest) c.args.filter.now source _ _ read_failed _ (faults.Line c.in-Err.fault) None [] [] s (Does-still _)
    (λ stage a. (c.args.bytes.now, first_of c.args.bytes.now rest c.requires.line, c.in-Err.ensures.fault))
    (λ stage a. (refl, refl))
    (λ stage a e. absurd (cc (e)))

pub returns-in-Err-after_ready-clause-fault : goal.returns-in-Err-after_ready-clause-fault
returns-in-Err-after_ready-clause-fault g c = λ rest o pieces source read_failed s.
    c.in-Err-after_ready.ensures.fault o pieces c.args.bytes.now rest source read_failed c.requires.line c.in-Ok.ensures.found s

pub returns-in-Err-before_ready-clause-fault : goal.returns-in-Err-before_ready-clause-fault
returns-in-Err-before_ready-clause-fault g c = λ rest o pieces source read_failed s.
    c.in-Err-before_ready.ensures.fault (g.K.Link.told c.args.link.now) c.args.client.now o pieces c.args.bytes.now rest source read_failed c.requires.line c.in-Ok.ensures.found s
