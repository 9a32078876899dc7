use Rattle.std.proofs.Common.{None, ◌∙◌}
use Rattle.mq_watch.proofs.Names.{known_beside}
use Rattle.mq_watch.proofs.nearing.Nearing.forget.Goals as goal

pub returns-clause-others : goal.returns-clause-others
returns-clause-others c = λ l not.
    known_beside c.args.self.now.logins c.remove.new.self c.as_slice.result.now None c.remove.ensures.updates l (λ same. not (same ∙ c.as_slice.ensures))
