use Rattle.std.proofs.Common.{rules}
use Rattle.sqlite.specs.Held.{state}
use Rattle.mq_program.proofs.CountingSteps.{counted}
use Rattle.mq_program.proofs.forgetting.count_kept.Goals as goal

pub returns-clause-limits : goal.returns-clause-limits
returns-clause-limits g c kept =
    counted (state g.S.Store c.args.new.now.connection).now (state g.S.Store c.count_answers.new.self.connection).now c.in_ok-limits.limits.items c.len.result
    (c.in_ok-answers.ensures.same (c.in_ok-limits.ensures.kept kept)) (search rules) (c.in_ok-limits.ensures.found kept)
