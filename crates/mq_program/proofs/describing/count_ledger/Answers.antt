use Rattle.std.proofs.Common.{◌∙◌, ap, rules}
use Rattle.sqlite.specs.Held.{state}
use Rattle.mq_program.proofs.CountingSteps.{counted}
use Rattle.mq_program.proofs.describing.count_ledger.Goals as goal

pub returns-clause-counted : goal.returns-clause-counted
returns-clause-counted g c = λ kept sound.
    let before = c.args.ledger.now in
    let mid = c.count_answers.new.self in
    let one = c.in_ok-answers.ensures in
    let two = c.in_ok-limits.ensures in
    let kept_one = two.kept kept in
    let found = c.found-found.ensures ∙ two.counts ∙ one.counts in
    record {
      answers = one.counted kept_one sound;
      days = ap (λ f. f.days) found;
      transactions = ap (λ f. f.transactions) found;
      limits = counted (state g.S.Store before.connection).now (state g.S.Store mid.connection).now c.in_ok-limits.limits.items c.len.result (one.same kept_one) (search rules) (two.found kept);
    }
