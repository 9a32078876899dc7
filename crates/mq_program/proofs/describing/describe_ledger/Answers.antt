use Rattle.std.proofs.Common.{◌∙◌}
use Rattle.sqlite.specs.Held.{state}
use Rattle.mq_program.proofs.DescribingSteps.{described, described_front}
use Rattle.mq_program.proofs.describing.describe_ledger.Goals as goal

pub returns-clause-describes : goal.returns-clause-describes
returns-clause-describes g c kept sound =
    let l = c.args.ledger.now in
    described c.args.path.now c.args.bytes l.zone c.zone.result.now l.default c.default_cap-default.result (state g.S.Store l.connection).now l.found c.in_ok-counts.counts _ _ _ _
    c.zone.ensures c.default_cap-default.ensures.value (c.in_ok-counts.ensures.counted kept sound) (c.as_bytes.ensures.value ∙ c.in_ok-text.ensures) c.print.ensures.whole

pub returns-clause-front : goal.returns-clause-front
returns-clause-front g c kept sound =
    let l = c.args.ledger.now in
    described_front c.args.path.now c.args.bytes l.zone c.zone.result.now l.default c.default_cap-default.result (state g.S.Store l.connection).now l.found c.in_ok-counts.counts _ _ _ _
    c.zone.ensures c.default_cap-default.ensures.value (c.in_ok-counts.ensures.counted kept sound) (c.as_bytes.ensures.value ∙ c.in_ok-text.ensures) c.print.ensures.front
