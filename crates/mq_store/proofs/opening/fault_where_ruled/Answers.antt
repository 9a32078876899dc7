use Rattle.std.proofs.Common.{subst, sym}
use Rattle.mq_store.proofs.Words.{state}
use Rattle.mq_store.specs.Opening.{IsFaultOf}
use Rattle.mq_store.proofs.OpenFaults.{of_ruled}
use Rattle.mq_store.proofs.opening.fault_where_ruled.Goals as goal

pub returns-clause-judged : goal.returns-clause-judged
returns-clause-judged g c clean = (c.read_rule-rule.result, c.read_rule-rule.ensures.read clean, c.fault_by_rule.ensures)

pub returns-clause-exact : goal.returns-clause-exact
returns-clause-exact g c clean s rule shown has =
    subst (IsFaultOf c.args.zone c.args.default s rule) (sym c.fault_by_rule.ensures)
    (of_ruled c.args.zone c.args.default s c.args.setting.now shown (state g.S.Store c.args.connection.now).now rule c.read_rule-rule.result has (c.read_rule-rule.ensures.row clean))
