use Rattle.std.proofs.Common.{subst, sym, ◌∙◌}
use Rattle.mq_store.proofs.Words.{HasCleanDisk, state}
use Rattle.mq_store.specs.Opening.{IsFaultOf}
use Rattle.mq_store.proofs.OpenFaults.{judged_some, judged_none, of_floors, of_any_rule, floors_open, has_rule_behind}
use Rattle.mq_store.proofs.opening.fault_where_current.Goals as goal

pub returns-in-Some-clause-judged : goal.returns-in-Some-clause-judged
returns-in-Some-clause-judged g c clean =
    judged_some g.S.Store c.args.zone c.args.default c.args.setting.now c.args.connection.now c.read_floors-floors.new.connection c.read_floors-floors.result c.in-Some.fault (c.read_floors-floors.ensures.read clean) (sym c.fault_by_floors.ensures ∙ c.in-Some.is)

pub returns-in-Some-clause-exact : goal.returns-in-Some-clause-exact
returns-in-Some-clause-exact g c clean s rule shown has =
    of_floors c.args.zone c.args.default s rule c.read_floors-floors.result c.in-Some.fault (c.read_floors-floors.ensures.floors clean has.1.0 has.1.1) (sym c.fault_by_floors.ensures ∙ c.in-Some.is)

pub returns-clause-judged : goal.returns-clause-judged
returns-clause-judged g c clean =
    let sure : HasCleanDisk (state g.S.Store c.read_floors-floors.new.connection) = c.read_rule-rule.ensures.clean clean in
    judged_none g.S.Store c.args.zone c.args.default c.args.setting.now c.args.connection.now c.read_floors-floors.new.connection c.read_rule-rule.new.connection c.read_floors-floors.result c.read_rule-rule.result _
    (c.read_floors-floors.ensures.read sure) (sym c.fault_by_floors.ensures ∙ c.in_default.is) (c.read_rule-rule.ensures.read clean) c.fault_by_any_rule.ensures

pub returns-clause-exact : goal.returns-clause-exact
returns-clause-exact g c clean s rule shown has =
    let sure : HasCleanDisk (state g.S.Store c.read_floors-floors.new.connection) = c.read_rule-rule.ensures.clean clean in
    let is_open = floors_open c.read_floors-floors.result (sym c.fault_by_floors.ensures ∙ c.in_default.is) (c.read_floors-floors.ensures.open sure) in
    let there = has_rule_behind (state g.S.Store c.args.connection.now) (state g.S.Store c.read_floors-floors.new.connection) rule (c.read_floors-floors.ensures.spares sure) is_open has.0 in
    subst (IsFaultOf c.args.zone c.args.default s rule) (sym c.fault_by_any_rule.ensures)
    (of_any_rule c.args.zone c.args.default s c.args.setting.now shown rule c.read_rule-rule.result (c.read_rule-rule.ensures.row clean rule there))
