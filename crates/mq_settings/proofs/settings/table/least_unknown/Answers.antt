use Rattle.std.proofs.Common.{ap, sym, ◌∙◌}
use Rattle.mq_settings.specs.Keys.{is_known}
use Rattle.mq_settings.proofs.TableNames.{searched_none, searched_more, searched_found, searched_all}
use Rattle.mq_settings.proofs.settings.table.least_unknown.Goals as goal

pub loop-name-init : goal.loop-name-init
loop-name-init c = searched_none _ _ _ (c.into_iter-name-iterator.ensures.into_iter_gives ∙ c.keys-name-items.ensures.rest) c.keys-name-items.ensures.ordered

pub returns-then-not-is_known-clause-some : goal.returns-then-not-is_known-clause-some
returns-then-not-is_known-clause-some c =
    searched_found _ _ _ _ c.in-Some.name.now c.in-Some.ensures.steps (ap (is_known c.args.keys.now) (sym c.as_str.ensures.value) ∙ sym c.is_known.ensures ∙ c.if-not-is_known.true) c.loop-name.invariant

pub loop-name-preserved : goal.loop-name-preserved
loop-name-preserved c =
    searched_more _ _ _ _ c.in-Some.name.now c.in-Some.ensures.steps (ap (is_known c.args.keys.now) (sym c.as_str.ensures.value) ∙ sym c.is_known.ensures ∙ c.if-not-is_known.false) c.loop-name.invariant

pub returns-clause-none : goal.returns-clause-none
returns-clause-none c = searched_all _ _ _ c.in-None.ensures.steps.0 c.loop-name.invariant
