use Rattle.std.proofs.Common.{◌≡◌, ℕ, List, None, Some, subst, ◌∙◌}
use Rattle.mq_watch.specs.Known.{known}
use Rattle.mq_watch.proofs.Names.{few_kept, stays}
use Rattle.mq_watch.proofs.hourly.Hourly.put.Goals as goal

pub returns-in-Ok-clause-others : goal.returns-in-Ok-clause-others
returns-in-Ok-clause-others g c = λ l not.
    stays c.insert.result c.args.self.now.names c.insert.new.self c.in-Ok.key.items (Some c.args.value)
    c.insert.ensures.updates c.insert.ensures.err l (λ same. not (same ∙ c.in-Ok.ensures.items))

pub returns-in-Ok-clause-few : goal.returns-in-Ok-clause-few
returns-in-Ok-clause-few g c = λ few.
    few_kept c.insert.result c.args.self.now.names c.insert.new.self c.in-Ok.key.items c.args.self.now.most
    c.insert.ensures.old c.insert.ensures.len c.insert.ensures.err
    (λ none. c.is_full.ensures.room c.if-is_full.false (subst (λ (l : List ℕ). known c.args.self.now.names l ≡ None) c.in-Ok.ensures.items none)) few
