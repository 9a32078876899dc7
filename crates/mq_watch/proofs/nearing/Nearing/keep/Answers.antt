use Rattle.std.proofs.Common.{◌≡◌, List, ℕ, None, Some, ap, subst, ◌∙◌}
use Rattle.mq_watch.proofs.Names.{beside_kept, few_kept}
use Rattle.mq_watch.specs.Known.{known}
use Rattle.mq_watch.specs.Nearing.{full_at}
use Rattle.mq_watch.proofs.nearing.Nearing.keep.Goals as goal

pub returns-in-Ok-clause-others : goal.returns-in-Ok-clause-others
returns-in-Ok-clause-others c = λ l not.
    beside_kept c.insert.result c.args.self.now.logins c.make_room.new.self.logins c.insert.new.self c.in-Ok.key.items (Some c.args.note)
    (full_at c.args.self.now.logins c.args.login.now)
    (λ few. ap (λ s. s.logins) (c.make_room.ensures.room few)) (λ many q. c.make_room.ensures.again many q)
    c.insert.ensures.updates c.insert.ensures.err l (λ same. not (same ∙ c.in-Ok.ensures.items ∙ c.as_slice.ensures))

pub returns-in-Ok-clause-few : goal.returns-in-Ok-clause-few
returns-in-Ok-clause-few c =
    few_kept c.insert.result c.make_room.new.self.logins c.insert.new.self c.in-Ok.key.items 100000
    c.insert.ensures.old c.insert.ensures.len c.insert.ensures.err
    (λ none. c.make_room.ensures.further (subst (λ (l : List ℕ). known c.make_room.new.self.logins l ≡ None) (c.in-Ok.ensures.items ∙ c.as_slice.ensures) none))
    c.make_room.ensures.few
