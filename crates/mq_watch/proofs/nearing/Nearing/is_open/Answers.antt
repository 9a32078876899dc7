use Rattle.std.proofs.Common.{Option, ap, subst, ◌∙◌}
use Rattle.std.specs.Prelude.{IsTrue}
use Rattle.mq_watch.specs.Known.{known}
use Rattle.mq_watch.specs.Nearing.{IsOpen}
use Rattle.mq_watch.specs.declared.nearing.LoginNote.{LoginNote}
use Rattle.mq_watch.proofs.nearing.Nearing.is_open.Goals as goal

pub returns-in-Some : goal.returns-in-Some
returns-in-Some c =
    subst (λ (o : Option LoginNote). (IsTrue c.is_open.result → IsOpen o c.args.day c.args.used) × (IsOpen o c.args.day c.args.used → IsTrue c.is_open.result))
    (c.in-Some.ensures.value ∙ ap (known c.args.self.now.logins) c.as_slice.ensures) c.is_open.ensures
