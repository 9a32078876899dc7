use Rattle.std.proofs.Common.{inr, map, subst, sym}
use Rattle.mq_remote.specs.Asked.{AsksEachOf, ResumesThere}
use Rattle.mq_remote.proofs.subcommands.stop.resume_by.Goals as goal

pub returns-else-are_several : goal.returns-else-are_several
returns-else-are_several g c = inr (
  λ several. absurd (c.if-are_several.ensures several),
  subst (λ m. AsksEachOf g.D.Dial.leads g.D.Link.Link.told (ResumesThere c.args.setter.now c.args.day m) (map (λ s. s.now) c.args.servers.now) c.resume_at_each.result)
      (sym c.in-Some.is) c.resume_at_each.ensures,
)
