use Rattle.std.proofs.Common.{None, inr, subst, sym}
use Rattle.mq_remote.specs.Asked.{AsksAt, ResumesThere}
use Rattle.mq_remote.proofs.subcommands.stop.ask_resume.Goals as goal

pub returns-in-Some : goal.returns-in-Some
returns-in-Some g c =
    let (found, runs, quiet) = c.run_resume.ensures in
    subst (λ m. AsksAt g.D.Dial.leads g.D.Link.Link.told (ResumesThere c.args.setter.now c.args.day m) c.args.address c.run_resume.result) (sym c.in-Some.is)
    (inr (record { link = _; after = _; output = None; output' = None; is_led = c.link_to-link.ensures; asked = (found, runs) }))

pub returns : goal.returns
returns g c =
    let (found, runs, quiet) = c.run_restore.ensures in
    subst (λ m. AsksAt g.D.Dial.leads g.D.Link.Link.told (ResumesThere c.args.setter.now c.args.day m) c.args.address c.run_restore.result) (sym c.in-None.is)
    (inr (record { link = _; after = _; output = None; output' = None; is_led = c.link_to-link.ensures; asked = (found, runs) }))
