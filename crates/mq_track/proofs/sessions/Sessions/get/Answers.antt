use Rattle.mq_track.proofs.Records.{known-entry}
use Rattle.mq_track.proofs.sessions.Sessions.get.Goals as goal

pub returns : goal.returns
returns c = rw (← c.self.view_is) (rw c.get.ensures.value (known-entry c.self.inside.records.entries c.args.session.now))
