use Rattle.std.proofs.Common.{refl}
use Rattle.mq_track.proofs.Records.{learned}
use Rattle.mq_track.proofs.sessions.Sessions.forget.Goals as goal

pub returns : goal.returns
returns c = learned c.self.inside.records c.remove.new.self _ c.args.session.now _ _ _ c.self.view_is refl refl c.remove.ensures.updates
