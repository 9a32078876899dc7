use Rattle.mq_nights.proofs.Looking.{finds}
use Rattle.mq_nights.proofs.lookout.Lookout.look.Goals as goal

pub returns-in-Some-moment-clause-due : goal.returns-in-Some-moment-clause-due
returns-in-Some-moment-clause-due g c = λ kept sound.
    let at = c.in-Some-moment.ensures in
    finds g.C.Moments.shows c.args.self.now.keep c.in-Some-moment.moment _ at.0 at.1 _ _ c.look_at.result (c.look_at.ensures.looks kept sound)
