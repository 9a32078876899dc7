use Rattle.std.proofs.Common.{◌∙◌, refl}
use Rattle.mq_connections.proofs.room.Room.expire.Goals as goal

pub loop-late-init : goal.loop-late-init
loop-late-init g c = record { last = refl; goes = λ who old book told last failed start. start }

pub loop-late-preserved : goal.loop-late-preserved
loop-late-preserved g c =
    let i = c.loop-late.invariant in record {
      last = c.give_up.ensures.last ∙ i.last;
      goes = λ who old book told last failed start. c.give_up.ensures.goes who old book told last failed (i.goes who old book told last failed start);
    }
