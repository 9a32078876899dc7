use Rattle.mq_connections.proofs.room.Room.read_all.Goals as goal

pub loop-number-init : goal.loop-number-init
loop-number-init g c = record { goes = λ who old book told legal start. start }

pub loop-number-preserved : goal.loop-number-preserved
loop-number-preserved g c = record { goes = λ who old book told legal start. c.read_one.ensures.goes who old book told legal (c.loop-number.invariant.goes who old book told legal start) }
