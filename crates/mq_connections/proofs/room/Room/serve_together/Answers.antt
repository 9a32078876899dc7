use Rattle.mq_connections.proofs.room.Room.serve_together.Goals as goal

-- what could be read was, and the requests that stand next were taken together, or not
pub returns-in-Ok-clause-goes : goal.returns-in-Ok-clause-goes
returns-in-Ok-clause-goes g c = λ k s old start.
    c.take_together.ensures.goes k s old (g.N.Network.wire c.read_all.new.network)
    (c.read_all.ensures.goes _ old (g.L.Ledger.book c.args.ledger.now) (g.L.Ledger.told c.args.ledger.now) (g.met.L.Ledger.sound_is_legal c.args.ledger.now s) start)

-- there was no memory for them
pub returns-in-Err-clause-goes : goal.returns-in-Err-clause-goes
returns-in-Err-clause-goes g c = λ k s old start.
    c.read_all.ensures.goes _ old (g.L.Ledger.book c.args.ledger.now) (g.L.Ledger.told c.args.ledger.now) (g.met.L.Ledger.sound_is_legal c.args.ledger.now s) start
