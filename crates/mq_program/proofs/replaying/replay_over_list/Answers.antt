use Rattle.mq_program.proofs.replaying.replay_over_list.Goals as goal

pub returns-clause-replays : goal.returns-clause-replays
returns-clause-replays g c = c.replay_over.ensures.replays tt c.new-ledger.ensures.sound c.args.zone c.args.default c.new-ledger.ensures.book
