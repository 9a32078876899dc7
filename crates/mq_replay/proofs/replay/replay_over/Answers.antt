use Rattle.std.proofs.Common.{map}
use Rattle.mq_replay.proofs.ReplaySteps.{of_printing, served}
use Rattle.mq_replay.proofs.replay.replay_over.Goals as goal

pub returns-in-Ok-clause-cause : goal.returns-in-Ok-clause-cause
returns-in-Ok-clause-cause g c =
    let answered = c.in-Ok.answered in
    served (g.L.Ledger.has_store c.args.ledger.now) (map (λ s. s.inner.items) answered.written.items) answered.ends.items
    (g.W.Write.contents c.args.output.now) (g.W.Write.contents c.print_answers.new.output) c.print_answers.result c.print_answers.ensures

pub returns-in-Ok-clause-replays : goal.returns-in-Ok-clause-replays
returns-in-Ok-clause-replays g c = λ kept sound zone default book. of_printing _ _ _ _ _ _ _ _ (c.in-Ok.ensures.answered kept sound zone default book) c.print_answers.ensures
