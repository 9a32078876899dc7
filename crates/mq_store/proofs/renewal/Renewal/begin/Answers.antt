use Rattle.mq_store.proofs.Renewals.{carried_none}
use Rattle.mq_store.proofs.Sound.{new_book}
use Rattle.mq_store.proofs.renewal.Renewal.begin.Goals as goal

pub returns-in-Ok-create-clause-begun : goal.returns-in-Ok-create-clause-begun
returns-in-Ok-create-clause-begun g c clean free = λ H.
    let made = new_book c.args.zone c.args.default _ (c.in-Ok-create.ensures.sound clean free.counters free.unnamed) in
    let scratch = new_book c.args.zone c.args.default _ c.in-Ok.ensures.new in
    carried_none c.args.zone c.args.default c.args.day H _ _ _ c.nothing.ensures.0 c.nothing.ensures.1 made scratch
