use Rattle.mq_store.proofs.Words.{state}
use Rattle.mq_store.proofs.Sound.{made_blank}
use Rattle.mq_store.proofs.fill.make.Goals as goal

pub returns-clause-blank : goal.returns-clause-blank
returns-clause-blank g c clean =
    let old = state g.S.Store c.args.tx.now.conn.now in
    let new = state g.S.Store c.make_tables.new.tx.conn.now in
    made_blank c.args.indexed c.args.terms.now.zone c.args.terms.now.default old.now new.now c.new_setting-made_with.ensures.in_range c.requires.in_range (rw c.new_setting-made_with.ensures.value at (c.in_ok-make_tables.ensures.made clean))
