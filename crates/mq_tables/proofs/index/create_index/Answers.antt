use Rattle.mq_tables.proofs.Words.{state}
use Rattle.mq_tables.proofs.Chain.{on_ok, ran}
use Rattle.mq_tables.proofs.making.IndexCreating.{indexes, has_indexed}
use Rattle.mq_tables.proofs.making.Makes.{was_open}
use Rattle.mq_tables.proofs.index.create_index.Goals as goal

pub returns-clause-made : goal.returns-clause-made
returns-clause-made g c clean =
    indexes _ _ c.execute.result (ran c.execute.ensures.survives c.requires.inside c.execute.ensures.runs clean)

pub returns-clause-open : goal.returns-clause-open
returns-clause-open g c clean =
    was_open _ _ _ _ c.execute.result (ran c.execute.ensures.survives c.requires.inside c.execute.ensures.runs clean)

pub returns-clause-indexed : goal.returns-clause-indexed
returns-clause-indexed g c clean = on_ok c.execute.result (returns-clause-made g c clean) (has_indexed (state g.S.Store c.args.tx.now.conn.now) (state g.S.Store c.execute.new.self.conn.now))

pub returns-clause-inside : goal.returns-clause-inside
returns-clause-inside g c clean = on_ok c.execute.result (returns-clause-made g c clean) (λ made. made.0)
