use Rattle.std.proofs.Common.{OnOk, Option, subst, sym}
use Rattle.mq_store.proofs.Words.{Runs, state}
use Rattle.mq_store.specs.GivingUp.{GivesUp}
use Rattle.mq_store.proofs.giving_up.give_up.Goals as goal

pub returns-in-Some-clause-given_up : goal.returns-in-Some-clause-given_up
returns-in-Some-clause-given_up g c clean =
    subst (λ (runs : Option Runs). OnOk c.give_up_runs.result (GivesUp runs (state g.S.Store c.args.tx.now.conn.now).now (state g.S.Store c.give_up_runs.new.tx.conn.now).now)) (sym c.in-Some.is) (c.give_up_runs.ensures.given_up clean)
