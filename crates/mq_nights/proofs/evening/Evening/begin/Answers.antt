use Rattle.std.proofs.Common.{sym, subst}
use Rattle.sqlite.specs.Held.{state}
use Rattle.sqlite.specs.Steps.{over_memory}
use Rattle.mq_store.specs.Taking.{book_of}
use Rattle.mq_nights.specs.Nights.{IsUnderWay}
use Rattle.mq_nights.proofs.Comes.{if_some}
use Rattle.mq_nights.proofs.evening.Evening.begin.Goals as goal

pub returns-clause-begun : goal.returns-clause-begun
returns-clause-begun g c = if_some c.begin_renewal.result _ _ _
    (λ r lent begun fresh H. subst (λ D. IsUnderWay (book_of c.args.zone c.args.default H) D r.reached (state g.N.Store r.made.connection) (state over_memory r.scratch.connection)) (sym lent.2) (begun fresh H))
    c.begin_renewal.ensures.lent c.begin_renewal.ensures.begun
