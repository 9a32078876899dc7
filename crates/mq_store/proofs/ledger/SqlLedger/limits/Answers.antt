use Rattle.mq_store.proofs.Words.{figures, state}
use Rattle.mq_store.proofs.Audits.{has_figures}
use Rattle.mq_store.proofs.ledger.SqlLedger.limits.Goals as goal

pub returns-in-Ok-clause-set : goal.returns-in-Ok-clause-set
returns-in-Ok-clause-set g c = rw (← c.self.view_is) (λ kept sound.
    let old = state g.S.Store c.self.inside.connection in
    record {
      rows = sound.tables.limits;
      set = sound.rows.limits;
      same = c.in-Ok.ensures.found kept.clean (figures sound.tables) (has_figures old.now sound.tables sound.holds);
    })
