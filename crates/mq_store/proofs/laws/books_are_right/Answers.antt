use Rattle.mq_store.proofs.Words.{figures}
use Rattle.mq_store.specs.Auditing.{IsAuditOf}
use Rattle.mq_store.proofs.Audits.{has_figures, right_by}
use Rattle.mq_store.proofs.laws.books_are_right.Goals as goal

pub returns : goal.returns
returns c = λ b t db a legal holds rows audited.
    let it : IsAuditOf b.zone b.default (figures t) a = audited.of_all (figures t) (has_figures db t holds) in
    right_by b.zone b.default it.read a (c.histories_are_right.ensures b t it.read legal rows it.same.usage it.same.transactions it.same.limits) it.audited
