use Rattle.std.proofs.Common.{subst, sym}
use Rattle.mq_store.proofs.Words.{IfOk-weaker, was_clean}
use Rattle.mq_store.specs.Taking.{HasBook, book_of}
use Rattle.mq_store.proofs.carry.step.Goals as goal

pub returns-clause-renews : goal.returns-clause-renews
returns-clause-renews g c clean clean_into =
    let mid = was_clean c.step_by.ensures.from_leaves clean in
    IfOk-weaker c.step_by.result _ _ (λ to by H has carried.
    by H (subst (HasBook (book_of c.args.terms.now.zone c.args.terms.now.default H)) (sym (c.in_ok-judged.ensures.stays mid).now) has)
    (c.in_ok-judged.ensures.judged mid c.args.terms.now.default H has) carried)
    (c.step_by.ensures.renews clean clean_into)
