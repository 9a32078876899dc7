use Rattle.std.proofs.Common.{ap, not, subst, sym, ◌∙◌}
use Rattle.mq_store.proofs.Words.{known_by, was_clean}
use Rattle.mq_store.specs.Taking.{HasBook, book_of}
use Rattle.mq_store.proofs.KnownNumbers.{first_if_unknown}
use Rattle.mq_store.proofs.take.take_numbered.Goals as goal

pub returns-in-Some-clause-taken : goal.returns-in-Some-clause-taken
returns-in-Some-clause-taken g c clean =
    let stays = c.in_ok-known.ensures.stays clean in (
      (λ H b. let known = rw c.in-Some.is at (c.in_ok-known.ensures.known clean c.args.zone c.args.default H b) in (
        known.1,
        c.arrivals_are_applied.ensures.known c.args.zone c.args.default H c.args.request.now c.args.id.now _ (ap (known_by H) c.requires.number ∙ known.0)
            (subst (HasBook (book_of c.args.zone c.args.default H)) (sym stays.now) b),
      )),
      stays.now,
      (λ H b. let known = rw c.in-Some.is at (c.in_ok-known.ensures.known clean c.args.zone c.args.default H b) in
          first_if_unknown H c.args.request.now c.args.id.now b.legal.legal.distinct c.requires.number ∙ ap not known.0),
    )

pub returns-in_ok-new-in-None-clause-taken : goal.returns-in_ok-new-in-None-clause-taken
returns-in_ok-new-in-None-clause-taken g c clean =
    let mid = was_clean c.take_new.ensures.leaves clean in
    let stays = c.in_ok-known.ensures.stays mid in (
      (λ H b. let new = rw c.in-None.is at (c.in_ok-known.ensures.known mid c.args.zone c.args.default H b) in
          c.in_ok-new-in-None.ensures.applied clean H (subst (HasBook (book_of c.args.zone c.args.default H)) (sym stays.now) b) new),
      (λ H b. let new = rw c.in-None.is at (c.in_ok-known.ensures.known mid c.args.zone c.args.default H b) in
          first_if_unknown H c.args.request.now c.args.id.now b.legal.legal.distinct c.requires.number ∙ ap not new),
    )
