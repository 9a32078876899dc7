use Rattle.std.proofs.Common.{None, ap, subst, sym, ◌≡◌}
use Rattle.mq_store.proofs.Words.{id_of}
use Rattle.mq_store.specs.Taking.{HasBook, book_of}
use Rattle.mq_store.proofs.KnownNumbers.{unnumbered_is_not_first}
use Rattle.mq_store.proofs.take.take.Goals as goal

pub returns-in_ok-reply-in-Usage-clause-taken : goal.returns-in_ok-reply-in-Usage-clause-taken
returns-in_ok-reply-in-Usage-clause-taken g c clean =
    let stays = c.in_ok-reply-in-Usage.ensures.stays clean in
    let unnumbered : id_of c.args.request.now ≡ None = ap id_of c.in-Usage.is in (
      (λ H b. (
        rw c.in-Usage.is (c.in_ok-reply-in-Usage.ensures.replied clean c.args.zone H b),
        c.arrivals_are_applied.ensures.unnumbered c.args.zone c.args.default H c.args.request.now _ unnumbered
            (subst (HasBook (book_of c.args.zone c.args.default H)) (sym stays.now) b),
      )),
      stays.now,
      (λ H b. unnumbered_is_not_first H c.args.request.now unnumbered),
    )

pub returns-in_ok-reply-in-List-clause-taken : goal.returns-in_ok-reply-in-List-clause-taken
returns-in_ok-reply-in-List-clause-taken g c clean =
    let stays = c.in_ok-reply-in-List.ensures.stays clean in
    let unnumbered : id_of c.args.request.now ≡ None = ap id_of c.in-List.is in (
      (λ H b. (
        rw c.in-List.is (c.in_ok-reply-in-List.ensures.replied clean c.args.zone H b),
        c.arrivals_are_applied.ensures.unnumbered c.args.zone c.args.default H c.args.request.now _ unnumbered
            (subst (HasBook (book_of c.args.zone c.args.default H)) (sym stays.now) b),
      )),
      stays.now,
      (λ H b. unnumbered_is_not_first H c.args.request.now unnumbered),
    )
