use Rattle.std.proofs.Common.{rules, ◌≡◌, refl}
use Rattle.mq_ledger.proofs.plain.append.Goals as goal

pub returns-clause-ok : goal.returns-clause-ok
returns-clause-ok c =
    let same : c.in_ok-clone.field-0 ≡ c.args.request.now = search rules in
    let same_reply : c.in_ok-clone-2.field-0 ≡ c.args.reply.now = search rules in
    rw (c.in_ok-push.ensures.items, same, same_reply) refl
