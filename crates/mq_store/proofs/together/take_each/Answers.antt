use Rattle.std.proofs.Common.{List, [], ap, subst, sym, take, ◌+◌, ◌++◌, ◌∙◌, ◌∷◌, ◌≡◌}
use Rattle.std.specs.Prelude.{All}
use Rattle.std.proofs.lemmas.List.{take_more}
use Rattle.mq_store.proofs.Words.{All-push, IsReply, Reply, Request, leaves_both, state, was_clean}
use Rattle.mq_store.specs.Taking.{reply_in}
use Rattle.mq_store.specs.Together.{AreTaken}
use Rattle.mq_store.proofs.Rounds.{taken_more}
use Rattle.mq_store.proofs.together.take_each.Goals as goal

pub loop-request-preserved : goal.loop-request-preserved
loop-request-preserved g c =
    let i = c.loop-request.invariant in
    let f = c.in_ok-taken.ensures in
    let e = c.in_ok-is_written.ensures in
    let rs = c.args.requests.now in
    let at = c.loop-request.request-index in
    let r = c.request-item.result in
    let a = reply_in c.in_ok-taken.taken in
    let given = c.loop-request.replies.items in
    let old = state g.S.Store c.args.tx.now.conn.now in
    let mid = state g.S.Store c.loop-request.tx.conn.now in
    let now = state g.S.Store c.take.new.tx.conn.now in
    let place : take (at + 1) rs ≡ take at rs ++ r ∷ [] = take_more rs at r c.loop-request-test.true ∙ ap (λ (x : Request). take at rs ++ x ∷ []) (sym c.request-item.is) in
    record {
      leaves = leaves_both i.leaves c.take.ensures.leaves;
      inside = f.inside;
      in_range = subst (All IsReply) (sym e.added) (All-push IsReply given a i.in_range f.in_range);
      taken = λ clean.
          let before = i.taken (was_clean c.take.ensures.leaves clean) in
          rw (place, e.added) (taken_more c.args.zone c.args.default (take at rs) given r c.in_ok-taken.taken c.loop-request.is_written c.in_ok-is_written.field-0 old.now mid.now now.now before (f.taken clean) e.read);
    }
