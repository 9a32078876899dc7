use Rattle.std.proofs.Common.{arith, subst, sym}
use Rattle.mq_store.proofs.Words.{leaves_both, state, was_clean}
use Rattle.mq_store.specs.Taking.{HasBook, book_of}
use Rattle.mq_store.proofs.Chain.{stays_both}
use Rattle.mq_store.proofs.slice.steps.Goals as goal

pub loop-step-preserved : goal.loop-step-preserved
loop-step-preserved g c =
    let i = c.loop-step.invariant in
    let f = c.in_ok-reached.ensures in
    let s0 = state g.S.Store c.args.from.now.conn.now in
    let s1 = state g.S.Store c.loop-step.from.conn.now in
    let s2 = state g.S.Store c.step.new.from.conn.now in
    record {
      from_leaves = leaves_both i.from_leaves c.step.ensures.from_leaves;
      into_leaves = leaves_both i.into_leaves c.step.ensures.into_leaves;
      scratch_leaves = leaves_both i.scratch_leaves c.step.ensures.scratch_leaves;
      stays = λ clean.
          let mid = was_clean c.step.ensures.from_leaves clean in
          stays_both s0 s1 s2 (i.stays mid) (f.stays clean);
      into_inside = f.into_inside;
      inside = f.inside;
      more = omega (arith, i.more, f.more);
      most = (omega (arith, i.most.0, f.most.0), omega (arith, i.most.1, f.most.1));
      renews = λ clean clean_into H has carried.
          let mid = was_clean c.step.ensures.from_leaves clean in
          let mid_into = was_clean c.step.ensures.into_leaves clean_into in
          f.renews clean clean_into H (subst (HasBook (book_of c.args.terms.now.zone c.args.terms.now.default H)) (sym (i.stays mid).now) has) (i.renews mid mid_into H has carried);
    }
