use Rattle.std.proofs.Common.{refl, ◌∙◌}
use Rattle.mq_ledger.proofs.Leaving.{left_alone, left_both}
use Rattle.mq_watch.proofs.watched.WatchedLedger.see_each.Goals as goal

pub loop-at-init : goal.loop-at-init
loop-at-init g c = record { leaves = left_alone; history = λ k s. refl }

pub loop-at-preserved : goal.loop-at-preserved
loop-at-preserved g c =
    let i = c.loop-at.invariant in
    let e = rw c.hear_at.ensures at c.see.ensures in
    record {
      leaves = left_both i.leaves e.leaves;
      history = λ k s. e.history k (i.leaves.sound (e.leaves.kept k) s) ∙ i.history (e.leaves.kept k) s;
    }
