use Rattle.mq_ledger.proofs.Words.{sym, take_more}
use Rattle.mq_ledger.proofs.LimitFacts.{newest_other, newest_newer, newest_older}
use Rattle.mq_ledger.proofs.plain.cap.cap.Goals.{then-governs+then-latest-from_of, else-governs, else-governs-via-then-governs+else-latest-from_of, else-governs-via-else-governs}
use Rattle.mq_ledger.proofs.plain.cap.cap.Goals as goal

pub loop-entry-preserved : goal.loop-entry-preserved
loop-entry-preserved c =
    rw (take_more c.args.entries.now c.loop-entry.entry-index c.entry-item.result c.loop-entry-test.true, ← c.entry-item.is)
    (elim c.if-governs.branch [
      | then-governs+then-latest-from_of w ↦
          rw (w.cap-is, w.latest-is, w.cap_of-cap.ensures, w.from_of-latest.ensures)
          (newest_newer _ _ _ _ _ _ _ c.loop-entry.invariant (sym w.if-governs.ensures) (rw w.from_of.ensures at w.if-latest-from_of.true))
      | else-governs w ↦
          rw (w.cap-is, w.latest-is)
          (elim w.else-governs.branch [
            | else-governs-via-then-governs+else-latest-from_of w' ↦ newest_older _ _ _ _ _ _ _ c.loop-entry.invariant (sym w'.if-governs.ensures) (rw w'.from_of.ensures at w'.if-latest-from_of.false)
            | else-governs-via-else-governs w' ↦ newest_other _ _ _ _ _ _ _ c.loop-entry.invariant (sym w'.if-governs.ensures)
          ])
    ])
