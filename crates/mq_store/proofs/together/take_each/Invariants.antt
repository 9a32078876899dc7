use Rattle.std.proofs.Common.{IsTrue, take}
use Rattle.std.specs.Prelude.{All}
use Rattle.mq_store.proofs.Words.{CommitsNothing, HasCleanDisk, IsReply, state}
use Rattle.mq_store.specs.Together.{AreTaken}
use Rattle.mq_store.proofs.together.take_each.Given as goal

-- the requests before this place are taken
abbrev pub invariant-loop-request : goal.invariant-loop-request
invariant-loop-request g l =
    let old = state g.S.Store l.fn.tx.conn.now in
    let now = state g.S.Store l.tx.conn.now in
    record {
      leaves : CommitsNothing g.S.Store l.fn.tx l.tx;
      inside : HasCleanDisk now → IsTrue now.in_transaction;
      in_range : All IsReply l.replies.items;
      taken : HasCleanDisk now → AreTaken l.fn.zone l.fn.default (take l.request-index l.requests) l.replies.items l.is_written old.now now.now;
    }
