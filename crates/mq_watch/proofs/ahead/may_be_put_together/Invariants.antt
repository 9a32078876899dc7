use Rattle.std.proofs.Common.{take}
use Rattle.std.specs.Prelude.{All}
use Rattle.mq_ledger.specs.Day.{day_of}
use Rattle.mq_watch.specs.Ahead.{MayBePutWithOthers}
use Rattle.mq_watch.proofs.ahead.may_be_put_together.Given as goal

-- those before this place may be put with others
abbrev pub invariant-loop-request : goal.invariant-loop-request
invariant-loop-request l = record {
  all : All (MayBePutWithOthers (day_of l.zone) l.now) (take l.request-index l.requests);
}
