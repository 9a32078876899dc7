use Rattle.std.proofs.Common.{◌++◌, take}
use Rattle.std.proofs.KnownBytes.{Appends-trans}
use Rattle.mq_stream.proofs.sink.write_and_flush.Goals as goal
use Rattle.mq_stream.proofs.Fronts.{moves_front}

pub loop-rest-preserved : goal.loop-rest-preserved
loop-rest-preserved g c =
    let i = c.loop-rest.invariant in
    record {
      done = i.done ++ take c.in_ok-count.count c.loop-rest.rest.now;
      split = moves_front _ i.done c.loop-rest.rest.now c.in_ok-count.count i.split;
      written = Appends-trans _ _ _ _ _ i.written c.in_ok-count.ensures.bytes;
      failed = λ f. let bad = c.in_ok-count.ensures.for_good (i.failed f) in absurd cc;
    }
