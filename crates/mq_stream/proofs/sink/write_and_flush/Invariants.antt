use Rattle.std.proofs.Common.{◌≡◌, List, ℕ, ◌++◌, length, true}
use Rattle.std.specs.Io.KnownBytes.{Appends}
use Rattle.mq_stream.proofs.sink.write_and_flush.Given as goal

abbrev pub invariant-loop-rest : goal.invariant-loop-rest
invariant-loop-rest g l = record {
  done : List ℕ;
  split : l.bytes ≡ done ++ l.rest;
  written : Appends (g.S.Sink.contents l.initial.sink) (g.S.Sink.contents l.sink) done;
  failed : g.S.Sink.has_failed l.initial.sink ≡ true → g.S.Sink.has_failed l.sink ≡ true;
}

abbrev pub decreases-loop-rest : goal.decreases-loop-rest
decreases-loop-rest g l = length l.rest
