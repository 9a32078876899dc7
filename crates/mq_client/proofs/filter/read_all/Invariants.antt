use Rattle.std.proofs.Common.{◌≡◌, ◌+◌, ◌*◌, ◌≤◌, ℕ, List, length, false}
use Rattle.mq_client.proofs.Words.{IsFlushed, IsLine, SinkWorks, SoFar, Supplies, around, concat, supply}
use Rattle.mq_client.proofs.filter.read_all.Given as goal

-- the lines of the bytes that were read were handled, but for a cut one that is held
abbrev pub invariant-loop-read : goal.invariant-loop-read
invariant-loop-read g l = record {
  pieces : List (List ℕ);
  supplied : Supplies (supply (g.S.Source.remaining l.initial.input) (g.S.Source.reads l.initial.input)) (supply (g.S.Source.remaining l.input) (g.S.Source.reads l.input)) pieces;
  so_far : SoFar (around (g.W.Sink.contents l.initial.output) (g.K.Link.told l.initial.link) l.initial.client) (concat pieces) l.feed.rest l.filter
      (around (g.W.Sink.contents l.output) (g.K.Link.told l.link) l.client);
  held : IsLine l.feed.rest;
  written : SinkWorks l.filter (g.W.Sink.has_failed l.output);
  sink_works : g.W.Sink.has_failed l.initial.output ≡ false → g.W.Sink.has_failed l.output ≡ false;
  flushed : IsFlushed (g.W.Sink.has_flushed l.initial.output) → IsFlushed (g.W.Sink.has_flushed l.output);
  source_works : g.S.Source.has_failed l.initial.input ≡ false → g.S.Source.has_failed l.input ≡ false;
  reads : length pieces ≡ l._read;
  count : l.filter.answers + length l.feed.rest ≤ 4096 * l._read;
}
