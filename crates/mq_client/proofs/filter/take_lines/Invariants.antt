use Rattle.std.proofs.Common.{◌≡◌, ◌+◌, ◌≤◌, length, false}
use Rattle.mq_client.proofs.Words.{CarriesHeld, IsFlushed, SinkWorks, around}
use Rattle.mq_client.proofs.filter.take_lines.Given as goal

abbrev pub invariant-lines : goal.invariant-lines
invariant-lines g l = record {
  carries : CarriesHeld l.initial.feed.rest l.feed.rest l.initial.filter l.filter (around (g.W.Sink.contents l.initial.output) (g.K.Link.told l.initial.link) l.initial.client) (around (g.W.Sink.contents l.output) (g.K.Link.told l.link) l.client);
  written : SinkWorks l.initial.filter (g.W.Sink.has_failed l.initial.output) → SinkWorks l.filter (g.W.Sink.has_failed l.output);
  works : g.W.Sink.has_failed l.initial.output ≡ false → g.W.Sink.has_failed l.output ≡ false;
  flushed : IsFlushed (g.W.Sink.has_flushed l.initial.output) → IsFlushed (g.W.Sink.has_flushed l.output);
  count : l.filter.answers + length l.feed.rest ≤ l.initial.filter.answers + length l.initial.feed.rest;
}

abbrev pub decreases-lines : goal.decreases-lines
decreases-lines g l = length l.feed.rest
