use Rattle.std.proofs.Common.{◌∙◌, rules}
use Rattle.mq_remote.proofs.AskedSteps.{spans_are}
use Rattle.mq_remote.proofs.subcommands.filter.client_of.Goals as goal

pub returns : goal.returns
returns c = record {
  past = c.with_spans.ensures.past _ c.in_ok-client.ensures.past;
  source = c.with_spans.ensures.source ∙ c.in_ok-client.ensures.source;
  tries = c.with_spans.ensures.tries ∙ c.in_ok-client.ensures.tries;
  spans = c.with_spans.ensures.spans ∙ spans_are c.from.result c.from-2.result c.args.settings.now.pause c.args.settings.now.hold (search rules) (search rules);
}
