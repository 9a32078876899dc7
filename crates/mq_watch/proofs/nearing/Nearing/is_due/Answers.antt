use Rattle.std.proofs.Common.{rules}
use Rattle.mq_watch.proofs.nearing.Nearing.is_due.Goals as goal

pub returns-then-near-usage-clause-due : goal.returns-then-near-usage-clause-due
returns-then-near-usage-clause-due c = λ kept. (
  (c.near_at-near.ensures.near c.args.usage.used).0 c.if-near-usage.true,
  c.is_open.ensures.0 (search rules),
  c.keep.ensures.kept kept,
)
