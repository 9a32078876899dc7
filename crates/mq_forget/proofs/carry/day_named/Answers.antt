use Rattle.mq_forget.proofs.Words.{IsMoment, ap, subst, sym, transaction, ◌∙◌}
use Rattle.std.specs.Option.{option_copied}
use Rattle.mq_forget.proofs.Carrying.{named_in_range}
use Rattle.mq_forget.proofs.carry.day_named.Goals as goal

pub day_at-requires-in-Some : goal.day_at-requires-in-Some
day_at-requires-in-Some c =
    subst IsMoment (sym c.moment_of.ensures)
    (named_in_range c.args.history.now (transaction c.args.id.now c.args.txn) c.in-Some.entry.now c.requires.range (sym c.named.ensures ∙ ap option_copied c.in-Some.is))
