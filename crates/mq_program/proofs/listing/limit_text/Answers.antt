use Rattle.std.proofs.Common.{append_assoc, rules}
use Rattle.mq_program.proofs.listing.limit_text.Goals as goal

pub returns : goal.returns
returns c = search (rules, append_assoc, c.format.ensures)
