use Rattle.std.proofs.Common.{rules}
use Rattle.mq_program.proofs.ListingSteps.{sorted_by_pair}
use Rattle.mq_program.proofs.listing.put_in_order.Goals as goal

pub returns-clause-sorted : goal.returns-clause-sorted
returns-clause-sorted c = sorted_by_pair _ c.sort_unstable_by.ensures.sorted (λ a r q k. search rules)
