use Rattle.std.proofs.Common.{[], refl}
use Rattle.mq_line.proofs.FeedLaws.{nothing_has_no_line}
use Rattle.mq_line.proofs.feed.LineFeed.new.Goals as goal

pub returns-clause-none_left : goal.returns-clause-none_left
returns-clause-none_left c = rw c.new.ensures.items (nothing_has_no_line [] [] refl refl)
