use Rattle.std.proofs.Common.{subst}
use Rattle.std.proofs.lemmas.Str.{IsUtf8-had}
use Rattle.mq_ledger.specs.Kept.{IsKept}
use Rattle.mq_ledger.proofs.zone.Zone.day_at.Goals as goal

pub text_of-requires : goal.text_of-requires
text_of-requires c = let kept = subst IsKept c.in-Rule.is c.self.invariant in IsUtf8-had _ kept.utf8
