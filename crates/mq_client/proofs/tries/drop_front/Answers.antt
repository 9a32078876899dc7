use Rattle.std.proofs.Common.{◌≡◌, ◌<◌, List, [], ◌∷◌, drop, length, sym, ap, arith}
use Rattle.mq_client.proofs.Words.{FramedRequest}
use Rattle.mq_client.proofs.tries.drop_front.Goals as goal

-- what is left without the first was after it
behind_first : (old new : List FramedRequest) → 0 < length old → new ≡ drop 1 old → (x : FramedRequest) × (old ≡ x ∷ new)
behind_first [] new some left = absurd (omega (arith, some))
behind_first (x ∷ xs) new some left = (x, ap (λ rest. x ∷ rest) (sym left))

pub returns : goal.returns
returns c = behind_first c.args.outbox.now.items c.pop_front.new.self.items c.requires c.pop_front.ensures.rest
