-- Which requests are left to be looked at.
use Rattle.std.proofs.Common.{◌≡◌, ℕ, ◌<◌, zero, suc, List, [], ◌∷◌, length, drop, false, refl, arith}
use Rattle.mq_request.specs.declared.message.Request.{Request}
use Rattle.mq_permits.specs.declared.permits.Permits.{Permits}
use Rattle.mq_watch.specs.Allowed.{are_allowed}

-- where one is left without a peer, not all are allowed
pub none_left : (permits : Permits) (requests : List Request) (at : ℕ) → at < length requests → are_allowed permits [] (drop at requests) ≡ false
none_left permits [] at less = absurd (omega (arith, less))
none_left permits (r ∷ rs) zero less = refl
none_left permits (r ∷ rs) (suc at) less = none_left permits rs at (omega (arith, less))
