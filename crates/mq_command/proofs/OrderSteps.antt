-- The numbers that a limit is sent under.
use Rattle.mq_command.proofs.Words.{IsLimit, LAST_RUN, Request, ahead, ap, arith, later, refl, suc, ℕ, ◌*◌, ◌+◌, ◌∙◌, ◌≡◌, ◌≤◌}
use Rattle.mq_request.specs.declared.message.Request.TheVariants as asks

pub later_none : (request : Request) → later 0 request ≡ request
later_none (asks.Limit id from_day cap login) =
    let none : id.run + 0 ≡ id.run = omega arith in
    ap (λ run. asks.Limit (record { host = id.host; run = run; number = id.number }) from_day cap login) none
later_none request = refl

pub later_more : (runs : ℕ) (request : Request) → later (runs + 1) (later runs request) ≡ later (runs * 2 + 1) request
later_more runs (asks.Limit id from_day cap login) =
    let more : (id.run + runs) + (runs + 1) ≡ id.run + (runs * 2 + 1) = omega arith in
    ap (λ run. asks.Limit (record { host = id.host; run = run; number = id.number }) from_day cap login) more
later_more runs request = refl

pub ahead_more : (taken runs : ℕ) → runs ≡ ahead taken → runs * 2 + 1 ≡ ahead (taken + 1)
ahead_more taken runs is =
    let next : suc taken ≡ taken + 1 = omega arith in
    ap (λ r. r * 2 + 1) is ∙ ap ahead next

-- a limit in range is not so far ahead
pub ahead_small : (runs : ℕ) (request : Request) → IsLimit (later runs request) → runs ≤ LAST_RUN
ahead_small runs (asks.Limit id from_day cap login) is = omega (arith, is.0.run.to)
ahead_small runs request is = absurd is
