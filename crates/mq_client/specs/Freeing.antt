-- What the filter hears of a request and of a closing.
use Rattle.std.specs.Prelude.{ℕ, List, not, filter}
use Rattle.mq_request.specs.declared.message.Request.{Request}
use Rattle.mq_client.specs.Holding.{Holding, frees}
use Rattle.mq_client.specs.declared.holdup.FullAnswer.{FullAnswer}

-- a login and the moment of its transaction
abbrev pub shown_full : FullAnswer → List ℕ × ℕ
shown_full f = (f.login.now, f.moment)

-- what is held back still, where a request gave back so many recipients
abbrev pub heard : Request → (given : ℕ) → Holding → Holding
heard request given h = record { paused = h.paused; full = filter (λ f. not (frees f.login request given)) h.full }
