-- What a network knows of the stream of a connection.
use Rattle.std.specs.Prelude.{◌≡◌, ◌≢◌, ℕ, List, [], drop, Option, None, Some, Result, MatchResult, ⊤}
use Rattle.mq_server.specs.Held.{State}

-- the bytes that reads will give from here on, those that were written, and what the peer left of the last write, each
-- where it is known
pub record Wire : Type 0 where
  pub remaining : Option (List ℕ)
  pub contents : Option (List ℕ)
  pub left : Option (List ℕ)

-- wires of which nothing is known
abbrev pub unknown : ℕ → Wire
unknown n = record { remaining = None; contents = None; left = None }

-- this value, where it is known which it is
abbrev pub IsKnownAs : {A : Type 0} → Option A → A → Type 0
IsKnownAs None a = ⊤
IsKnownAs (Some known) a = known ≡ a

-- what a write leaves of the bytes that it was given: those that it didn't take, and all of them at an error
abbrev pub Leaves : {E : Type 0} → Option (List ℕ) → Result ℕ E → List ℕ → Type 0
Leaves left r bytes = MatchResult r (λ n. IsKnownAs left (drop n bytes)) (λ _. IsKnownAs left bytes)

-- the replies that a connection holds, if any, are what its peer left of the last write
abbrev pub AreOffered : State → Wire → Type 0
AreOffered c wire = c.replies ≢ [] → IsKnownAs wire.left c.replies
