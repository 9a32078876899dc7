-- How a command asks several servers.
use Rattle.std.specs.Prelude.{◌≡◌, ℕ, List, [], ◌∷◌, Bool, true, max}
use Rattle.std.specs.Net.Grammar.{IsSocketText}
use Rattle.std.specs.declared.net.SocketAddr.{SocketAddr}

-- The servers at these addresses were asked in turn, each once, in this order, whatever the ones before said. The status is
-- the greatest of the one so far, of what they said and, unless one is asked alone, of one more for each: what came of printing
-- which one it is.
pub data AsksEach {F : Type 0} (Asks : F → SocketAddr → ℕ → F → Type 0) (is_alone : Bool) (last : F) (status : ℕ)
    : F → List (List ℕ) → ℕ → Type 0 where
  no_server : AsksEach Asks is_alone last status last [] status
  server : (before after : F) (text : List ℕ) (texts : List (List ℕ)) (address : SocketAddr) (so_far told said : ℕ)
      → IsSocketText text address → (is_alone ≡ true → told ≡ 0) → Asks before address said after
      → AsksEach Asks is_alone last status after texts (max so_far (max told said))
      → AsksEach Asks is_alone last status before (text ∷ texts) so_far
