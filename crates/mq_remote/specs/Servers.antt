-- The servers that a command asks.
use Rattle.std.specs.Prelude.{◌≡◌, ℕ, List, [], ◌∷◌, Bool, true, max}
use Rattle.std.specs.Net.Grammar.{IsSocketText}
use Rattle.std.specs.declared.net.SocketAddr.{SocketAddr}

-- The servers at these addresses were asked so in turn, each once, in this order, whatever the ones before said. The status is
-- the greatest of the one so far, of what they said and, unless one is asked alone, of what came of printing which one it is.
pub data AsksAll (Asks : SocketAddr → ℕ → Type 0) (is_alone : Bool) (status : ℕ) : List (List ℕ) → ℕ → Type 0 where
  none_left : AsksAll Asks is_alone status [] status
  asks_one : (text : List ℕ) (texts : List (List ℕ)) (address : SocketAddr) (so_far told said : ℕ)
      → IsSocketText text address → (is_alone ≡ true → told ≡ 0) → Asks address said
      → AsksAll Asks is_alone status texts (max so_far (max told said))
      → AsksAll Asks is_alone status (text ∷ texts) so_far
