-- The search for the LF after the line in front.
use Rattle.std.specs.Prelude.{◌≡◌, ◌+◌, ◌<◌, ◌≤◌, ℕ, List, ◌∷◌, ◌++◌, length, take, drop}
use Rattle.mq_line.specs.Pieces.{Lacks}
use Rattle.mq_line.specs.Text.{IsLine, IsTooLong, max_line}
use Rattle.mq_line.specs.declared.feed.Front.{Front}
use Rattle.mq_line.specs.declared.feed.Front.TheVariants.{Whole, Open, Endless}

-- so many bytes in front were searched, and none of them is an LF: no more than show that a line is too long
pub record IsSearched (rest : List ℕ) (searched : ℕ) : Type 0 where
  pub inside : searched ≤ length rest
  pub enough : searched ≤ max_line + 1
  pub none : Lacks 10 (take searched rest)

-- what stands in front of some bytes
abbrev pub IsFront : List ℕ → Front → Type 0
IsFront rest (Whole n) = IsLine (take n rest) × (rest ≡ take n rest ++ 10 ∷ drop (n + 1) rest) × (n < length rest)
IsFront rest Open = IsLine rest
IsFront rest Endless = IsTooLong rest × IsSearched rest (max_line + 1)
