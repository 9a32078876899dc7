-- What a feed shows.
use Rattle.std.specs.Prelude.{ℕ, List}

-- the bytes that were fed and not taken, how many bytes the feed keeps, and for how many it has room
pub record Feed : Type 0 where
  pub rest : List ℕ
  pub held : ℕ
  pub room : ℕ
