-- How long a server waits.
use Rattle.std.specs.Prelude.{ℕ, Option, Some, None, min}
use Rattle.std.specs.Duration.{as_nanos}
use Rattle.mq_chore.specs.declared.chore.Piece.{Piece}
use Rattle.mq_chore.specs.declared.chore.Piece.TheVariants.{More, Later, Nothing, Done}

-- how long a chore has nothing to do after a piece, in nanoseconds, where that has an end
abbrev pub idle_time : Piece → Option ℕ
idle_time More = Some 0
idle_time (Later time) = Some (as_nanos time)
idle_time Nothing = None
idle_time Done = Some 0

-- the shorter of two times, where there are such
abbrev pub shorter : Option ℕ → Option ℕ → Option ℕ
shorter None b = b
shorter (Some a) None = Some a
shorter (Some a) (Some b) = Some (min a b)
