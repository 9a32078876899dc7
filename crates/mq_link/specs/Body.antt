-- What was read of one frame.
use Rattle.std.specs.Prelude.{◌≤◌, ℕ, List, length, Option}
use Rattle.std.specs.Io.KnownBytes.{Consumes}
use Rattle.mq_frame.specs.Spelling.{frame, in_2_bytes}

-- the frame of a body of 1 to 65,535 bytes was read
pub record IsReceived (old new : Option (List ℕ)) (body : List ℕ) : Type 0 where
  pub some : 1 ≤ length body
  pub fits : length body ≤ 65535
  pub read : Consumes old new (frame body)

-- a length of 0 was read, and nothing after it
abbrev pub IsEmptyHead : Option (List ℕ) → Option (List ℕ) → Type 0
IsEmptyHead old new = Consumes old new (in_2_bytes 0)

-- a length above 0 was read, and nothing after it
pub record IsHeadOnly (old new : Option (List ℕ)) : Type 0 where
  pub announced : ℕ
  pub some : 1 ≤ announced
  pub read : Consumes old new (in_2_bytes announced)
