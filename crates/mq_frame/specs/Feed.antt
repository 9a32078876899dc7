-- A stream of frames, in whatever pieces it comes.
use Rattle.std.specs.Prelude.{◌≡◌, ℕ, ◌+◌, ◌*◌, List, [], ◌∷◌, ◌++◌, length, take, drop, nat_lt, ◌==◌, if◌then◌else◌}
use Rattle.std.specs.Prelude.{Option, Some, None, Result, Ok, Err}
use Rattle.mq_frame.specs.declared.feed.FrameFault.{FrameFault}
use Rattle.mq_frame.specs.declared.feed.FrameFault.TheVariants.{TooLong, Empty, CutFrame}

-- a feed: the longest body that it gives, the bytes that it was fed and that weren't taken, how many bytes its buffer
-- holds, and for how many it has room
pub record Feed : Type 0 where
  pub limit : ℕ
  pub rest : List ℕ
  pub held : ℕ
  pub room : ℕ

-- what stands at the front of some bytes: nothing; a part of a frame; the head of a frame with an empty body, or with a
-- body above the limit; or a whole frame, with its body and the bytes after it
pub data Front : Type 0 where
  Nothing : Front
  Cut : Front
  EmptyHead : Front
  LongHead : Front
  Whole : (body after : List ℕ) → Front

-- a head that says n, and the bytes after it
abbrev pub front_behind : ℕ → ℕ → List ℕ → Front
front_behind limit n bytes =
    if n == 0 then EmptyHead
    else (if nat_lt limit n then LongHead
    else (if nat_lt (length bytes) n then Cut else Whole (take n bytes) (drop n bytes)))

-- what stands at the front, by the length that the first two bytes say
abbrev pub front : ℕ → List ℕ → Front
front limit [] = Nothing
front limit (a ∷ []) = Cut
front limit (a ∷ b ∷ bytes) = front_behind limit (256 * a + b) bytes

-- what a call for the next body answers
abbrev pub next_answer : Front → Result (Option (List ℕ)) FrameFault
next_answer Nothing = Ok None
next_answer Cut = Ok None
next_answer EmptyHead = Err Empty
next_answer LongHead = Err TooLong
next_answer (Whole body after) = Ok (Some body)

-- the bytes that it leaves: a whole frame is taken
abbrev pub left_by_next : Front → List ℕ → List ℕ
left_by_next Nothing bytes = bytes
left_by_next Cut bytes = bytes
left_by_next EmptyHead bytes = bytes
left_by_next LongHead bytes = bytes
left_by_next (Whole body after) bytes = after

-- a call for the next body takes a whole frame from the front, and nothing else changes
pub record Takes (old new : Feed) : Type 0 where
  pub limit : new.limit ≡ old.limit
  pub rest : new.rest ≡ left_by_next (front old.limit old.rest) old.rest
  pub held : new.held ≡ old.held
  pub room : new.room ≡ old.room

-- what is said at the end of the stream
abbrev pub finish_answer : Front → Result (Unit {0}) FrameFault
finish_answer Nothing = Ok tt
finish_answer Cut = Err CutFrame
finish_answer EmptyHead = Err Empty
finish_answer LongHead = Err TooLong
finish_answer (Whole body after) = Err CutFrame

-- the bytes begin with the frames of these bodies, and the rest follows
abbrev pub BeginsWith : ℕ → List ℕ → List (List ℕ) → List ℕ → Type 0
BeginsWith limit bytes [] rest = bytes ≡ rest
BeginsWith limit bytes (body ∷ bodies) rest =
    (after : List ℕ) × (front limit bytes ≡ Whole body after) × BeginsWith limit after bodies rest

-- no whole frame stands at the front
abbrev pub HasNoFrame : ℕ → List ℕ → Type 0
HasNoFrame limit bytes = (body after : List ℕ) → front limit bytes ≡ Whole body after → ⊥

-- the longest list of frames that the bytes begin with, and what follows them
pub record Frames (limit : ℕ) (bytes : List ℕ) (bodies : List (List ℕ)) (rest : List ℕ) : Type 0 where
  pub these : BeginsWith limit bytes bodies rest
  pub longest : HasNoFrame limit rest

-- a call of a feed: it was fed a piece, or gave a body
pub data Move : Type 0 where
  Fed : (piece : List ℕ) → Move
  Gave : (body : List ℕ) → Move

-- a feed that holds rest makes these moves, and then holds end
abbrev pub Moves : ℕ → List ℕ → List Move → List ℕ → Type 0
Moves limit rest [] end = rest ≡ end
Moves limit rest (Fed piece ∷ moves) end = Moves limit (rest ++ piece) moves end
Moves limit rest (Gave body ∷ moves) end =
    (after : List ℕ) × (front limit rest ≡ Whole body after) × Moves limit after moves end

-- all that was fed
abbrev pub fed : List Move → List ℕ
fed [] = []
fed (Fed piece ∷ moves) = piece ++ fed moves
fed (Gave body ∷ moves) = fed moves

-- all that was given
abbrev pub given : List Move → List (List ℕ)
given [] = []
given (Fed piece ∷ moves) = given moves
given (Gave body ∷ moves) = body ∷ given moves
