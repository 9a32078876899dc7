-- The lines of a text that comes in pieces.
use Rattle.std.specs.Prelude.{◌≡◌, ◌<◌, ◌≤◌, ℕ, List, [], ◌∷◌, ◌++◌, length, nat_lt, if◌then◌else◌}
use Rattle.std.specs.Prelude.{Option, None, Some, Result, Ok, Err}
use Rattle.std.specs.List.{AllByRecursion, join_with_byte}
use Rattle.std.specs.Borrow.{Bor}
use Rattle.mq_line.specs.Pieces.{pieces, Lacks}
use Rattle.mq_line.specs.declared.fault.FeedFault.{FeedFault}

-- the most bytes of a line, its LF not counted
abbrev pub max_line : ℕ
max_line = 65536

-- a line without its LF (10), or what has come of one
pub record IsLine (bytes : List ℕ) : Type 0 where
  pub one : Lacks 10 bytes
  pub short : length bytes ≤ max_line

-- more bytes than a line has stand in front of the first LF
pub record IsTooLong (bytes : List ℕ) : Type 0 where
  pub front : List ℕ
  pub rest : List ℕ
  pub whole : bytes ≡ front ++ rest
  pub one : Lacks 10 front
  pub long : max_line < length front

-- lines, with an LF after each
abbrev pub text_of : List (List ℕ) → List ℕ
text_of [] = []
text_of (line ∷ ls) = line ++ 10 ∷ text_of ls

-- the pieces that stand before an LF, up to one that is too long
abbrev pub lines_among : List (List ℕ) → List (List ℕ)
lines_among [] = []
lines_among (last ∷ []) = []
lines_among (piece ∷ next ∷ more) = if nat_lt max_line (length piece) then [] else piece ∷ lines_among (next ∷ more)

-- what follows those
abbrev pub left_among : List (List ℕ) → List ℕ
left_among [] = []
left_among (last ∷ []) = last
left_among (piece ∷ next ∷ more) =
    if nat_lt max_line (length piece) then join_with_byte 10 (piece ∷ next ∷ more) else left_among (next ∷ more)

-- the lines of a text: its pieces that stand before an LF, up to one that is too long
abbrev pub lines : List ℕ → List (List ℕ)
lines text = lines_among (pieces 10 text)

-- what follows the lines of a text: what stands after its last LF, or all from a piece that is too long on
abbrev pub left : List ℕ → List ℕ
left text = left_among (pieces 10 text)

-- of a text these lines were taken, and the rest wasn't
pub record Holds (text : List ℕ) (taken : List (List ℕ)) (rest : List ℕ) : Type 0 where
  pub whole : text ≡ text_of taken ++ rest
  pub each : AllByRecursion IsLine taken

-- whatever text was fed, all its lines were taken: the rest is what follows them
abbrev pub HasNoLine : List ℕ → Type 0
HasNoLine rest = (text : List ℕ) (taken : List (List ℕ)) →
    Holds text taken rest → (lines text ≡ taken) × (left text ≡ rest)

-- the line that a feed gives, or none
abbrev pub given : Result (Option (Bor (List ℕ))) FeedFault → List (List ℕ)
given (Ok (Some line)) = line.now ∷ []
given (Ok None) = []
given (Err e) = []

-- giving it takes the line and its LF from the rest, and else nothing
pub record Leaves (old : List ℕ) (answer : Result (Option (Bor (List ℕ))) FeedFault) (rest : List ℕ) : Type 0 where
  pub bytes : old ≡ text_of (given answer) ++ rest
  pub holds : (text : List ℕ) (taken : List (List ℕ)) → Holds text taken old → Holds text (taken ++ given answer) rest

-- the lines that come where pieces are fed after a rest, and all lines are taken after each piece
abbrev pub lines_by_piece : List ℕ → List (List ℕ) → List (List ℕ)
lines_by_piece rest [] = []
lines_by_piece rest (piece ∷ more) = lines (rest ++ piece) ++ lines_by_piece (left (rest ++ piece)) more

-- and the rest that is left then
abbrev pub left_by_piece : List ℕ → List (List ℕ) → List ℕ
left_by_piece rest [] = rest
left_by_piece rest (piece ∷ more) = left_by_piece (left (rest ++ piece)) more
