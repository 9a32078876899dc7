-- Readers and writers: what their calls gave, whether one has failed, and whether what they took was handed on.
use Rattle.std.specs.Prelude.{◌≡◌, ℕ, List, [], ◌++◌, take, Bool, true, ⊤, Option, None, Some, Result, Ok, Err}
use Rattle.std.specs.Io.KnownBytes.{Appends}

-- a reader or writer, and whether a call of it has failed
pub record Device (D : Type 0) : Type 0 where
  pub inner : D
  pub has_failed : Bool

-- all that a sink took was handed on, where it reports that
abbrev pub IsFlushed : Option Bool → Type 0
IsFlushed None = ⊤
IsFlushed (Some flushed) = flushed ≡ true

-- known bytes grow by a prefix of these
abbrev pub AppendsFront : Option (List ℕ) → Option (List ℕ) → List ℕ → Type 0
AppendsFront old new bytes = (front : List ℕ) × (rest : List ℕ) × (bytes ≡ front ++ rest) × Appends old new front

-- what a read gave: a prefix of the piece, and nothing where it failed
abbrev pub read_bytes : {E : Type 0} → Result ℕ E → List ℕ → List ℕ
read_bytes (Ok count) piece = take count piece
read_bytes (Err fault) piece = []
