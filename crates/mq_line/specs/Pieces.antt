-- A text cut at a byte.
use Rattle.std.specs.Prelude.{◌≢◌, ◌==◌, ℕ, List, [], Option, None, Some}
use Rattle.std.specs.Borrow.{Bor}
use Rattle.std.specs.List.{All, slice_split, join_with_byte}

-- the pieces between the bytes c: one more than there are such bytes
abbrev pub pieces : ℕ → List ℕ → List (List ℕ)
pieces c bytes = slice_split (λ b. b == c) bytes

-- what parts the fields of a line
abbrev pub bar : ℕ
bar = 124

-- the fields of a line: its pieces between bars
abbrev pub fields : List ℕ → List (List ℕ)
fields line = pieces bar line

-- some fields with a bar between each two
abbrev pub joined : List (List ℕ) → List ℕ
joined fs = join_with_byte bar fs

-- the byte c isn't among them
abbrev pub Lacks : ℕ → List ℕ → Type 0
Lacks c bytes = All (λ b. b ≢ c) bytes

-- the fields of what is left of a line, where anything is left
abbrev pub fields_left : Option (Bor (List ℕ)) → List (List ℕ)
fields_left None = []
fields_left (Some rest) = fields rest.now
