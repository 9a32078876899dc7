-- The lines of hexadecimal that `replay` prints.
use Rattle.std.specs.Prelude.{ℕ, List, [], ◌∷◌, ◌++◌}
use Rattle.std.specs.List.{flat_map}
use Rattle.hex.specs.Hex.{encode_lower}

-- bytes in lower-case hexadecimal, and a line feed
abbrev pub hex_line : List ℕ → List ℕ
hex_line bytes = encode_lower bytes ++ 10 ∷ []

-- a line for each connection
abbrev pub hex_lines : List (List ℕ) → List ℕ
hex_lines connections = flat_map hex_line connections
