-- The connections that a text of hexadecimal lines spells.
use Rattle.std.specs.Prelude.{ℕ, ◌+◌, ◌==◌, nat_lt, Bool, not, List, [], filter, map, position, length, Option}
use Rattle.std.specs.Prelude.{option_map, is_err}
use Rattle.std.specs.List.{slice_split, flat_map}
use Rattle.std.specs.Result.{result_unwrap_or}
use Rattle.hex.specs.Hex.{decode_of}

-- the lines of a text: what stands before, between and after its line feeds
abbrev pub lines_of : List ℕ → List (List ℕ)
lines_of text = slice_split (λ b. b == 10) text

-- a line without its spaces
abbrev pub digits_of : List ℕ → List ℕ
digits_of line = filter (λ b. not (b == 32)) line

-- whether nothing but spaces stands in a line
abbrev pub is_empty_line : List ℕ → Bool
is_empty_line line = length (digits_of line) == 0

-- whether a line is no whole bytes in hexadecimal
abbrev pub is_not_hex : List ℕ → Bool
is_not_hex line = is_err (decode_of (digits_of line))

-- the bytes that a line spells
abbrev pub bytes_of : List ℕ → List ℕ
bytes_of line = result_unwrap_or (decode_of (digits_of line)) []

-- the number of the first line that is no hexadecimal, counted from 1
abbrev pub first_not_hex : List ℕ → Option ℕ
first_not_hex text = option_map (λ k. k + 1) (position is_not_hex (lines_of text))

-- the bytes of each connection: those of the lines between two empty lines, where there are any
abbrev pub connections_of : List ℕ → List (List ℕ)
connections_of text =
    filter (λ bytes. nat_lt 0 (length bytes)) (map (flat_map bytes_of) (slice_split is_empty_line (lines_of text)))
