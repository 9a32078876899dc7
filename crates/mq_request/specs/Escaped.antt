-- How bytes that others chose are printed.
use Rattle.std.specs.Prelude.{ℕ, ◌+◌, ◌/◌, ◌%◌, ◌&&◌, ◌==◌, not, nat_le, nat_lt, Bool, List, [], ◌∷◌, if◌then◌else◌}
use Rattle.std.specs.List.{flat_map}

-- a hexadecimal digit in lower case
abbrev pub digit_text : ℕ → ℕ
digit_text value = if nat_lt value 10 then 48 + value else 87 + value

-- whether a byte is printed as it is: visible ASCII but the backslash
abbrev pub is_plain : ℕ → Bool
is_plain byte = nat_le 0x21 byte && nat_le byte 0x7e && not (byte == 92)

-- any other byte is printed as `\x` and two hexadecimal digits
abbrev pub byte_text : ℕ → List ℕ
byte_text byte = if is_plain byte then byte ∷ [] else 92 ∷ 120 ∷ digit_text (byte / 16) ∷ digit_text (byte % 16) ∷ []

-- a text with each of its bytes printed so
abbrev pub escaped : List ℕ → List ℕ
escaped bytes = flat_map byte_text bytes
