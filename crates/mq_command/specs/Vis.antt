-- A login as smtpd reports it, which encodes it by vis(3) with white space, and bell, backspace and carriage return as they are.
use Rattle.std.specs.Prelude.{ℕ, ◌+◌, ◌/◌, ◌%◌, ◌&&◌, ◌||◌, ◌==◌, ◌++◌, not, nat_le, nat_lt, Bool, List, [], ◌∷◌}
use Rattle.std.specs.Prelude.{Option, None, Some, if◌then◌else◌, map, codes}
use Rattle.std.specs.List.{flat_map, list_all, list_any}
use Rattle.mq_request.specs.Escaped.{escaped}

-- visible ASCII, and bell, backspace and carriage return, are reported as they are, but for the backslash, which is doubled
abbrev pub is_reported : ℕ → Bool
is_reported byte = (nat_le 0x21 byte && nat_le byte 0x7e) || ((byte == 7) || ((byte == 8) || (byte == 13)))

-- what follows the backslash, and an `M` for a byte of 128 or more: `^` and a letter for a control character, `-` and any other
abbrev pub low_text : ℕ → List ℕ
low_text low =
    if low == 127 then codes "^?" else if nat_lt low 32 then 94 ∷ (low + 64) ∷ [] else 45 ∷ low ∷ []

-- a byte as it is reported: a space, with or without its top bit, by three octal digits
abbrev pub vis_byte : ℕ → List ℕ
vis_byte byte =
    if byte == 92 then 92 ∷ 92 ∷ []
    else if is_reported byte then byte ∷ []
    else if byte % 128 == 32 then 92 ∷ (48 + byte / 64) ∷ (48 + byte / 8 % 8) ∷ (48 + byte % 8) ∷ []
    else if nat_lt byte 128 then 92 ∷ low_text byte
    else 92 ∷ 77 ∷ low_text (byte % 128)

-- a login as it is reported
abbrev pub vis : List ℕ → List ℕ
vis login = flat_map vis_byte login

-- a capital letter of ASCII
abbrev pub is_capital : ℕ → Bool
is_capital byte = nat_le 65 byte && nat_le byte 90

-- a byte in lower case
abbrev pub lower : ℕ → ℕ
lower byte = if is_capital byte then byte + 32 else byte

-- what is noted of a login with bytes that smtpd encodes
abbrev pub vis_text : List ℕ → List ℕ
vis_text login = codes "smtpd reports this login, in the form of --login-text, as " ++ escaped (vis login)

-- what is noted of a login with capitals
abbrev pub capital_text : List ℕ → List ℕ
capital_text login = codes "filter-one-spelling refuses capitals, and lets only " ++ escaped (map lower login) ++ codes " send"

-- what is noted of a login, if anything is
abbrev pub note_of : List ℕ → Option (List ℕ)
note_of login =
    if not (list_all is_reported login) then Some (vis_text login)
    else if list_any is_capital login then Some (capital_text login)
    else None
