-- What the parameters of a report say.
use Rattle.std.specs.Prelude.{◌-◌, ℕ, List, [], ◌∷◌, length, take, codes, slice_get, if◌then◌else◌, Option, None, Some}
use Rattle.std.specs.Option.{option_map, option_or, option_and_then}
use Rattle.std.specs.Str.{bytes_eq}
use Rattle.mq_line.specs.Pieces.{fields, joined}
use Rattle.mq_line.specs.declared.parameters.AuthResult.{AuthResult}
use Rattle.mq_line.specs.declared.parameters.AuthResult.TheVariants.{Pass, Fail, Error}

-- the result that a word stands for
abbrev pub result_of : List ℕ → Option AuthResult
result_of word =
    if bytes_eq word (codes "pass") then Some Pass
    else (if bytes_eq word (codes "fail") then Some Fail
    else (if bytes_eq word (codes "error") then Some Error else None))

-- a result and a name, where the word stands for a result
abbrev pub named : List ℕ → List (List ℕ) → Option (AuthResult × List ℕ)
named word name = option_map (λ r. (r, joined name)) (result_of word)

-- the first field is the result, and the rest the name
abbrev pub auth_in_front : List (List ℕ) → Option (AuthResult × List ℕ)
auth_in_front [] = None
auth_in_front (first ∷ more) = named first more

-- the last field is the result, and what stands before it the name
abbrev pub auth_at_end : List (List ℕ) → Option (AuthResult × List ℕ)
auth_at_end fs = option_and_then (λ last. named last (take (length fs - 1) fs)) (slice_get fs (length fs - 1))

-- the result and the user name of a link-auth, in either order: where both ends are results the first counts
abbrev pub auth : List ℕ → Option (AuthResult × List ℕ)
auth params = option_or (auth_in_front (fields params)) (auth_at_end (fields params))

-- the first of some fields, where it isn't empty
abbrev pub first_of : List (List ℕ) → Option (List ℕ)
first_of [] = None
first_of ([] ∷ more) = None
first_of ((b ∷ bytes) ∷ more) = Some (b ∷ bytes)

-- the message id that parameters begin with
abbrev pub message : List ℕ → Option (List ℕ)
message params = first_of (fields params)
