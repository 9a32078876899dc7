-- What `limits` and `audit` print as JSON, whose keys stay.
use Rattle.std.specs.Prelude.{◌≡◌, ◌++◌, ℕ, ℤ, pos, List, Option, None, Some, codes}
use Rattle.std.specs.Fmt.{decimal, signed_decimal}
use Rattle.mq_request.specs.Range.{IsDay}
use Rattle.mq_dates.specs.Dates.{IsDateText}
use Rattle.mq_command.specs.Forms.{json_login, json_string}

-- the date of a day, or none where it is none of a ledger's days
abbrev pub IsDateAt : ℤ → Option (List ℕ) → Type 0
IsDateAt number (Some date) = (day : ℕ) × (number ≡ pos day) × IsDay day × IsDateText day date
IsDateAt number None = (day : ℕ) → number ≡ pos day → ¬ IsDay day

-- a date, or null where there is none
abbrev pub json_date : Option (List ℕ) → List ℕ
json_date (Some date) = json_string date
json_date None = codes "null"

-- the limit of a login from a day on that has this date
unfoldable pub json_limit : List ℕ → ℤ → Option (List ℕ) → ℤ → List ℕ
json_limit login day date cap =
    (codes "{\"login\":" ++ json_login login) ++ (codes ",\"from_day\":" ++ signed_decimal day)
    ++ (codes ",\"from_date\":" ++ json_date date) ++ (codes ",\"limit\":" ++ signed_decimal cap) ++ codes "}"

-- the text is the object of this limit
abbrev pub IsLimitObject : List ℕ → ℤ → ℤ → List ℕ → Type 0
IsLimitObject login day cap text = (date : Option (List ℕ)) × IsDateAt day date × (text ≡ json_limit login day date cap)

-- such a text was appended
abbrev pub Adds : (List ℕ → Type 0) → List ℕ → List ℕ → Type 0
Adds Is old new = (text : List ℕ) × Is text × (new ≡ old ++ text)

-- books that are right: the days of logins and the transactions that they have
abbrev pub json_sound : ℕ → ℕ → List ℕ
json_sound days transactions =
    codes "{\"sound\":true,\"days\":" ++ decimal days ++ codes ",\"transactions\":" ++ decimal transactions ++ codes "}\n"

-- books that are wrong at this login and a day that has this date
unfoldable pub json_wrong : List ℕ → ℤ → Option (List ℕ) → List ℕ
json_wrong login day date =
    (codes "{\"sound\":false,\"login\":" ++ json_login login) ++ (codes ",\"day\":" ++ signed_decimal day)
    ++ (codes ",\"date\":" ++ json_date date) ++ codes "}\n"

-- the text is the object of books that are wrong there
abbrev pub IsWrongObject : List ℕ → ℤ → List ℕ → Type 0
IsWrongObject login day text = (date : Option (List ℕ)) × IsDateAt day date × (text ≡ json_wrong login day date)
