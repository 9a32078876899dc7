-- The forms of what is printed: for a pipe, for a terminal, and JSON, whose keys stay.
use Rattle.std.specs.Prelude.{◌++◌, ◌∷◌, [], ◌==◌, ◌||◌, ℕ, Bool, true, false, List, codes, if◌then◌else◌}
use Rattle.std.specs.Fmt.{decimal}
use Rattle.std.specs.List.{flat_map}
use Rattle.mq_request.specs.Escaped.{escaped}
use Rattle.mq_request.specs.declared.usage.UsageRow.{UsageRow}
use Rattle.mq_command.specs.Report.{report_lines}
use Rattle.mq_command.specs.Top.{table}
use Rattle.mq_command.specs.declared.form.Form.{Form}
use Rattle.mq_command.specs.declared.form.Form.TheVariants.{Plain, Shown, Json}

-- a byte of a string: a quote or a backslash stands after a backslash
abbrev pub json_byte : ℕ → List ℕ
json_byte byte = if (byte == 34) || (byte == 92) then 92 ∷ byte ∷ [] else byte ∷ []

-- a string of visible ASCII and spaces
abbrev pub json_string : List ℕ → List ℕ
json_string text = 34 ∷ flat_map json_byte text ++ 34 ∷ []

-- a login: its text as `report` prints it
abbrev pub json_login : List ℕ → List ℕ
json_login login = json_string (escaped login)

-- the row of a login
unfoldable pub json_row : UsageRow → List ℕ
json_row row =
    (codes "{\"login\":" ++ json_login row.login) ++ (codes ",\"settled\":" ++ decimal row.settled)
    ++ (codes ",\"reserved\":" ++ decimal row.reserved) ++ (codes ",\"limit\":" ++ decimal row.cap) ++ codes "}"

-- a row with a comma before it
abbrev pub next_row : UsageRow → List ℕ
next_row row = 44 ∷ json_row row

-- rows with a comma between two
abbrev pub json_rows : List UsageRow → List ℕ
json_rows [] = []
json_rows (row ∷ rows) = json_row row ++ flat_map next_row rows

-- the day, with its date
abbrev pub json_day : ℕ → List ℕ → List ℕ
json_day day date = codes "{\"day\":" ++ decimal day ++ codes ",\"date\":" ++ json_string date

-- what is printed of the rows of a day
abbrev pub report_text : Form → ℕ → List ℕ → List UsageRow → List ℕ
report_text Plain day date rows = report_lines rows
report_text Shown day date rows = table rows
report_text Json day date rows = json_day day date ++ codes ",\"logins\":[" ++ json_rows rows ++ codes "]}\n"

-- what is printed of a day
abbrev pub day_text : Form → ℕ → List ℕ → List ℕ
day_text Plain day date = decimal day ++ 10 ∷ []
day_text Shown day date = decimal day ++ 32 ∷ date ++ 10 ∷ []
day_text Json day date = json_day day date ++ codes "}\n"

-- a truth value
abbrev pub json_truth : Bool → List ℕ
json_truth true = codes "true"
json_truth false = codes "false"

-- what is printed of a server, by whether it answers
abbrev pub json_status : List ℕ → Bool → List ℕ
json_status server answers =
    (codes "{\"server\":" ++ json_string server) ++ (codes ",\"answers\":" ++ json_truth answers) ++ codes "}\n"

-- what is printed of a server and a host, by whether it is known that the server takes the host's requests
abbrev pub json_taken : List ℕ → List ℕ → Bool → List ℕ
json_taken server host taken =
    (codes "{\"server\":" ++ json_string server) ++ (codes ",\"host\":" ++ json_login host)
    ++ (codes ",\"taken\":" ++ json_truth taken) ++ codes "}\n"
