-- Which text writes the date of a day.
use Rattle.std.specs.Prelude.{◌≡◌, ◌++◌, ◌∷◌, [], ℕ, List, pos}
use Rattle.std.specs.Fmt.{decimal}
use Rattle.jiff.specs.Words.{date_text, epoch_day}
use Rattle.jiff.specs.declared.civil.Date.{Date}

-- the date of the day: that so many days after 1970-01-01
abbrev pub IsDateOf : ℕ → Date → Type 0
IsDateOf day date = epoch_day date ≡ pos day

-- the text writes the date of the day, as 2026-11-30
abbrev pub IsDateText : ℕ → List ℕ → Type 0
IsDateText day text = (date : Date) × IsDateOf day date × (text ≡ date_text date)

-- the text has the day's number, and its date in brackets
abbrev pub IsDated : ℕ → List ℕ → Type 0
IsDated day text =
    (written : List ℕ) × IsDateText day written × (text ≡ decimal day ++ 32 ∷ 40 ∷ [] ++ written ++ 41 ∷ [])
