-- What a line of smtpd says, and which fault it has where it says nothing.
use Rattle.std.specs.Prelude.{◌≡◌, ◌≢◌, ◌==◌, ◌&&◌, ℕ, List, [], ◌∷◌, length, codes, not, nat_lt}
use Rattle.std.specs.Prelude.{nat_le, is_none, if◌then◌else◌, Bool, Option, None, Some}
use Rattle.std.specs.List.{AllByRecursion, list_any, list_all}
use Rattle.std.specs.Str.{bytes_eq}
use Rattle.std.specs.Char.{is_ascii_digit}
use Rattle.std.specs.Str.Parse.{digits_value}
use Rattle.mq_line.specs.Pieces.{pieces, fields, joined}
use Rattle.mq_line.specs.declared.reading.Line.{Line}
use Rattle.mq_line.specs.declared.reading.Line.TheVariants.{Config, Ready, Report, Filter, Other}
use Rattle.mq_line.specs.declared.fault.LineFault.{LineFault}
use Rattle.mq_line.specs.declared.fault.LineFault.TheVariants.{Short, Version, Time, EmptyField}

-- what a line says, by the bytes of its parts
pub data Meaning : Type 0 where
  ConfigLine : (key value : List ℕ) → Meaning
  ReadyLine : Meaning
  ReportLine : (seconds : ℕ) (subsystem event session params : List ℕ) → Meaning
  FilterLine : (seconds : ℕ) (subsystem phase session token rest : List ℕ) → Meaning
  OtherLine : Meaning

-- the same of a line that was taken apart
abbrev pub meaning : Line → Meaning
meaning (Config key value) = ConfigLine key.now value.now
meaning Ready = ReadyLine
meaning (Report seconds subsystem event session params) =
    ReportLine seconds subsystem.now event.now session.now params.now
meaning (Filter seconds subsystem phase session token rest) =
    FilterLine seconds subsystem.now phase.now session.now token.now rest.now
meaning Other = OtherLine

-- the most digits of a time before its point
abbrev pub max_second_digits : ℕ
max_second_digits = 18

-- and after it
abbrev pub max_fraction_digits : ℕ
max_fraction_digits = 9

-- one decimal digit or more, and at most so many
abbrev pub is_number : ℕ → List ℕ → Bool
is_number most digits = nat_lt 0 (length digits) && (nat_le (length digits) most && list_all is_ascii_digit digits)

-- the number before the point, where it and what follows it have as many digits as they may
abbrev pub seconds_around : List (List ℕ) → Option ℕ
seconds_around (whole ∷ fraction ∷ []) =
    if is_number max_second_digits whole && is_number max_fraction_digits fraction
    then Some (digits_value 10 whole) else None
seconds_around _ = None

-- the seconds of a time, which has one point (46)
abbrev pub seconds_of : List ℕ → Option ℕ
seconds_of time = seconds_around (pieces 46 time)

-- a version, a time and the fields that may not be empty are right
pub record IsStamp (version time : List ℕ) (names : List (List ℕ)) (seconds : ℕ) : Type 0 where
  pub protocol : version ≡ codes "0.7"
  pub moment : seconds_of time ≡ Some seconds
  pub named : AllByRecursion (λ name. name ≢ []) names

-- what the fields of a line mean
abbrev pub Means : List (List ℕ) → Meaning → Type 0
Means fs (ConfigLine key value) = (first : List ℕ) × (more : List (List ℕ))
    × (fs ≡ codes "config" ∷ key ∷ first ∷ more) × (value ≡ joined (first ∷ more))
Means fs ReadyLine = fs ≡ codes "config" ∷ codes "ready" ∷ []
Means fs (ReportLine seconds subsystem event session params) = (version time : List ℕ) × (more : List (List ℕ))
    × (fs ≡ codes "report" ∷ version ∷ time ∷ subsystem ∷ event ∷ session ∷ more)
    × IsStamp version time (subsystem ∷ event ∷ session ∷ []) seconds × (params ≡ joined more)
Means fs (FilterLine seconds subsystem phase session token rest) = (version time : List ℕ) × (more : List (List ℕ))
    × (fs ≡ codes "filter" ∷ version ∷ time ∷ subsystem ∷ phase ∷ session ∷ token ∷ more)
    × IsStamp version time (subsystem ∷ phase ∷ session ∷ token ∷ []) seconds × (rest ≡ joined more)
Means fs OtherLine = (first : List ℕ) × (more : List (List ℕ))
    × (fs ≡ first ∷ more) × (first ≢ codes "config") × (first ≢ codes "report") × (first ≢ codes "filter")

-- a line reads as a meaning
abbrev pub Reads : List ℕ → Meaning → Type 0
Reads line m = Means (fields line) m

-- the first fault of a version, a time and the fields that may not be empty
abbrev pub stamp_fault : List ℕ → List ℕ → List (List ℕ) → Option LineFault
stamp_fault version time names =
    if not (bytes_eq version (codes "0.7")) then Some Version
    else (if is_none (seconds_of time) then Some Time
    else (if list_any (λ name. length name == 0) names then Some EmptyField else None))

-- the fault of the fields after `config`
abbrev pub config_fault : List (List ℕ) → Option LineFault
config_fault [] = Some Short
config_fault (second ∷ []) = if bytes_eq second (codes "ready") then None else Some Short
config_fault (key ∷ first ∷ more) = None

-- of those after `report`
abbrev pub report_fault : List (List ℕ) → Option LineFault
report_fault (version ∷ time ∷ subsystem ∷ event ∷ session ∷ more) =
    stamp_fault version time (subsystem ∷ event ∷ session ∷ [])
report_fault _ = Some Short

-- and of those after `filter`
abbrev pub filter_fault : List (List ℕ) → Option LineFault
filter_fault (version ∷ time ∷ subsystem ∷ phase ∷ session ∷ token ∷ more) =
    stamp_fault version time (subsystem ∷ phase ∷ session ∷ token ∷ [])
filter_fault _ = Some Short

-- the first fault of some fields
abbrev pub first_fault : List (List ℕ) → Option LineFault
first_fault [] = None
first_fault (first ∷ more) =
    if bytes_eq first (codes "config") then config_fault more
    else (if bytes_eq first (codes "report") then report_fault more
    else (if bytes_eq first (codes "filter") then filter_fault more else None))

-- the first fault of a line: too few fields, then the version, the time, an empty field
abbrev pub fault : List ℕ → Option LineFault
fault line = first_fault (fields line)
