-- What `limits` prints.
use Rattle.std.specs.Prelude.{◌≡◌, ℕ, List, [], ◌∷◌, ◌++◌, codes, Option}
use Rattle.std.specs.Fmt.{signed_decimal}
use Rattle.std.specs.Io.KnownBytes.{Appends}
use Rattle.std.specs.List.{flat_map}
use Rattle.std.specs.List.Sorted.{IsSortedByKey}
use Rattle.sqlite.specs.Effect.{Database}
use Rattle.mq_request.specs.Escaped.{escaped}
use Rattle.mq_ledger.specs.declared.entry.Entry.{Entry}
use Rattle.mq_rows.specs.declared.audited.LimitFigures.{LimitFigures}
use Rattle.mq_rows.specs.Pair.{pair_cmp}
use Rattle.mq_stream.specs.Flow.{AppendsFront}
use Rattle.mq_command.specs.Listed.{IsLimitObject}
use Rattle.mq_process.specs.declared.arguments.OutputArgument.{OutputArgument}
use Rattle.mq_process.specs.declared.arguments.OutputArgument.TheVariants.{Text, Json}
use Rattle.mq_store.specs.Limits.{AreLimitsIn, AreSet}

-- the texts of a day, a limit and a login in a line
abbrev pub limit_text : List ℕ → List ℕ → List ℕ → List ℕ
limit_text day cap login = day ++ 32 ∷ cap ++ 32 ∷ login ++ 10 ∷ []

-- the line of a limit: the day from which it governs, recipients a day, and the login as a report prints it
abbrev pub limit_line : LimitFigures → List ℕ
limit_line limit = limit_text (signed_decimal limit.pair.day) (signed_decimal limit.cap) (escaped limit.pair.login)

-- the lines of some limits, in their order
abbrev pub limit_lines : List LimitFigures → List ℕ
limit_lines limits = flat_map limit_line limits

-- the JSON object of a limit
abbrev pub IsObject : LimitFigures → List ℕ → Type 0
IsObject limit object = IsLimitObject limit.pair.login limit.pair.day limit.cap object

-- the objects of some limits, in their order, with a comma before each
abbrev pub AreMoreObjects : List LimitFigures → List ℕ → Type 0
AreMoreObjects [] text = text ≡ []
AreMoreObjects (limit ∷ limits) text =
    (object rest : List ℕ) × IsObject limit object × AreMoreObjects limits rest × (text ≡ (44 ∷ object) ++ rest)

-- the same with a comma between two
abbrev pub AreObjects : List LimitFigures → List ℕ → Type 0
AreObjects [] text = text ≡ []
AreObjects (limit ∷ limits) text =
    (object rest : List ℕ) × IsObject limit object × AreMoreObjects limits rest × (text ≡ object ++ rest)

-- what is printed of some limits: a line for each, or a JSON list of them
abbrev pub IsLimitsText : OutputArgument → List LimitFigures → List ℕ → Type 0
IsLimitsText Text limits text = text ≡ limit_lines limits
IsLimitsText Json limits text =
    (objects : List ℕ) × AreObjects limits objects × (text ≡ codes "[" ++ objects ++ codes "]\n")

-- these limits were printed in this form, by the bytes of the logins, then by the days
pub record PrintsInOrder (form : OutputArgument) (limits : List LimitFigures) (old new : Option (List ℕ)) : Type 0 where
  pub sorted : IsSortedByKey (λ limit. limit.pair) pair_cmp limits
  pub text : List ℕ
  pub is : IsLimitsText form limits text
  pub printed : Appends old new text

-- some limits were printed so
abbrev pub PrintsSome : OutputArgument → Option (List ℕ) → Option (List ℕ) → Type 0
PrintsSome form old new = (limits : List LimitFigures) × PrintsInOrder form limits old new

-- all rows of the table of limits were printed so
abbrev pub PrintsLimits : OutputArgument → Database → Option (List ℕ) → Option (List ℕ) → Type 0
PrintsLimits form db old new = (limits : List LimitFigures) × AreLimitsIn db limits × PrintsInOrder form limits old new

-- a prefix of what is printed of all these rows was printed
abbrev pub PrintsFrontOfLimits : OutputArgument → Database → Option (List ℕ) → Option (List ℕ) → Type 0
PrintsFrontOfLimits form db old new =
    (limits : List LimitFigures) × AreLimitsIn db limits × IsSortedByKey (λ limit. limit.pair) pair_cmp limits
    × (text : List ℕ) × IsLimitsText form limits text × AppendsFront old new text

-- the limits that a history set were printed so
abbrev pub PrintsLimitsOf : OutputArgument → List Entry → Option (List ℕ) → Option (List ℕ) → Type 0
PrintsLimitsOf form H old new = (limits : List LimitFigures) × AreSet H limits × PrintsInOrder form limits old new
