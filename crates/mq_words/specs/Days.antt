-- Which day a text names.
use Rattle.std.specs.Prelude.{◌≡◌, ◌⊎◌, ℕ, List, codes}
use Rattle.std.specs.Str.Parse.{IsNumeral, digits_value, without_leading_plus}
use Rattle.mq_request.specs.Range.{IsWithin}
use Rattle.mq_dates.specs.Dates.{IsDateText}
use Rattle.mq_process.specs.declared.arguments.DayArgument.{DayArgument}
use Rattle.mq_process.specs.declared.arguments.DayArgument.TheVariants.{Today, Ago, Tomorrow, Given}

-- decimal digits, after a plus or none, that spell the number
pub record SpellsNumber (text : List ℕ) (number : ℕ) : Type 0 where
  pub digits : IsNumeral 10 (without_leading_plus text)
  pub value : number ≡ digits_value 10 (without_leading_plus text)

-- the text writes the number of a day, or its date
abbrev pub WritesNumber : List ℕ → ℕ → Type 0
WritesNumber text number = SpellsNumber text number ⊎ IsDateText number text

-- the text names the day: by a word, or by a number or a date of at most this last one
abbrev pub WritesDay : ℕ → List ℕ → DayArgument → Type 0
WritesDay last text Today = text ≡ codes "today"
WritesDay last text (Ago days) = (text ≡ codes "yesterday") × (days ≡ 1)
WritesDay last text Tomorrow = text ≡ codes "tomorrow"
WritesDay last text (Given day) = WritesNumber text day × IsWithin 0 last day
