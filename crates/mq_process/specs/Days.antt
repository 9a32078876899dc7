-- What `day` prints.
use Rattle.std.specs.Prelude.{◌≡◌, ◌⊎◌, ℕ, Bool, List, Option, None, Some, Result, Ok, Err}
use Rattle.mq_request.specs.Range.{IsMoment}
use Rattle.mq_ledger.specs.Day.{day_of}
use Rattle.mq_command.specs.Forms.{day_text}
use Rattle.mq_command.specs.Orders.{PrintsLine}
use Rattle.mq_settings.specs.declared.settings.ServerSettings.{ServerSettings}
use Rattle.mq_process.specs.Outputs.{form_of}
use Rattle.mq_process.specs.Settings.{ReadsServer}
use Rattle.mq_process.specs.Today.{IsNoDay, NamesDay}
use Rattle.mq_process.specs.declared.arguments.DayArgument.{DayArgument}
use Rattle.mq_process.specs.declared.arguments.DayArguments.{DayArguments}
use Rattle.mq_dates.specs.Dates.{IsDateText}
use Rattle.mq_process.specs.declared.fault.ProcessFault.{ProcessFault}
use Rattle.mq_process.specs.declared.fault.ProcessFault.TheVariants.{Memory}

-- the moment that is given, or one that the clock shows
abbrev pub IsMomentBy : Option ℕ → ℕ → Type 0
IsMomentBy (Some given) moment = moment ≡ given
IsMomentBy None moment = IsMoment moment

-- the day that the words name, or that of their moment in the zone of the settings that a file spells
abbrev pub IsAskedDay : {F : Type 0} → (F → Option (List ℕ)) → Option DayArgument → Option ℕ → ℕ → Type 0
IsAskedDay remaining (Some named) given day = NamesDay remaining named day
IsAskedDay remaining None given day =
    (settings : ServerSettings) × ReadsServer remaining (Ok settings)
    × ((moment : ℕ) × IsMomentBy given moment × (day ≡ day_of settings.zone moment))

-- the day is printed in this form, or there are no settings or no moment, or memory runs out
abbrev pub PrintsDay : {F : Type 0} → (F → Option (List ℕ)) → DayArguments → Bool → Option (List ℕ) → Option (List ℕ)
    → Result ℕ ProcessFault → Type 0
PrintsDay remaining given on_terminal old new (Ok status) =
    (day : ℕ) × (date : List ℕ) × IsAskedDay remaining given.named given.moment day × IsDateText day date
    × PrintsLine (day_text (form_of given.output on_terminal) day date) old new status
PrintsDay remaining given on_terminal old new (Err fault) = (fault ≡ Memory) ⊎ IsNoDay remaining fault
