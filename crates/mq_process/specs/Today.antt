-- Which day is today, and which day a login is stopped from.
use Rattle.std.specs.Prelude.{◌≡◌, ◌<◌, ◌+◌, ◌/◌, ◌==◌, ◌&&◌, ℕ, Bool, true, false, ◌⊎◌, List, Option, None, Some, Result, Ok, Err, nat_le}
use Rattle.mq_request.specs.Range.{IsMoment}
use Rattle.mq_process.specs.declared.arguments.DayArgument.{DayArgument}
use Rattle.mq_process.specs.declared.arguments.DayArgument.TheVariants.{Today, Ago, Tomorrow, Given}
use Rattle.mq_ledger.specs.Day.{day_of}
use Rattle.mq_ledger.specs.declared.zone.Zone.{Zone}
use Rattle.mq_settings.specs.declared.settings.ServerSettings.{ServerSettings}
use Rattle.mq_process.specs.Settings.{ReadsServer}
use Rattle.mq_process.specs.declared.fault.ProcessFault.{ProcessFault}
use Rattle.mq_process.specs.declared.fault.ProcessFault.TheVariants.{NotToday, NoMoment, NoDay}

-- today at a moment: in the zone, or that of UTC where none is known
abbrev pub today_of : Option Zone → ℕ → ℕ
today_of (Some zone) moment = day_of zone moment
today_of None moment = moment / 86400

-- whether a day can be today: by the zone, or where none is known in any whose clock is less than a day from UTC's: there it is
-- UTC's day, the one before or the one after
abbrev pub is_today : Option Zone → ℕ → ℕ → Bool
is_today (Some zone) moment day = day == day_of zone moment
is_today None moment day = nat_le day (moment / 86400 + 1) && nat_le (moment / 86400) (day + 1)

-- the day that is given, where it can be today
abbrev pub ChoosesDay : Option Zone → ℕ → ℕ → Result ℕ ProcessFault → Type 0
ChoosesDay known moment day (Ok chosen) = (chosen ≡ day) × (is_today known moment day ≡ true)
ChoosesDay known moment day (Err (NotToday given today)) =
    (given ≡ day) × (today ≡ today_of known moment) × (is_today known moment day ≡ false)
ChoosesDay known moment day (Err _) = ⊥

-- the day that is chosen at a moment, or none where the clock shows none
abbrev pub ChoosesNow : Option Zone → ℕ → Result ℕ ProcessFault → Type 0
ChoosesNow known day ended = (ended ≡ Err NoMoment) ⊎ ((moment : ℕ) × IsMoment moment × ChoosesDay known moment day ended)

-- by the zone of the settings that a file spells where one is named, and where none is by that of others, or in some zone; it
-- doesn't say which goes first
abbrev pub ChoosesBy : {F X : Type 0} → (F → Option (List ℕ)) → Option X → ℕ → Result ℕ ProcessFault → Type 0
ChoosesBy remaining None day ended =
    ChoosesNow None day ended
    ⊎ ((settings : ServerSettings) × ReadsServer remaining (Ok settings) × ChoosesNow (Some settings.zone) day ended)
ChoosesBy remaining (Some file) day ended =
    ((fault : ProcessFault) × (ended ≡ Err fault) × ReadsServer remaining (Err fault))
    ⊎ ((settings : ServerSettings) × ReadsServer remaining (Ok settings) × ChoosesNow (Some settings.zone) day ended)

-- the day is so many days before that of a moment of the clock, in the zone of the settings that a file spells
abbrev pub IsDaysAgo : {F : Type 0} → (F → Option (List ℕ)) → ℕ → ℕ → Type 0
IsDaysAgo remaining ago day =
    (settings : ServerSettings) × ReadsServer remaining (Ok settings)
    × ((moment : ℕ) × IsMoment moment × (day + ago ≡ day_of settings.zone moment))

-- the day after that of a moment of the clock, in the zone of the settings that a file spells
abbrev pub IsTomorrow : {F : Type 0} → (F → Option (List ℕ)) → ℕ → Type 0
IsTomorrow remaining day =
    (settings : ServerSettings) × ReadsServer remaining (Ok settings)
    × ((moment : ℕ) × IsMoment moment × (day ≡ day_of settings.zone moment + 1))

-- the day that words name, by its number or by today
abbrev pub NamesDay : {F : Type 0} → (F → Option (List ℕ)) → DayArgument → ℕ → Type 0
NamesDay remaining Today day = IsDaysAgo remaining 0 day
NamesDay remaining (Ago ago) day = IsDaysAgo remaining ago day
NamesDay remaining Tomorrow day = IsTomorrow remaining day
NamesDay remaining (Given number) day = day ≡ number

-- why there is no day that is named by today: no settings are named or in their place, they can't be used, or the clock shows none
abbrev pub IsNoDay : {F : Type 0} → (F → Option (List ℕ)) → ProcessFault → Type 0
IsNoDay remaining fault = (fault ≡ NoDay) ⊎ ((fault ≡ NoMoment) ⊎ ReadsServer remaining (Err fault))

-- the day that words name, or why there is none
abbrev pub NamesOrNot : {F : Type 0} → (F → Option (List ℕ)) → DayArgument → Result ℕ ProcessFault → Type 0
NamesOrNot remaining given (Ok day) = NamesDay remaining given day
NamesOrNot remaining given (Err fault) = IsNoDay remaining fault

-- a day that is so many days before today is refused, unless it is today
abbrev pub RefusesAgo : {F : Type 0} → (F → Option (List ℕ)) → ℕ → Result ℕ ProcessFault → Type 0
RefusesAgo remaining ago (Ok day) = (ago ≡ 0) × IsDaysAgo remaining ago day
RefusesAgo remaining ago (Err fault) =
    IsNoDay remaining fault
    ⊎ ((day : ℕ) × IsDaysAgo remaining ago day × (0 < ago) × (fault ≡ NotToday day (day + ago)))

-- tomorrow is refused, since it isn't today
abbrev pub RefusesTomorrow : {F : Type 0} → (F → Option (List ℕ)) → Result ℕ ProcessFault → Type 0
RefusesTomorrow remaining (Ok day) = ⊥
RefusesTomorrow remaining (Err fault) =
    IsNoDay remaining fault ⊎ ((today : ℕ) × IsTomorrow remaining (today + 1) × (fault ≡ NotToday (today + 1) today))

-- the day from which a login is stopped: the one that is named where it is forced, else the one that is today
abbrev pub StopsFrom : {F X : Type 0} → (F → Option (List ℕ)) → Option X → Bool → DayArgument → Result ℕ ProcessFault → Type 0
StopsFrom remaining file true given ended = NamesOrNot remaining given ended
StopsFrom remaining file false Today ended = NamesOrNot remaining Today ended
StopsFrom remaining file false (Ago ago) ended = RefusesAgo remaining ago ended
StopsFrom remaining file false Tomorrow ended = RefusesTomorrow remaining ended
StopsFrom remaining file false (Given day) ended = ChoosesBy remaining file day ended
