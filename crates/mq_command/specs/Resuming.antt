-- What letting a login have more again leads to, or the limit that it had before it was stopped.
use Rattle.std.specs.Prelude.{◌≡◌, ◌⊎◌, ◌<◌, ◌≤◌, ◌+◌, ◌-◌, ◌++◌, ◌∷◌, [], ℕ, List, Option, None, Some, Result, Ok, Err, max, min, codes}
use Rattle.std.specs.Fmt.{decimal}
use Rattle.mq_command.specs.Allowing.{SetsBoth, day_line, resumed_line}
use Rattle.mq_command.specs.Lower.{FindsLower, FoundLower}
use Rattle.mq_command.specs.Orders.{Prints}
use Rattle.mq_command.specs.Stopping.{unanswered}
use Rattle.mq_command.specs.Usage.{AsksUsed, ByUsage, FailsToAsk, LooksBack}
use Rattle.mq_command.specs.declared.allow.AllowFault.{AllowFault}
use Rattle.mq_command.specs.declared.allow.AllowFault.TheVariants.{Order, NotStopped, NoFormer}
use Rattle.mq_command.specs.declared.allow.Setter.{Setter}
use Rattle.mq_command.specs.declared.ask.NoAnswer.{NoAnswer}
use Rattle.mq_command.specs.declared.look_back.SoughtDay.TheVariants.{Limit}
use Rattle.mq_command.specs.declared.order.OrderFault.{OrderFault}
use Rattle.mq_command.specs.declared.order.OrderFault.TheVariants.{Unanswered}
use Rattle.mq_command.specs.declared.restore.Restored.{Restored}
use Rattle.mq_command.specs.declared.restore.Restored.TheVariants as came
use Rattle.mq_command.specs.declared.restore.RestoredLimit.{RestoredLimit}
use Rattle.mq_command.specs.declared.usage.DayUsage.{DayUsage}
use Rattle.mq_link.specs.declared.link.ReportedExchange.{ReportedExchange}

-- What letting a login have so many more leads to, up to the most that a limit may be.
abbrev pub GivesMore : Setter → ℕ → ℕ → Option (List ReportedExchange) → Option (List ReportedExchange) → Result ℕ OrderFault → Type 0
GivesMore setter day more old new (Ok cap) =
    ByUsage setter day old (λ usage asked. SetsBoth setter day 1000000 more usage.used asked new (Ok cap))
GivesMore setter day more old new (Err fault) =
    FailsToAsk setter day old new fault
    ⊎ ByUsage setter day old (λ usage asked. SetsBoth setter day 1000000 more usage.used asked new (Err fault))

-- the limit of a day that is to be this one, or what is used where that is more
abbrev pub at_least : ℕ → ℕ → ℕ
at_least limit used = min (max limit used) 1000000

-- What giving a login a limit leads to: no limit of the day is above it, unless more is used.
abbrev pub GivesLimit : Setter → ℕ → ℕ → Option (List ReportedExchange) → Option (List ReportedExchange) → Result ℕ OrderFault → Type 0
GivesLimit setter day limit old new (Ok cap) =
    ByUsage setter day old (λ usage asked. SetsBoth setter day (at_least limit usage.used) limit usage.used asked new (Ok cap))
GivesLimit setter day limit old new (Err fault) =
    FailsToAsk setter day old new fault
    ⊎ ByUsage setter day old (λ usage asked. SetsBoth setter day (at_least limit usage.used) limit usage.used asked new (Err fault))

-- What looking for the limit that a stopped login had before leads to: that of the day before the latest whose limit isn't 0.
abbrev pub FindsFormer : List ℕ → ℕ → Option (List ReportedExchange) → Option (List ReportedExchange) → Result ℕ AllowFault → Type 0
FindsFormer login day old new (Ok limit) =
    (latest : ℕ) × (mid : Option (List ReportedExchange)) × (usage : DayUsage) × (0 < latest) × LooksBack Limit login day 400 old mid (Ok (Some latest))
    × AsksUsed login (latest - 1) mid new (Ok usage) × (usage.cap ≡ limit) × (0 < limit)
FindsFormer login day old new (Err NoFormer) =
    LooksBack Limit login day 400 old new (Ok None)
    ⊎ (LooksBack Limit login day 400 old new (Ok (Some 0))
    ⊎ ((latest : ℕ) × (mid : Option (List ReportedExchange)) × (usage : DayUsage) × (0 < latest) × LooksBack Limit login day 400 old mid (Ok (Some latest))
    × AsksUsed login (latest - 1) mid new (Ok usage) × (usage.cap ≡ 0)))
FindsFormer login day old new (Err (Order (Unanswered cause))) =
    LooksBack Limit login day 400 old new (Err cause)
    ⊎ ((latest : ℕ) × (mid : Option (List ReportedExchange)) × (0 < latest) × LooksBack Limit login day 400 old mid (Ok (Some latest))
    × AsksUsed login (latest - 1) mid new (Err cause))
FindsFormer login day old new (Err _) = ⊥

-- What giving a stopped login its former limit back leads to.
abbrev pub GivesBack : Setter → ℕ → Option (List ReportedExchange) → Option (List ReportedExchange) → Result RestoredLimit AllowFault → Type 0
GivesBack setter day old new (Ok limits) =
    (asked : Option (List ReportedExchange)) × FindsFormer setter.login day old asked (Ok limits.limit)
    × GivesLimit setter day limits.limit asked new (Ok limits.cap)
GivesBack setter day old new (Err fault) =
    FindsFormer setter.login day old new (Err fault)
    ⊎ ((limit : ℕ) × (asked : Option (List ReportedExchange)) × (cause : OrderFault) × FindsFormer setter.login day old asked (Ok limit)
    × GivesLimit setter day limit asked new (Err cause) × (fault ≡ Order cause))

-- What leaving a login its limits leads to that has this one on the next day: that of the day isn't lower, or it isn't left so.
abbrev pub LeavesIt : List ℕ → ℕ → ℕ → Option (List ReportedExchange) → Option (List ReportedExchange) → Result RestoredLimit AllowFault → Type 0
LeavesIt login day limit old new (Ok limits) =
    (usage : DayUsage) × AsksUsed login day old new (Ok usage) × (limit ≤ usage.cap) × (limits ≡ record { cap = usage.cap; limit = limit })
LeavesIt login day limit old new (Err (NotStopped other)) =
    (usage : DayUsage) × AsksUsed login day old new (Ok usage) × (usage.cap < limit) × (other ≡ day)
LeavesIt login day limit old new (Err (Order fault)) = (cause : NoAnswer) × AsksUsed login day old new (Err cause) × (fault ≡ Unanswered cause)
LeavesIt login day limit old new (Err _) = ⊥

-- the limit of the next day was answered, and this followed
abbrev pub ByNext : List ℕ → ℕ → Option (List ReportedExchange) → (ℕ → Option (List ReportedExchange) → Type 0) → Type 0
ByNext login day old Then =
    (next : DayUsage) × (asked : Option (List ReportedExchange)) × AsksUsed login (day + 1) old asked (Ok next) × Then next.cap asked

-- What `resume` without a number leads to: where the limit of the next day is 0, the one back that the login had before it was
-- stopped, and else none is set.
abbrev pub Restores : Setter → ℕ → Option (List ReportedExchange) → Option (List ReportedExchange) → Result Restored AllowFault → Type 0
Restores setter day old new (Ok (came.Given limits)) =
    ByNext setter.login day old (λ next asked. (next ≡ 0) × GivesBack setter day asked new (Ok limits))
Restores setter day old new (Ok (came.NotStopped limits)) =
    ByNext setter.login day old (λ next asked. (0 < next) × LeavesIt setter.login day next asked new (Ok limits))
Restores setter day old new (Err fault) =
    ((cause : NoAnswer) × AsksUsed setter.login (day + 1) old new (Err cause) × (fault ≡ unanswered cause))
    ⊎ (ByNext setter.login day old (λ next asked. (next ≡ 0) × GivesBack setter day asked new (Err fault))
    ⊎ ByNext setter.login day old (λ next asked. (0 < next) × LeavesIt setter.login day next asked new (Err fault)))

-- the limits that the login has then
abbrev pub limits_of : Restored → RestoredLimit
limits_of (came.Given limits) = limits
limits_of (came.NotStopped limits) = limits

-- how the line begins that is printed of it
abbrev pub begin_of : Restored → List ℕ
begin_of (came.Given limits) = codes "resumed: "
begin_of (came.NotStopped limits) = codes "not stopped: "

-- what `resume` without a number prints where it is done: what the login may use on the day, and its limit on later days
abbrev pub restored_lines : List ℕ → Restored → ℕ → List ℕ
restored_lines login restored day =
    day_line (begin_of restored) login (codes " may use ") (limits_of restored).cap day
    ++ codes "limit after: " ++ decimal (limits_of restored).limit ++ 10 ∷ []

-- limits of later days below the least that the login is to have were looked for where it has that, and else nothing more was asked
abbrev pub LooksLower : {X Fault : Type 0} → (X → ℕ) → List ℕ → ℕ → Result X Fault → FoundLower → Option (List ReportedExchange) → Option (List ReportedExchange) → Type 0
LooksLower least login day (Ok done) found old new = FindsLower login day (least done) old new found
LooksLower least login day (Err fault) found old new = new ≡ old

-- What `resume` with a number leads to at a server: the login may have so many more, that is printed, and lower limits of later
-- days are looked for.
abbrev pub RunsResume : Setter → ℕ → ℕ → FoundLower → ℕ → Option (List ReportedExchange) → Option (List ReportedExchange) → Option (List ℕ) → Option (List ℕ) → Type 0
RunsResume setter day more found status old new output output' =
    (ended : Result ℕ OrderFault) × (mid : Option (List ReportedExchange)) × GivesMore setter day more old mid ended
    × Prints (λ cap. resumed_line setter.login cap day) output output' ended status
    × LooksLower (λ cap. more) setter.login day ended found mid new

-- What it leads to without a number.
abbrev pub RunsRestore : Setter → ℕ → FoundLower → ℕ → Option (List ReportedExchange) → Option (List ReportedExchange) → Option (List ℕ) → Option (List ℕ) → Type 0
RunsRestore setter day found status old new output output' =
    (ended : Result Restored AllowFault) × (mid : Option (List ReportedExchange)) × Restores setter day old mid ended
    × Prints (λ restored. restored_lines setter.login restored day) output output' ended status
    × LooksLower (λ restored. (limits_of restored).limit) setter.login day ended found mid new
