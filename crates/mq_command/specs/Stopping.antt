-- What stopping a login and letting it go again leads to.
use Rattle.std.specs.Prelude.{◌≡◌, ◌⊎◌, ◌++◌, ◌∷◌, ◌==◌, ◌||◌, [], ℕ, zero, suc, List, true, false, Bool, not, Option, None, Some, Result, Ok, Err, codes}
use Rattle.std.specs.Prelude.{if◌then◌else◌}
use Rattle.std.specs.Fmt.{decimal}
use Rattle.mq_command.specs.Allowing.{day_line}
use Rattle.mq_command.specs.Holding.{Holds, HoldsLater}
use Rattle.mq_command.specs.Later.{ClearsLater}
use Rattle.mq_command.specs.Orders.{Prints}
use Rattle.mq_command.specs.Probing.{Probes}
use Rattle.mq_command.specs.Usage.{ByUsage, FailsToAsk, LooksBack}
use Rattle.mq_command.specs.declared.allow.AllowFault.{AllowFault}
use Rattle.mq_command.specs.declared.allow.AllowFault.TheVariants.{Order, Idle}
use Rattle.mq_command.specs.declared.allow.Setter.{Setter}
use Rattle.mq_command.specs.declared.ask.NoAnswer.{NoAnswer}
use Rattle.mq_command.specs.declared.ask.NoAnswer.TheVariants.{NotTaken, Unavailable, Memory}
use Rattle.mq_command.specs.declared.hold.HeldLimit.{HeldLimit}
use Rattle.mq_command.specs.declared.hold.LaterUse.{LaterUse}
use Rattle.mq_command.specs.declared.later.LaterLimit.{LaterLimit}
use Rattle.mq_command.specs.declared.look_back.SoughtDay.TheVariants.{Use}
use Rattle.mq_command.specs.declared.order.OrderFault.{OrderFault}
use Rattle.mq_command.specs.declared.order.OrderFault.TheVariants.{Unanswered}
use Rattle.mq_command.specs.declared.stop.SentLately.{SentLately}
use Rattle.mq_command.specs.declared.stop.SentLately.TheVariants as sent
use Rattle.mq_command.specs.declared.stop_end.StopEnd.{StopEnd}
use Rattle.mq_command.specs.declared.stop_end.StopEnd.TheVariants as ends
use Rattle.mq_command.specs.declared.stop.StopOrder.{StopOrder}
use Rattle.mq_command.specs.declared.stop.StoppedLogin.{StoppedLogin}
use Rattle.mq_command.specs.declared.usage.DayUsage.{DayUsage}
use Rattle.mq_link.specs.declared.link.ReportedExchange.{ReportedExchange}

-- a question about the login wasn't answered
abbrev pub unanswered : NoAnswer → AllowFault
unanswered fault = Order (Unanswered fault)

-- what is said where no answer came: that the server didn't take the question, or nothing
abbrev pub unsaid : NoAnswer → SentLately
unsaid NotTaken = sent.NotTaken
unsaid Unavailable = sent.Unanswered
unsaid Memory = sent.Unanswered

-- no answer came to a question whether the server answers at all, which was asked once, or to a later one about the login
abbrev pub IsUnsaid : List ℕ → ℕ → Option (List ReportedExchange) → Option (List ReportedExchange) → SentLately → Type 0
IsUnsaid login day old new said =
    (cause : NoAnswer) × (said ≡ unsaid cause)
    × (Probes old new (Err cause)
    ⊎ ((asked : Option (List ReportedExchange)) × Probes old asked (Ok tt) × LooksBack Use login day 3 asked new (Err cause)))

-- What asking whether a login sent something lately leads to: it did where it used something on the day or one of the two
-- before, and didn't where nothing is found; or no answer comes.
abbrev pub HasSent : List ℕ → ℕ → Option (List ReportedExchange) → Option (List ReportedExchange) → SentLately → Type 0
HasSent login day old new sent.Yes =
    (asked : Option (List ReportedExchange)) × (found : ℕ) × Probes old asked (Ok tt) × LooksBack Use login day 3 asked new (Ok (Some found))
HasSent login day old new sent.No =
    (asked : Option (List ReportedExchange)) × Probes old asked (Ok tt) × LooksBack Use login day 3 asked new (Ok None)
HasSent login day old new sent.NotTaken = IsUnsaid login day old new sent.NotTaken
HasSent login day old new sent.Unanswered = IsUnsaid login day old new sent.Unanswered

-- What checking that a login is meant leads to: nothing where that is clear, else it used something on the day or one of the
-- two before.
abbrev pub ChecksUse : List ℕ → ℕ → Bool → Option (List ReportedExchange) → Option (List ReportedExchange) → Result (Unit {0}) AllowFault → Type 0
ChecksUse login day true old new (Ok _) = new ≡ old
ChecksUse login day true old new (Err _) = ⊥
ChecksUse login day false old new (Ok _) = (found : ℕ) × LooksBack Use login day 3 old new (Ok (Some found))
ChecksUse login day false old new (Err (Idle idle)) = (idle ≡ day) × LooksBack Use login day 3 old new (Ok None)
ChecksUse login day false old new (Err (Order fault)) =
    (cause : NoAnswer) × LooksBack Use login day 3 old new (Err cause) × (fault ≡ Unanswered cause)
ChecksUse login day false old new (Err _) = ⊥

-- it is clear that a login is meant, since that is said or it used something
abbrev pub is_clear : Bool → DayUsage → Bool
is_clear meant usage = meant || not (usage.used == 0)

-- What letting a login that used so much on a day have nothing more, there and on each later day, leads to.
abbrev pub HoldsAll : Setter → ℕ → DayUsage → Option (List ReportedExchange) → Option (List ReportedExchange) → Result StoppedLogin OrderFault → Type 0
HoldsAll setter day usage old new (Ok stopped) =
    (stopped.former ≡ usage.cap)
    × ((mid : Option (List ReportedExchange)) × Holds setter 1 day usage old mid (Ok stopped.held) × HoldsLater setter day mid new (Ok stopped.later))
HoldsAll setter day usage old new (Err fault) =
    Holds setter 1 day usage old new (Err fault)
    ⊎ ((held : HeldLimit) × (mid : Option (List ReportedExchange)) × Holds setter 1 day usage old mid (Ok held) × HoldsLater setter day mid new (Err fault))

-- What stopping a login leads to: it has nothing more, where it is meant, and no limit of the day above the one that it had.
abbrev pub Stops : Setter → ℕ → Bool → Option (List ReportedExchange) → Option (List ReportedExchange) → Result StoppedLogin AllowFault → Type 0
Stops setter day meant old new (Ok stopped) =
    ByUsage setter day old (λ usage asked. (clear : Option (List ReportedExchange))
    × ChecksUse setter.login day (is_clear meant usage) asked clear (Ok tt) × HoldsAll setter day usage clear new (Ok stopped))
Stops setter day meant old new (Err fault) =
    ((cause : OrderFault) × FailsToAsk setter day old new cause × (fault ≡ Order cause))
    ⊎ (ByUsage setter day old (λ usage asked. ChecksUse setter.login day (is_clear meant usage) asked new (Err fault))
    ⊎ ByUsage setter day old (λ usage asked. (clear : Option (List ReportedExchange)) × (cause : OrderFault)
    × ChecksUse setter.login day (is_clear meant usage) asked clear (Ok tt)
    × HoldsAll setter day usage clear new (Err cause) × (fault ≡ Order cause)))

-- what it did on the day, or may do
abbrev pub verb : Bool → List ℕ
verb true = codes " may use "
verb false = codes " used "

-- what it may have on later days, where it used something on one
abbrev pub later_line : ℕ → LaterUse → List ℕ
later_line day later =
    if later.last == day then [] else codes "limit after: " ++ decimal later.most ++ codes " up to day " ++ decimal later.last ++ 10 ∷ []

-- the limit that it had on the day, and what it may have on later days
abbrev pub former_lines : StoppedLogin → ℕ → List ℕ
former_lines stopped day = codes "limit before: " ++ decimal stopped.former ++ 10 ∷ later_line day stopped.later

-- what `stop` prints where it is done
abbrev pub stopped_lines : List ℕ → StoppedLogin → ℕ → List ℕ
stopped_lines login stopped day =
    day_line (codes "stopped: ") login (verb stopped.held.is_more) stopped.held.cap day ++ former_lines stopped day

-- the exit status: 0 only where the login is stopped
abbrev pub stop_status : StopEnd → ℕ
stop_status ends.Stopped = 0
stop_status ends.Failed = 1
stop_status ends.Unanswered = 1

-- how a limit or a question that fails ends it
abbrev pub end_by : OrderFault → StopEnd
end_by (Unanswered cause) = ends.Unanswered
end_by fault = ends.Failed

-- how it ends where the login isn't known to be stopped
abbrev pub unstopped : AllowFault → StopEnd
unstopped (Order fault) = end_by fault
unstopped fault = ends.Failed

-- how it ends by limits of later days: it is done where none stays in force
abbrev pub later_end : Result (Option LaterLimit) OrderFault → StopEnd
later_end (Ok None) = ends.Stopped
later_end (Ok (Some later)) = ends.Failed
later_end (Err fault) = end_by fault

-- limits of later days were looked for where the login is stopped and that was printed, and nothing more was asked where not
abbrev pub LooksLater : Setter → StopOrder → Result StoppedLogin AllowFault → ℕ → StopEnd → Option (List ReportedExchange) → Option (List ReportedExchange) → Type 0
LooksLater setter order (Ok stopped) zero end old new =
    (found : Result (Option LaterLimit) OrderFault) × (end ≡ later_end found)
    × ClearsLater setter order.day stopped.later order.is_all old new found
LooksLater setter order (Ok stopped) (suc first) end old new = (end ≡ ends.Failed) × (new ≡ old)
LooksLater setter order (Err fault) first end old new = (end ≡ unstopped fault) × (new ≡ old)

-- What `stop` leads to at a server: the login is stopped, that is printed, and limits of later days are looked for.
abbrev pub RunsStop : Setter → StopOrder → StopEnd → Option (List ReportedExchange) → Option (List ReportedExchange) → Option (List ℕ) → Option (List ℕ) → Type 0
RunsStop setter order end old new output output' =
    (ended : Result StoppedLogin AllowFault) × (first : ℕ) × (mid : Option (List ReportedExchange))
    × Stops setter order.day order.is_meant old mid ended
    × Prints (λ stopped. stopped_lines setter.login stopped order.day) output output' ended first
    × LooksLater setter order ended first end mid new
