-- What the program did where its exit status is 0.
use Rattle.std.specs.Prelude.{◌≡◌, ◌⊎◌, ℕ, List, Bool, Option, None, Ok, ⊤}
use Rattle.std.specs.declared.fs.File.{File}
use Rattle.std.specs.declared.net.SocketAddr.{SocketAddr}
use Rattle.std.specs.declared.time.SystemTime.{SystemTime}
use Rattle.mq_link.specs.declared.link.ReportedExchange.{ReportedExchange}
use Rattle.mq_process.specs.Days.{PrintsDay}
use Rattle.mq_process.specs.Today.{NamesDay}
use Rattle.mq_process.specs.declared.arguments.Arguments.{Arguments}
use Rattle.mq_process.specs.declared.arguments.Arguments.TheVariants.{Filter, Probe, Limit, Stop}
use Rattle.mq_process.specs.declared.arguments.Arguments.TheVariants.{Resume, Retire, Report, Day}
use Rattle.mq_process.specs.declared.arguments.Arguments.TheVariants.{Init, Limits, Audit, Forget}
use Rattle.mq_words.specs.CommandLine.{AsksFor, AsksHelp}
use Rattle.mq_remote.specs.Asked.{AsksLimit, AsksProbe, AsksReport}
use Rattle.mq_remote.specs.Asked.{AsksResume, AsksRetire, AsksStop}
use Rattle.mq_remote.specs.Filters.{FiltersFile, Streams}
use Rattle.mq_program.specs.Auditing.{PrintsSound}
use Rattle.mq_program.specs.Forgetting.{PrintsKept}
use Rattle.mq_program.specs.Listing.{PrintsSome}
use Rattle.mq_program.specs.Making.{PrintsMade}
use Rattle.mailquota.specs.Refusals.{Refuses}

-- what a file of this machine tells of the bytes that it gives: nothing
abbrev pub told_of_file : File → Option (List ℕ)
told_of_file file = None

-- What these words ask for was done: servers were asked so, over links that lead to them; smtpd was
-- answered so; or a line of this form was printed whole, on an output that held this before and
-- after.
abbrev pub DoesAsAsked : {L F : Type 0} → (L → SocketAddr → ℕ → Type 0) → (L → Bool → Type 0)
    → (L → Option (List ReportedExchange))
    → (F → Option (List ℕ)) → (SystemTime → Type 0) → Option (List ℕ) → Option (List ℕ)
    → Arguments → Type 0
DoesAsAsked leads keeps told remaining Shows old new (Limit given) =
    AsksLimit leads told remaining Shows given 0
DoesAsAsked leads keeps told remaining Shows old new (Stop given) =
    AsksStop leads told remaining Shows given 0
DoesAsAsked leads keeps told remaining Shows old new (Resume given) =
    AsksResume leads told remaining Shows given 0
DoesAsAsked leads keeps told remaining Shows old new (Retire given) =
    AsksRetire leads told remaining Shows given 0
DoesAsAsked leads keeps told remaining Shows old new (Report given) =
    (on_terminal : Bool) × AsksReport leads told remaining given on_terminal 0
DoesAsAsked leads keeps told remaining Shows old new (Probe given) =
    AsksProbe leads told remaining Shows given 0
DoesAsAsked leads keeps told remaining Shows old new (Filter given) =
    (before after : Streams)
    × FiltersFile leads keeps told remaining Shows given before after (Ok 0)
DoesAsAsked leads keeps told remaining Shows old new (Day given) =
    (on_terminal : Bool) × PrintsDay remaining given on_terminal old new (Ok 0)
DoesAsAsked leads keeps told remaining Shows old new (Init given) = PrintsMade old new
DoesAsAsked leads keeps told remaining Shows old new (Limits given) =
    PrintsSome given.output old new
DoesAsAsked leads keeps told remaining Shows old new (Audit given) =
    PrintsSound given.output old new
DoesAsAsked leads keeps told remaining Shows old new (Forget given) =
    (day : ℕ) × NamesDay remaining given.before day × PrintsKept old new
DoesAsAsked leads keeps told remaining Shows old new _ = ⊤

-- How the program ends by these words: what they ask for was refused with this status, or done
-- where it is 0; or they were no usage, and it is 0 only for help.
abbrev pub EndsByWords : {L F : Type 0} → (L → SocketAddr → ℕ → Type 0) → (L → Bool → Type 0)
    → (L → Option (List ReportedExchange))
    → (F → Option (List ℕ)) → (SystemTime → Type 0) → Option (List ℕ) → Option (List ℕ)
    → List (List ℕ) → ℕ → Type 0
EndsByWords leads keeps told remaining Shows old new words status =
    ((given : Arguments) × AsksFor words given × Refuses given status
    × (status ≡ 0 → DoesAsAsked leads keeps told remaining Shows old new given))
    ⊎ (status ≡ 0 → AsksHelp words)
