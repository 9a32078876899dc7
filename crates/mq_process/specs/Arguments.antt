-- What the words of a command line may ask for.
use Rattle.std.specs.Prelude.{◌≤◌, ℕ, IfSome, ⊤}
use Rattle.mq_request.specs.Range.{IsRun, IsAmount, IsMoment, IsWithin}
use Rattle.mq_process.specs.declared.arguments.ReplayArguments.{ReplayArguments}
use Rattle.mq_process.specs.declared.arguments.LimitArgument.{LimitArgument}
use Rattle.mq_process.specs.declared.arguments.LimitArgument.TheVariants.{Recipients, Default}
use Rattle.mq_process.specs.declared.arguments.LimitArguments.{LimitArguments}
use Rattle.mq_process.specs.declared.arguments.ResumeArguments.{ResumeArguments}
use Rattle.mq_process.specs.declared.arguments.StopArguments.{StopArguments}
use Rattle.mq_process.specs.declared.arguments.ReportArguments.{ReportArguments}
use Rattle.mq_process.specs.declared.arguments.DayArgument.{DayArgument}
use Rattle.mq_process.specs.declared.arguments.DayArguments.{DayArguments}
use Rattle.mq_process.specs.declared.arguments.DayArgument.TheVariants.{Today, Ago, Tomorrow, Given}
use Rattle.mq_process.specs.declared.arguments.ConnectionsArgument.{ConnectionsArgument}
use Rattle.mq_process.specs.declared.arguments.ConnectionsArgument.TheVariants.{Count, Endless}
use Rattle.mq_process.specs.declared.arguments.Arguments.{Arguments}
use Rattle.mq_process.specs.declared.arguments.Arguments.TheVariants.{Replay, Filter, Server, Limit, Retire, Stop, Resume, Day}
use Rattle.mq_process.specs.declared.arguments.Arguments.TheVariants.{Init, Status, Probe, Report, Limits, Audit, Forget}

-- a limit of 0 to 1,000,000, and at most 1,439 minutes either way
pub record IsReplayArguments (given : ReplayArguments) : Type 0 where
  pub default : given.default ≤ 1000000
  pub east : given.east ≤ 1439
  pub west : given.west ≤ 1439

-- a day number of 0 to the last one, today or tomorrow, or a day up to 376,200 days before it
abbrev pub IsDayUpTo : ℕ → DayArgument → Type 0
IsDayUpTo last Today = ⊤
IsDayUpTo last Tomorrow = ⊤
IsDayUpTo last (Ago days) = IsWithin 0 376200 days
IsDayUpTo last (Given day) = IsWithin 0 last day

-- a limit of 0 to 1,000,000, where it is a number
abbrev pub IsLimitArgument : LimitArgument → Type 0
IsLimitArgument (Recipients number) = IsAmount number
IsLimitArgument Default = ⊤

-- a limit in range, and a run in range where one is given
pub record IsLimitArguments (given : LimitArguments) : Type 0 where
  pub from : IsDayUpTo 376200 given.from
  pub cap : IsLimitArgument given.cap
  pub run : IfSome given.run IsRun

-- the last day that another one follows in range, whose limit `stop` and `resume` set too
abbrev pub last_stop_day : ℕ
last_stop_day = 376199

-- a day up to that one
abbrev pub IsStopArguments : StopArguments → Type 0
IsStopArguments given = IsDayUpTo last_stop_day given.day

-- a day up to that one, and 0 to 1,000,000 recipients more where a number is given
pub record IsResumeArguments (given : ResumeArguments) : Type 0 where
  pub day : IsDayUpTo last_stop_day given.day
  pub cap : IfSome given.cap IsAmount

-- 1 to 1,000,000 logins, where a number is given
pub record IsReportArguments (given : ReportArguments) : Type 0 where
  pub day : IsDayUpTo 376200 given.day
  pub top : IfSome given.top (IsWithin 1 1000000)

-- a day in range, where one is named, and a moment in range, where one is given
pub record IsDayArguments (given : DayArguments) : Type 0 where
  pub named : IfSome given.named (IsDayUpTo 376200)
  pub moment : IfSome given.moment IsMoment

-- 1 to 1,000,000 connections, where they have an end
abbrev pub IsConnections : ConnectionsArgument → Type 0
IsConnections (Count count) = IsWithin 1 1000000 count
IsConnections Endless = ⊤

-- the numbers are within their ranges
abbrev pub IsArguments : Arguments → Type 0
IsArguments (Replay given) = IsReplayArguments given
IsArguments (Filter given) = IfSome given.run IsRun
IsArguments (Server given) = IsConnections given.connections
IsArguments (Limit given) = IsLimitArguments given
IsArguments (Stop given) = IsStopArguments given
IsArguments (Resume given) = IsResumeArguments given
IsArguments (Day given) = IsDayArguments given
IsArguments (Retire given) = IfSome given.run IsRun
IsArguments (Report given) = IsReportArguments given
IsArguments (Init given) = ⊤
IsArguments (Status given) = ⊤
IsArguments (Probe given) = ⊤
IsArguments (Limits given) = ⊤
IsArguments (Audit given) = ⊤
IsArguments (Forget given) = IsDayUpTo 376200 given.before
