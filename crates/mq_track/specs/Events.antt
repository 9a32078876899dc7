-- What a line reports of sessions, and which fault it has where it can't be read.
use Rattle.std.specs.Prelude.{ℕ, List, codes, Bool, ◌||◌, is_none, if◌then◌else◌, Option, None, Some}
use Rattle.std.specs.Str.{bytes_eq}
use Rattle.mq_line.specs.Grammar.{Meaning, ReportLine}
use Rattle.mq_line.specs.Parameters.{auth, message}
use Rattle.mq_line.specs.declared.parameters.AuthResult.{AuthResult}
use Rattle.mq_line.specs.declared.parameters.AuthResult.TheVariants.{Pass, Fail, Error}
use Rattle.mq_track.specs.declared.closing.CloseEnd.{CloseEnd}
use Rattle.mq_track.specs.declared.closing.CloseEnd.TheVariants.{Commit, Rollback}
use Rattle.mq_track.specs.declared.fault.TrackFault.{TrackFault}
use Rattle.mq_track.specs.declared.fault.TrackFault.TheVariants.{Auth, Message}

-- a login passed, a transaction began, the transaction with a message id (without one: any) ended, the session left
pub data Event : Type 0 where
  Passed : (session login : List ℕ) → Event
  Began : (session message : List ℕ) (moment : ℕ) → Event
  Ended : (session : List ℕ) (message : Option (List ℕ)) (end : CloseEnd) → Event
  Left : (session : List ℕ) → Event
  Nothing : Event

-- a link-auth says something where it can be read and passed
abbrev pub auth_event : List ℕ → Option (AuthResult × List ℕ) → Event
auth_event session None = Nothing
auth_event session (Some (Pass, login)) = Passed session login
auth_event session (Some (Fail, login)) = Nothing
auth_event session (Some (Error, login)) = Nothing

-- a tx-begin says something where it has a message id
abbrev pub begin_event : List ℕ → ℕ → Option (List ℕ) → Event
begin_event session seconds None = Nothing
begin_event session seconds (Some message) = Began session message seconds

-- so do a tx-commit and a tx-rollback
abbrev pub end_event : List ℕ → CloseEnd → Option (List ℕ) → Event
end_event session end None = Nothing
end_event session end (Some message) = Ended session (Some message) end

-- what a report says, by its event's name
abbrev pub report_event : ℕ → List ℕ → List ℕ → List ℕ → Event
report_event seconds name session params =
    if bytes_eq name (codes "link-auth") then auth_event session (auth params)
    else (if bytes_eq name (codes "link-disconnect") then Left session
    else (if bytes_eq name (codes "tx-begin") then begin_event session seconds (message params)
    else (if bytes_eq name (codes "tx-commit") then end_event session Commit (message params)
    else (if bytes_eq name (codes "tx-rollback") then end_event session Rollback (message params)
    else (if bytes_eq name (codes "tx-reset") then Ended session (message params) Rollback
    else Nothing)))))

-- what a line says: only reports of the subsystem smtp-in say something
abbrev pub event : Meaning → Event
event (ReportLine seconds subsystem name session params) =
    if bytes_eq subsystem (codes "smtp-in") then report_event seconds name session params else Nothing
event _ = Nothing

-- whether an event has to have a message id
abbrev pub has_message : List ℕ → Bool
has_message name =
    bytes_eq name (codes "tx-begin") || (bytes_eq name (codes "tx-commit") || bytes_eq name (codes "tx-rollback"))

-- the fault in the parameters of a report
abbrev pub report_fault : List ℕ → List ℕ → Option TrackFault
report_fault name params =
    if bytes_eq name (codes "link-auth") then (if is_none (auth params) then Some Auth else None)
    else (if has_message name then (if is_none (message params) then Some Message else None) else None)

-- the fault in the parameters of a line: reports of another subsystem have none
abbrev pub unreadable : Meaning → Option TrackFault
unreadable (ReportLine seconds subsystem name session params) =
    if bytes_eq subsystem (codes "smtp-in") then report_fault name params else None
unreadable _ = None
