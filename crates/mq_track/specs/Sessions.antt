-- Login and open transaction of a session, found by looking back over the accepted lines. The newest comes first.
use Rattle.std.specs.Prelude.{ℕ, ◌+◌, List, [], ◌∷◌, Bool, true, false, ◌&&◌, ◌||◌, nat_le, if◌then◌else◌}
use Rattle.std.specs.Prelude.{Option, None, Some}
use Rattle.std.specs.List.{list_any}
use Rattle.std.specs.Option.{option_or, option_and_then}
use Rattle.std.specs.Str.{bytes_eq}
use Rattle.mq_line.specs.Grammar.{Meaning}
use Rattle.mq_track.specs.Events.{Event, Passed, Began, Ended, Left, Nothing, event, unreadable}
use Rattle.mq_track.specs.declared.closing.Closing.{Closing}
use Rattle.mq_track.specs.declared.closing.CloseEnd.{CloseEnd}
use Rattle.mq_track.specs.declared.closing.CloseEnd.TheVariants.{Rollback}
use Rattle.mq_track.specs.declared.fault.TrackFault.{TrackFault}
use Rattle.mq_track.specs.declared.fault.TrackFault.TheVariants.{Exhausted}

-- the lines after the last one that passes the test: all where none does
abbrev pub since : (Meaning → Bool) → List Meaning → List Meaning
since test [] = []
since test (line ∷ past) = if test line then [] else line ∷ since test past

-- ---- what a line is to the session s

-- the name in a link-auth of s with result pass
abbrev pub name_of : List ℕ → Event → Option (List ℕ)
name_of s (Passed session login) = if bytes_eq session s then Some login else None
name_of s _ = None

-- a link-disconnect of s
abbrev pub leaves : List ℕ → Event → Bool
leaves s (Left session) = bytes_eq session s
leaves s _ = false

-- a tx-begin of any session
abbrev pub is_begin : Event → Bool
is_begin (Began session message moment) = true
is_begin _ = false

-- a tx-begin of s
abbrev pub begins : List ℕ → Event → Bool
begins s (Began session message moment) = bytes_eq session s
begins s _ = false

-- the message id of an ending, where it has one, is this one
abbrev pub is_named : Option (List ℕ) → List ℕ → Bool
is_named None m = true
is_named (Some message) m = bytes_eq message m

-- a link-disconnect of s, a tx-commit or tx-rollback of s with the message id m, or a tx-reset of s with m or no id
abbrev pub ends : List ℕ → List ℕ → Event → Bool
ends s m (Ended session message end) = bytes_eq session s && is_named message m
ends s m (Left session) = bytes_eq session s
ends s m _ = false

-- ---- login

-- the name in the last link-auth of s with result pass
abbrev pub last_name : List ℕ → List Meaning → Option (List ℕ)
last_name s [] = None
last_name s (line ∷ past) = option_or (name_of s (event line)) (last_name s past)

-- the same where no later link-disconnect of s follows
abbrev pub login : List Meaning → List ℕ → Option (List ℕ)
login past s = last_name s (since (λ line. leaves s (event line)) past)

-- ---- open transaction

-- a transaction that began: its number, its message id, and the seconds of its tx-begin
pub record Transaction : Type 0 where
  pub txn : ℕ
  pub message : List ℕ
  pub moment : ℕ

-- how many tx-begins there are, over all sessions
abbrev pub begin_count : List Meaning → ℕ
begin_count [] = 0
begin_count (line ∷ past) = if is_begin (event line) then begin_count past + 1 else begin_count past

-- the transaction that an event begins in s, under this number
abbrev pub opened_by : List ℕ → ℕ → Event → Option Transaction
opened_by s n (Began session message moment) =
    if bytes_eq session s then Some (record { txn = n; message = message; moment = moment }) else None
opened_by s n _ = None

-- the last tx-begin of s: its number counts the tx-begins up to it
abbrev pub last_begin : List ℕ → List Meaning → Option Transaction
last_begin s [] = None
last_begin s (line ∷ past) = option_or (opened_by s (begin_count (line ∷ past)) (event line)) (last_begin s past)

-- the same where none of the lines that follow it ends it
abbrev pub open_transaction : List Meaning → List ℕ → Option Transaction
open_transaction past s = option_and_then
    (λ o. if list_any (λ line. ends s o.message (event line)) (since (λ line. begins s (event line)) past)
    then None else Some o)
    (last_begin s past)

-- ---- closings

-- the session that an event is of
abbrev pub session_of : Event → Option (List ℕ)
session_of (Passed session login) = Some session
session_of (Began session message moment) = Some session
session_of (Ended session message end) = Some session
session_of (Left session) = Some session
session_of Nothing = None

-- how an event closes a transaction
abbrev pub end_of : Event → CloseEnd
end_of (Ended session message end) = end
end_of _ = Rollback

-- the closing of the transaction o of s that an event brings: a tx-begin of s brings it, and each line that ends o
abbrev pub closing_of : List ℕ → Event → Transaction → Option Closing
closing_of s e o =
    if begins s e || ends s o.message e then Some (record { txn = o.txn; end = end_of e }) else None

-- the closing that a line brings after the past
abbrev pub closing : List Meaning → Meaning → Option Closing
closing past line = option_and_then
    (λ s. option_and_then (closing_of s (event line)) (open_transaction past s))
    (session_of (event line))

-- ---- faults

-- the last number that a transaction may have
abbrev pub last_number : ℕ
last_number = 4294967295

-- a tx-begin has no number left after so many of them
abbrev pub is_exhausted : ℕ → Event → Bool
is_exhausted count e = is_begin e && nat_le last_number count

-- the first fault of a line after the past
abbrev pub fault : List Meaning → Meaning → Option TrackFault
fault past line =
    option_or (unreadable line) (if is_exhausted (begin_count past) (event line) then Some Exhausted else None)

-- ---- standing

-- how a session stands
pub data Position : Type 0 where
  Unknown : Position
  LoggedIn : (login : List ℕ) → Position
  Sending : (login : List ℕ) (txn moment : ℕ) → Position

-- by a login and an open transaction; without a login the transaction counts for nothing
abbrev pub position_of : Option (List ℕ) → Option Transaction → Position
position_of None o = Unknown
position_of (Some login) None = LoggedIn login
position_of (Some login) (Some o) = Sending login o.txn o.moment

-- by its login and its open transaction after the past
abbrev pub position : List Meaning → List ℕ → Position
position past s = position_of (login past s) (open_transaction past s)
