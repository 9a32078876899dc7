-- What the filter asks for and writes, by the lines that it reads. Of the lines after `config|ready`, and of
-- steps, the newest comes first.
use Rattle.std.specs.Prelude.{◌≡◌, ℕ, List, [], ◌∷◌, ◌++◌, length, codes, Bool, true, false, ◌&&◌, nat_le}
use Rattle.std.specs.Prelude.{if◌then◌else◌, Option, None, Some, is_some, count_by}
use Rattle.std.specs.Str.{bytes_eq}
use Rattle.std.specs.Option.{option_map}
use Rattle.mq_line.specs.Grammar.{Meaning, FilterLine}
use Rattle.mq_line.specs.Results.{result_text}
use Rattle.mq_line.specs.declared.results.Decision.{Decision}
use Rattle.mq_line.specs.declared.results.Decision.TheVariants.{Proceed, RejectLimit, RejectService}
use Rattle.mq_track.specs.Sessions.{Position, Unknown, LoggedIn, Sending, position, closing, fault}
use Rattle.mq_track.specs.declared.closing.Closing.{Closing}
use Rattle.mq_client.specs.Exchanges.{Exchange}
use Rattle.mq_client.specs.Past.{Action, Ask, Close, Step, answer_of}
use Rattle.mq_client.specs.Holding.{Holding, nothing_held, held_back, seconds_in, still_by, noted_by}
use Rattle.mq_client.specs.declared.spans.Spans.{Spans}
use Rattle.mq_client.specs.declared.recipient_answer.RecipientAnswer.{RecipientAnswer}
use Rattle.mq_client.specs.declared.recipient_answer.RecipientAnswer.TheVariants as asked

-- what becomes of a filter line: it passes, it is refused with no question, or a recipient is asked for
pub data Query : Type 0 where
  Passes : Query
  Refuses : Query
  Asks : (txn moment : ℕ) (login : List ℕ) → Query

-- a login of 1 to 255 bytes, as a request can carry it
abbrev pub is_login : List ℕ → Bool
is_login login = nat_le 1 (length login) && nat_le (length login) 255

-- a second from 1970-01-02T00:00:00Z to 3000-01-01T00:00:00Z, as a request can carry it
abbrev pub is_moment : ℕ → Bool
is_moment moment = nat_le 86400 moment && nat_le moment 32503680000

-- without a login it passes; with one it asks, where login and open transaction are in range
abbrev pub query_at : Position → Query
query_at Unknown = Passes
query_at (LoggedIn login) = Refuses
query_at (Sending login txn moment) = if is_login login && is_moment moment then Asks txn moment login else Refuses

-- only recipients of the subsystem smtp-in ask
abbrev pub query : List Meaning → (subsystem phase session : List ℕ) → Query
query L subsystem phase session = if bytes_eq subsystem (codes "smtp-in") && bytes_eq phase (codes "rcpt-to")
    then query_at (position L session) else Passes

-- what smtpd is answered for an ask: proceed where it was granted, 550 by the limit, 451 otherwise
abbrev pub decision_of : RecipientAnswer → Decision
decision_of asked.Granted = Proceed
decision_of asked.Full = RejectLimit
decision_of asked.Unavailable = RejectService

-- how an ask with these exchanges is answered, which may be held back
abbrev pub decision_by : Option Decision → List Exchange → Decision
decision_by (Some d) group = d
decision_by None group = decision_of (answer_of group)

-- The step that a query makes, where it makes one, and how it is answered. One that is held back asks quietly.
abbrev pub Answers : Holding → Query → Option Step → Decision → Type 0
Answers h Passes step d = (step ≡ None) × (d ≡ Proceed)
Answers h Refuses step d = (step ≡ None) × (d ≡ RejectService)
Answers h (Asks txn moment login) step d = (group : List Exchange)
    × (step ≡ Some (record { action = Ask txn moment login; group = group; quiet = is_some (held_back h login moment) }))
    × (d ≡ decision_by (held_back h login moment) group)

-- the step that a closing makes: in a pause it joins those that wait, and none is sent
abbrev pub Closes : (paused : Bool) → Option Closing → Option Step → Type 0
Closes paused None step = step ≡ None
Closes paused (Some c) step = (group : List Exchange)
    × (step ≡ Some (record { action = Close c.txn c.end; group = group; quiet = paused }))

-- the step that a line makes, by what is held back at it and the lines before it, and what is written for it: one that
-- the tracker refuses makes none
abbrev pub Takes : Holding → List Meaning → Meaning → Option Step → List ℕ → Type 0
Takes h L (FilterLine seconds subsystem phase session token rest) step text = (d : Decision)
    × Answers h (query L subsystem phase session) step d × (text ≡ result_text session token d)
Takes h L line step text = (fault L line ≡ None) × Closes (is_some h.paused) (closing L line) step × (text ≡ [])

-- what is held back when a line comes, and after its step
abbrev pub at_line : Spans → Meaning → Holding → Holding
at_line spans line h = still_by spans (seconds_in line) h

abbrev pub after_line : Spans → Meaning → Option Step → Holding → Holding
after_line spans line step h = noted_by spans (seconds_in line) step h

-- with one more at the front, where there is one
abbrev pub push : {A : Type 0} → Option A → List A → List A
push None xs = xs
push (Some x) xs = x ∷ xs

-- the steps that the lines make, the results that are written for them, and what is held back after them
abbrev pub Filters : Spans → List Meaning → List Step → List ℕ → Holding → Type 0
Filters spans [] steps text h = (steps ≡ []) × (text ≡ []) × (h ≡ nothing_held)
Filters spans (line ∷ L) steps text h = (step : Option Step) × (before : List Step) × (written next : List ℕ)
    × (held : Holding) × Filters spans L before written held × Takes (at_line spans line held) L line step next
    × (steps ≡ push step before) × (text ≡ written ++ next) × (h ≡ after_line spans line step (at_line spans line held))

-- a request of smtpd, which gets one result
abbrev pub is_filter : Meaning → Bool
is_filter (FilterLine seconds subsystem phase session token rest) = true
is_filter _ = false

-- how many lines are answered
abbrev pub answer_count : List Meaning → ℕ
answer_count L = count_by is_filter L

-- what some steps did
abbrev pub actions : List Step → List Action
actions [] = []
actions (x ∷ steps) = x.action ∷ actions steps

-- what a request of smtpd asks the client
abbrev pub asking_of : Query → Option Action
asking_of (Asks txn moment login) = Some (Ask txn moment login)
asking_of _ = None

-- what the end of a transaction has the client do
abbrev pub close_of : Closing → Action
close_of c = Close c.txn c.end

-- what a line has the client do, by the lines before it
abbrev pub action_of : List Meaning → Meaning → Option Action
action_of L (FilterLine seconds subsystem phase session token rest) = asking_of (query L subsystem phase session)
action_of L line = option_map close_of (closing L line)

-- what the lines have the client do, the newest first
abbrev pub actions_of : List Meaning → List Action
actions_of [] = []
actions_of (line ∷ L) = push (action_of L line) (actions_of L)
