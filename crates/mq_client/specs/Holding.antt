-- What the filter holds back: since which second no request is sent, and the logins whose limit was reached.
use Rattle.std.specs.Prelude.{ℕ, ◌-◌, ◌/◌, List, [], ◌∷◌, ◌++◌, length, Bool, true, false, ◌==◌, ◌&&◌, ◌||◌, not}
use Rattle.std.specs.Prelude.{nat_lt, nat_le}
use Rattle.std.specs.Prelude.{if◌then◌else◌, filter, Option, None, Some, is_some}
use Rattle.std.specs.List.{list_any}
use Rattle.mq_request.specs.Same.{same_text}
use Rattle.mq_request.specs.declared.message.Request.{Request}
use Rattle.mq_request.specs.declared.message.Request.TheVariants.{Release}
use Rattle.mq_request.specs.declared.message.Reply.{Reply}
use Rattle.mq_request.specs.declared.message.Reply.TheVariants.{Released}
use Rattle.mq_line.specs.Grammar.{Meaning, ReportLine, FilterLine}
use Rattle.mq_line.specs.declared.results.Decision.{Decision}
use Rattle.mq_line.specs.declared.results.Decision.TheVariants.{RejectLimit, RejectService}
use Rattle.mq_client.specs.Exchanges.{Exchange, has_timed_out}
use Rattle.mq_client.specs.Past.{Action, Ask, Close, Step, answer_of}
use Rattle.mq_client.specs.declared.recipient_answer.RecipientAnswer.{RecipientAnswer}
use Rattle.mq_client.specs.declared.recipient_answer.RecipientAnswer.TheVariants as asked
use Rattle.mq_client.specs.declared.spans.Spans.{Spans}
use Rattle.mq_client.specs.declared.holdup.FullLogin.{FullLogin}

-- the second of the line since which no request is sent, in a pause, and the logins that were answered by the limit,
-- each with the second of its line and the minute in which its transaction began
pub record Holding : Type 0 where
  pub paused : Option ℕ
  pub full : List FullLogin

-- nothing is held back
abbrev pub nothing_held : Holding
nothing_held = record { paused = None; full = [] }

-- a line of this second ends what began at that one: it is earlier, or so many seconds later
abbrev pub is_over : (span since seconds : ℕ) → Bool
is_over span since seconds = nat_lt seconds since || nat_le span (seconds - since)

-- a pause, unless a line of this second ends it
abbrev pub still_paused : (span seconds : ℕ) → Option ℕ → Option ℕ
still_paused span seconds None = None
still_paused span seconds (Some since) = if is_over span since seconds then None else Some since

-- what is held back still when a line of this second comes
abbrev pub still : Spans → (seconds : ℕ) → Holding → Holding
still spans seconds h = record {
  paused = still_paused spans.pause seconds h.paused;
  full = filter (λ f. not (is_over spans.hold f.since seconds)) h.full;
}

-- the second of a line that has one
abbrev pub seconds_in : Meaning → Option ℕ
seconds_in (ReportLine seconds subsystem event session params) = Some seconds
seconds_in (FilterLine seconds subsystem phase session token rest) = Some seconds
seconds_in _ = None

-- the same of any line: one without a second ends nothing
abbrev pub still_by : Spans → Option ℕ → Holding → Holding
still_by spans None h = h
still_by spans (Some seconds) h = still spans seconds h

-- The minute of a moment. Each day of a ledger begins with one, where its zone's offsets are whole minutes, so two moments
-- of a minute are of one day.
abbrev pub minute_of : ℕ → ℕ
minute_of moment = moment / 60

-- whether the login is one whose limit was reached, in a transaction of that minute
abbrev pub is_full : List ℕ → (minute : ℕ) → List FullLogin → Bool
is_full login minute full = list_any (λ f. (f.minute == minute) && same_text f.login login) full

-- how a recipient of the login is answered with no exchange, in a transaction of that moment, where it is held back
abbrev pub held_back : Holding → List ℕ → (moment : ℕ) → Option Decision
held_back h login moment = if is_full login (minute_of moment) h.full then Some RejectLimit
    else (if is_some h.paused then Some RejectService else None)

-- the login that was asked for and the moment of its transaction, where the limit is reached
abbrev pub full_by : Action → RecipientAnswer → Option (List ℕ × ℕ)
full_by (Ask txn moment login) asked.Full = Some (login, moment)
full_by _ answer = None

-- whether a step, where there is one, left a request undecided of which a try ran out of time
abbrev pub times_out : Option Step → Bool
times_out None = false
times_out (Some x) = has_timed_out x.group

-- the login and the moment that a step, where there is one, found full
abbrev pub full_in : Option Step → Option (List ℕ × ℕ)
full_in None = None
full_in (Some x) = full_by x.action (answer_of x.group)

-- with one more full login: 1,000 at most, and none where none is held back
abbrev pub with_full : Spans → (seconds : ℕ) → Option (List ℕ × ℕ) → List FullLogin → List FullLogin
with_full spans seconds None full = full
with_full spans seconds (Some (login, moment)) full = if (spans.hold == 0) || nat_le 1000 (length full) then full
    else full ++ record { since = seconds; minute = minute_of moment; login = login } ∷ []

-- a pause begins with a line of this second, where a request ran out of time there
abbrev pub paused_from : (seconds : ℕ) → Bool → Option ℕ → Option ℕ
paused_from seconds true paused = Some seconds
paused_from seconds false paused = paused

-- what is held back after what came of a line of this second; of one without a second nothing comes
abbrev pub noted : Spans → Option ℕ → Bool → Option (List ℕ × ℕ) → Holding → Holding
noted spans None timed_out full h = h
noted spans (Some seconds) timed_out full h = record {
  paused = paused_from seconds timed_out h.paused;
  full = with_full spans seconds full h.full;
}

-- how many recipients a server gave back, as the reply to a release says
abbrev pub given_back : Option Reply → ℕ
given_back (Some (Released id held)) = held
given_back _ = 0

-- whether recipients of the login were given back, by so many that the request gave back
abbrev pub frees : (login : List ℕ) → Request → (given : ℕ) → Bool
frees login (Release id txn moment name) given = nat_le 1 given && same_text login name
frees login _ given = false

-- the same by any of some exchanges
abbrev pub is_freed : (login : List ℕ) → List Exchange → Bool
is_freed login group = list_any (λ x. frees login x.request (given_back (x.decided))) group

-- what is held back still after these exchanges: no login of which recipients were given back
abbrev pub freed : List Exchange → Holding → Holding
freed group h = record { paused = h.paused; full = filter (λ f. not (is_freed f.login group)) h.full }

-- the same after an action with its exchanges
abbrev pub freed_by : Action → List Exchange → Holding → Holding
freed_by (Close txn end) group h = freed group h
freed_by _ group h = h

-- the same after a step, where there is one
abbrev pub freed_in : Option Step → Holding → Holding
freed_in None h = h
freed_in (Some x) h = freed_by x.action x.group h

-- what is held back after the step of a line
abbrev pub noted_by : Spans → Option ℕ → Option Step → Holding → Holding
noted_by spans seconds step h = noted spans seconds (times_out step) (full_in step) (freed_in step h)
