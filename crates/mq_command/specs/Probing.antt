-- What asking once whether the quota server answers leads to, and whether it takes a host's requests.
use Rattle.std.specs.Prelude.{◌≡◌, ◌⊎◌, ◌+◌, ◌*◌, ◌/◌, ◌++◌, ◌∷◌, [], ℕ, List, true, Option, Result, Ok, Err, codes, max, min}
use Rattle.std.specs.Io.KnownBytes.{Appends, Keeps}
use Rattle.mq_request.specs.Escaped.{escaped}
use Rattle.mq_request.specs.declared.bounds.TheConstants.{LAST_RUN, LAST_ORDINAL, FIRST_MOMENT, LAST_MOMENT}
use Rattle.mq_request.specs.declared.message.Request.{Request}
use Rattle.mq_request.specs.declared.message.Request.TheVariants as asks
use Rattle.mq_request.specs.declared.message.Reply.{Reply}
use Rattle.mq_request.specs.declared.message.Reply.TheVariants as says
use Rattle.mq_command.specs.Asking.{IsMissed, IsNotTaken, Sends, fits}
use Rattle.mq_lemmas.specs.Told.{Tells}
use Rattle.mq_link.specs.Link.{Brings}
use Rattle.mq_command.specs.Orders.{Prints, PrintsLine}
use Rattle.mq_stream.specs.Flow.{AppendsFront}
use Rattle.mq_command.specs.declared.ask.NoAnswer.{NoAnswer}
use Rattle.mq_command.specs.declared.ask.NoAnswer.TheVariants.{NotTaken, Unavailable, Memory}
use Rattle.mq_command.specs.declared.ask.AskFault.{AskFault}
use Rattle.mq_command.specs.declared.ask.AskFault.TheVariants as unknown
use Rattle.mq_command.specs.declared.probe.HostFault.{HostFault}
use Rattle.mq_command.specs.declared.probe.HostFault.TheVariants.{Retired, Unanswered}
use Rattle.mq_command.specs.declared.probe.ProbeEnd.{ProbeEnd}
use Rattle.mq_command.specs.declared.probe.ProbeEnd.TheVariants as ends
use Rattle.mq_link.specs.declared.link.ReportedExchange.{ReportedExchange}

-- What asking once leads to: a reply that answers came, or none did, or the one that it is to be asked again. Memory may be
-- refused before the exchange, or for the reply that came.
abbrev pub AsksOnce : Request → Option (List ReportedExchange) → Option (List ReportedExchange) → Result Reply NoAnswer → Type 0
AsksOnce request old new (Ok reply) =
    (one : ReportedExchange) × Tells old new (one ∷ []) × Sends request one × Brings one.outcome reply × (fits request reply ≡ true)
AsksOnce request old new (Err NotTaken) = (one : ReportedExchange) × Tells old new (one ∷ []) × Sends request one × IsNotTaken one
AsksOnce request old new (Err Unavailable) =
    (one : ReportedExchange) × Tells old new (one ∷ []) × Sends request one × IsMissed request one × (IsNotTaken one → ⊥)
AsksOnce request old new (Err Memory) =
    (new ≡ old) ⊎ ((one : ReportedExchange) × (reply : Reply) × Tells old new (one ∷ []) × Sends request one × Brings one.outcome reply)

-- what is asked: what login `-` used on day 0, which is nothing
abbrev pub probed : Request
probed = asks.Usage (45 ∷ []) 0

-- What asking whether the server answers leads to: it does where a reply to the question comes.
abbrev pub Probes : Option (List ReportedExchange) → Option (List ReportedExchange) → Result (Unit {0}) NoAnswer → Type 0
Probes old new (Ok _) = (reply : Reply) × AsksOnce probed old new (Ok reply)
Probes old new (Err fault) = AsksOnce probed old new (Err fault)

-- the run of the next full ten minutes, in milliseconds, or the last one
abbrev pub next_run : ℕ → ℕ
next_run now = min ((now + 599999) / 600000 * 600000) LAST_RUN

-- the moment of a run, in seconds, or the nearest that a request may have: its answer is forgotten with those of its day
abbrev pub moment_of_run : ℕ → ℕ
moment_of_run run = max (min (run / 1000) LAST_MOMENT) FIRST_MOMENT

-- what a host is asked about at a time: the release of the last transaction of that run, of login `-` and the run's
-- moment, under the last number
abbrev pub host_question : List ℕ → ℕ → Request
host_question host now =
    asks.Release (record { host = host; run = next_run now; number = LAST_ORDINAL }) LAST_ORDINAL (moment_of_run (next_run now)) (45 ∷ [])

-- what a reply says of the host: its requests are taken, unless the run is retired
abbrev pub host_verdict : Reply → Result (Unit {0}) HostFault
host_verdict (says.Old id) = Err (Retired id.run)
host_verdict _ = Ok tt

-- What asking about a host leads to: what the reply says that answers, or why there is none.
abbrev pub AsksHost : List ℕ → ℕ → Option (List ReportedExchange) → Option (List ReportedExchange) → Result (Unit {0}) HostFault → Type 0
AsksHost host now old new ended =
    ((reply : Reply) × AsksOnce (host_question host now) old new (Ok reply) × (ended ≡ host_verdict reply))
    ⊎ ((fault : NoAnswer) × AsksOnce (host_question host now) old new (Err fault) × (ended ≡ Err (Unanswered fault)))

-- the line of a server that answers
abbrev pub answers_line : List ℕ → List ℕ
answers_line server = codes "quota server " ++ server ++ codes " answers\n"

-- the lines of a server that takes a host's requests
abbrev pub taken_lines : List ℕ → List ℕ → List ℕ
taken_lines server host = answers_line server ++ codes "requests of host " ++ escaped host ++ codes " are taken\n"

-- the line of settings that are right
abbrev pub settings_line : List ℕ
settings_line = codes "settings are right\n"

-- why it isn't known whether a server answers that gave no answer
abbrev pub probe_fault : NoAnswer → AskFault
probe_fault Memory = unknown.Memory
probe_fault _ = unknown.Unavailable

-- What asking and saying so leads to: a line is printed where the server answers, and nothing where it doesn't.
abbrev pub EndsProbe : List ℕ → ProbeEnd → Option (List ReportedExchange) → Option (List ReportedExchange) → Option (List ℕ) → Option (List ℕ) → Type 0
EndsProbe server (ends.Answered status) told told' old new = Probes told told' (Ok tt) × PrintsLine (answers_line server) old new status
EndsProbe server (ends.Unanswered fault) told told' old new =
    (cause : NoAnswer) × Probes told told' (Err cause) × (fault ≡ probe_fault cause) × Keeps old new

-- 1 where it doesn't answer, or where that couldn't be printed, else 0
abbrev pub probe_status : ProbeEnd → ℕ
probe_status (ends.Answered status) = status
probe_status (ends.Unanswered fault) = 1

-- What a check of settings that are right leads to: their line, then whether the server takes their host's requests; where
-- the line can't be printed the server isn't asked.
abbrev pub Checks : List ℕ → List ℕ → ℕ → Option (List ReportedExchange) → Option (List ReportedExchange) → Option (List ℕ) → Option (List ℕ) → ℕ → Type 0
Checks server host now told told' old new status =
    ((status ≡ 1) × (told' ≡ told) × AppendsFront old new settings_line)
    ⊎ ((mid : Option (List ℕ)) × (ended : Result (Unit {0}) HostFault) × Appends old mid settings_line
    × AsksHost host now told told' ended × Prints (λ _. taken_lines server host) mid new ended status)
