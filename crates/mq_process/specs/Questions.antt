-- What a quota server may be asked once, and what that leads to.
use Rattle.std.specs.Prelude.{◌≡◌, ◌==◌, ⊤, ℕ, Bool, true, false, List, Option, Result, max}
use Rattle.mq_request.specs.Range.{IsHost, IsRun}
use Rattle.mq_link.specs.declared.link.ReportedExchange.{ReportedExchange}
use Rattle.mq_command.specs.Forms.{json_status, json_taken}
use Rattle.mq_command.specs.Orders.{Prints, PrintsLine}
use Rattle.mq_command.specs.Probing.{AsksHost, Checks, EndsProbe, probe_status, taken_lines}
use Rattle.mq_command.specs.declared.probe.HostFault.{HostFault}
use Rattle.mq_command.specs.declared.probe.ProbeEnd.{ProbeEnd}
use Rattle.mq_command.specs.declared.probe.ProbeEnd.TheVariants.{Answered, Unanswered}
use Rattle.mq_process.specs.declared.probing.Question.{Question}
use Rattle.mq_process.specs.declared.probing.Question.TheVariants.{Status, Host, Check}

-- a host that is asked about, and its time, are in range
abbrev pub IsQuestion : Question → Type 0
IsQuestion Status = ⊤
IsQuestion (Host host now) = IsHost host.now × IsRun now
IsQuestion (Check host now) = IsHost host.now × IsRun now

-- a question was put once to the server of this name, and what came of it was printed, with this status
abbrev pub Puts : List ℕ → Question → ℕ → Option (List ReportedExchange) → Option (List ReportedExchange) → Option (List ℕ) → Option (List ℕ) → Type 0
Puts server Status status old new output output' =
    (end : ProbeEnd) × EndsProbe server end old new output output' × (status ≡ probe_status end)
Puts server (Host host now) status old new output output' =
    (ended : Result (Unit {0}) HostFault) × AsksHost host.now now old new ended
    × Prints (λ _. taken_lines server host.now) output output' ended status
Puts server (Check host now) status old new output output' = Checks server host.now now old new output output' status

-- whether a server answered
abbrev pub has_answered : ProbeEnd → Bool
has_answered (Answered status) = true
has_answered (Unanswered fault) = false

-- the server of this name was asked once whether it answers, and that was printed as JSON; text is printed nowhere
abbrev pub PutsStatus : List ℕ → ℕ → Option (List ReportedExchange) → Option (List ReportedExchange) → Option (List ℕ) → Option (List ℕ) → Type 0
PutsStatus server status old new output output' =
    (end : ProbeEnd) × (nowhere nowhere' : Option (List ℕ)) × (printed : ℕ) × EndsProbe server end old new nowhere nowhere'
    × PrintsLine (json_status server (has_answered end)) output output' printed × (status ≡ max (probe_status end) printed)

-- it was asked once whether it takes the requests of a host, and that was printed as JSON
abbrev pub PutsHost : List ℕ → List ℕ → ℕ → ℕ → Option (List ReportedExchange) → Option (List ReportedExchange) → Option (List ℕ) → Option (List ℕ) → Type 0
PutsHost server host now status old new output output' =
    (ended : Result (Unit {0}) HostFault) × (nowhere nowhere' : Option (List ℕ)) × (said printed : ℕ) × AsksHost host now old new ended
    × Prints (λ _. taken_lines server host) nowhere nowhere' ended said
    × PrintsLine (json_taken server host (said == 0)) output output' printed × (status ≡ max said printed)

-- the question was put once to the server of this name, and what came of it was printed as JSON
abbrev pub PutsInJson : List ℕ → Question → ℕ → Option (List ReportedExchange) → Option (List ReportedExchange) → Option (List ℕ) → Option (List ℕ) → Type 0
PutsInJson server Status = PutsStatus server
PutsInJson server (Host host now) = PutsHost server host.now now
PutsInJson server (Check host now) = PutsHost server host.now now
