-- How the program ends where a word of its command line is at fault.
use Rattle.std.specs.Prelude.{◌≡◌, ℕ, ⊤}
use Rattle.mq_process.specs.declared.arguments.Arguments.{Arguments}
use Rattle.mq_process.specs.declared.arguments.Arguments.TheVariants.{Replay, Probe, Limit, Stop, Resume, Retire, Report}
use Rattle.mq_process.specs.Faults.{process_status}
use Rattle.mq_process.specs.Refusals.{OrderRefuses, ProbeRefuses, ReportRefuses, RetireRefuses}
use Rattle.mq_program.specs.Faults.{fault_status}
use Rattle.mq_program.specs.Refusals.{ReplayRefuses}

-- the exit status is that of the fault
abbrev pub Refuses : Arguments → ℕ → Type 0
Refuses (Replay given) status = ReplayRefuses given (λ fault. status ≡ fault_status fault)
Refuses (Limit given) status = OrderRefuses given.host.now given.login given.servers (λ fault. status ≡ process_status fault)
Refuses (Stop given) status = OrderRefuses given.host.now given.login given.servers (λ fault. status ≡ process_status fault)
Refuses (Resume given) status = OrderRefuses given.host.now given.login given.servers (λ fault. status ≡ process_status fault)
Refuses (Probe given) status = ProbeRefuses given (λ fault. status ≡ process_status fault)
Refuses (Retire given) status = RetireRefuses given (λ fault. status ≡ process_status fault)
Refuses (Report given) status = ReportRefuses given (λ fault. status ≡ process_status fault)
Refuses _ status = ⊤
