-- The exit status of a status, a report, a limit, a stop, a resume, a retire or a replay of which a
-- word is at fault.
use Rattle.std.proofs.Common.{◌≡◌, ℕ, List, Option, None, Some, Result, Ok, Err}
use Rattle.std.specs.Prelude.{IfSome, MatchResult}
use Rattle.std.specs.Borrow.{Bor}
use Rattle.mq_process.specs.declared.arguments.LoginArgument.{LoginArgument}
use Rattle.mq_process.specs.declared.arguments.ProbeArguments.{ProbeArguments}
use Rattle.mq_process.specs.declared.arguments.ReportArguments.{ReportArguments}
use Rattle.mq_process.specs.declared.arguments.RetireArguments.{RetireArguments}
use Rattle.mq_process.specs.declared.arguments.ReplayArguments.{ReplayArguments}
use Rattle.mq_process.specs.Faults.{process_status}
use Rattle.mq_process.specs.Refusals.{NamesLogin, OrderRefuses, ProbeRefuses, ReportRefuses, RetireRefuses}
use Rattle.mq_process.specs.declared.fault.ProcessFault.{ProcessFault}
use Rattle.mq_process.specs.declared.fault.ProcessFault.TheVariants.{Host, Login, Address}
use Rattle.mq_remote.proofs.RefusalSteps.{for_order}
use Rattle.mq_program.specs.Faults.{fault_status}
use Rattle.mq_program.specs.Refusals.{IsRuleAlone, ReplayRefuses}
use Rattle.mq_program.specs.declared.fault.ProgramFault.{ProgramFault}
use Rattle.mq_program.specs.declared.fault.ProgramFault.TheVariants.{Rule}

-- what follows for a login that is no login
for_login : (login : Option LoginArgument) (A B : Type 0) → (A → B) → IfSome login (λ l. ¬ NamesLogin l → A)
    → IfSome login (λ l. ¬ NamesLogin l → B)
for_login None A B step given = given
for_login (Some text) A B step given = λ no. step (given no)

-- another way to say how a report ends
for_report : (given : ReportArguments) (A B : ProcessFault → Type 0) → ((fault : ProcessFault) → A fault → B fault) → ReportRefuses given A → ReportRefuses given B
for_report given A B step refuses = record {
  login = for_login given.login (A Login) (B Login) (step Login) refuses.login;
  address = λ login no. step Address (refuses.address login no);
}

-- what follows for a text, where one is given
for_text : (text : Option (Bor (List ℕ))) (P Q : Bor (List ℕ) → Type 0) → IfSome text P → ((t : Bor (List ℕ)) → P t → Q t) → IfSome text Q
for_text None P Q given step = given
for_text (Some text) P Q given step = step text given

-- another way to say how a status ends
for_probe : (given : ProbeArguments) (A B : ProcessFault → Type 0) → ((fault : ProcessFault) → A fault → B fault) → ProbeRefuses given A → ProbeRefuses given B
for_probe given A B step refuses = record {
  bad_host = for_text given.host _ _ refuses.bad_host (λ text ends no. step Host (ends no));
  bad_address = λ host no. step Address (refuses.bad_address host no);
}

-- another way to say how a retire ends
for_retire : (given : RetireArguments) (A B : ProcessFault → Type 0) → ((fault : ProcessFault) → A fault → B fault) → RetireRefuses given A → RetireRefuses given B
for_retire given A B step refuses = record {
  host = for_text given.host _ _ refuses.host (λ host ends no. step Host (ends no));
  address = λ is_host. for_text given.server _ _ (refuses.address is_host) (λ server ends no. step Address (ends no));
}

-- what follows for a rule that is at fault
for_rule : (rule : Option (Bor (List ℕ))) (east west : ℕ) (A B : Type 0) → (A → B) → IfSome rule (λ text. ¬ IsRuleAlone east west text.now → A)
    → IfSome rule (λ text. ¬ IsRuleAlone east west text.now → B)
for_rule None east west A B step given = given
for_rule (Some text) east west A B step given = λ no. step (given no)

-- the status is that of the fault
status_of : {F : Type 0} (status_by : F → ℕ) (asked : Result ℕ F) (status : ℕ) → MatchResult asked (λ s. status ≡ s) (λ f. status ≡ status_by f)
    → (fault : F) → asked ≡ Err fault → status ≡ status_by fault
status_of status_by (Ok s) status ends fault is = absurd (let e = is in cc)
status_of status_by (Err other) status ends fault is = let e = is in cc

-- each ends by the status of its fault
pub order_ends : (host : List ℕ) (login : LoginArgument) (servers : List (List ℕ)) (asked : Result ℕ ProcessFault) (status : ℕ)
    → MatchResult asked (λ s. status ≡ s) (λ f. status ≡ process_status f) → OrderRefuses host login servers (λ f. asked ≡ Err f)
    → OrderRefuses host login servers (λ f. status ≡ process_status f)
order_ends host login servers asked status ends refuses =
    for_order host login servers (λ f. asked ≡ Err f) (λ f. status ≡ process_status f) (status_of process_status asked status ends) refuses

pub probe_ends : (given : ProbeArguments) (asked : Result ℕ ProcessFault) (status : ℕ) → MatchResult asked (λ s. status ≡ s) (λ f. status ≡ process_status f)
    → ProbeRefuses given (λ f. asked ≡ Err f) → ProbeRefuses given (λ f. status ≡ process_status f)
probe_ends given asked status ends refuses =
    for_probe given (λ f. asked ≡ Err f) (λ f. status ≡ process_status f) (status_of process_status asked status ends) refuses

pub retire_ends : (given : RetireArguments) (asked : Result ℕ ProcessFault) (status : ℕ) → MatchResult asked (λ s. status ≡ s) (λ f. status ≡ process_status f)
    → RetireRefuses given (λ f. asked ≡ Err f) → RetireRefuses given (λ f. status ≡ process_status f)
retire_ends given asked status ends refuses =
    for_retire given (λ f. asked ≡ Err f) (λ f. status ≡ process_status f) (status_of process_status asked status ends) refuses

pub report_ends : (given : ReportArguments) (asked : Result ℕ ProcessFault) (status : ℕ) → MatchResult asked (λ s. status ≡ s) (λ f. status ≡ process_status f)
    → ReportRefuses given (λ f. asked ≡ Err f) → ReportRefuses given (λ f. status ≡ process_status f)
report_ends given asked status ends refuses =
    for_report given (λ f. asked ≡ Err f) (λ f. status ≡ process_status f) (status_of process_status asked status ends) refuses

pub replay_ends : (given : ReplayArguments) (asked : Result ℕ ProgramFault) (status : ℕ) → MatchResult asked (λ s. status ≡ s) (λ f. status ≡ fault_status f)
    → ReplayRefuses given (λ f. asked ≡ Err f) → ReplayRefuses given (λ f. status ≡ fault_status f)
replay_ends given asked status ends refuses =
    for_rule given.rule given.east given.west (asked ≡ Err Rule) (status ≡ fault_status Rule) (status_of fault_status asked status ends Rule) refuses
