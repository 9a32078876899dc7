-- What a status of 0 says of how a subcommand ended: it ended without a fault.
use Rattle.std.proofs.Common.{◌≡◌, ℕ, List, Option, Bool, Result, Ok, Err, sym, subst, ◌∙◌}
use Rattle.std.specs.Prelude.{IfOk, MatchResult}
use Rattle.mq_process.specs.Days.{PrintsDay}
use Rattle.mq_process.specs.Faults.{process_status}
use Rattle.mq_process.specs.declared.arguments.DayArguments.{DayArguments}
use Rattle.mq_process.specs.declared.fault.ProcessFault.{ProcessFault}
use Rattle.mq_process.specs.declared.fault.ProcessFault.TheVariants as p
use Rattle.mq_program.specs.Faults.{fault_status}
use Rattle.mq_program.specs.declared.fault.ProgramFault.{ProgramFault}
use Rattle.mq_program.specs.declared.fault.ProgramFault.TheVariants as m

-- no fault ends with 0
pub process_fails : (fault : ProcessFault) → process_status fault ≡ 0 → ⊥
process_fails p.Host is = let e = is in cc
process_fails p.Login is = let e = is in cc
process_fails p.Address is = let e = is in cc
process_fails p.NoServer is = let e = is in cc
process_fails p.NoDay is = let e = is in cc
process_fails p.NoHost is = let e = is in cc
process_fails p.Memory is = let e = is in cc
process_fails (p.File f) is = let e = is in cc
process_fails (p.Settings f) is = let e = is in cc
process_fails (p.Servers f) is = let e = is in cc
process_fails p.EveryAddress is = let e = is in cc
process_fails p.ManyServers is = let e = is in cc
process_fails p.NoRun is = let e = is in cc
process_fails p.NoMoment is = let e = is in cc
process_fails (p.NotToday day today) is = let e = is in cc

pub program_fails : (fault : ProgramFault) → fault_status fault ≡ 0 → ⊥
program_fails m.Words is = let e = is in cc
program_fails m.Rule is = let e = is in cc
program_fails m.Read is = let e = is in cc
program_fails m.Write is = let e = is in cc
program_fails m.Memory is = let e = is in cc
program_fails (m.Process f) is = process_fails f is
program_fails m.Store is = let e = is in cc
program_fails (m.Open f) is = let e = is in cc
program_fails m.MemoryStore is = let e = is in cc
program_fails m.Exists is = let e = is in cc
program_fails m.Later is = let e = is in cc
program_fails (m.Audit f) is = let e = is in cc
program_fails m.Listen is = let e = is in cc
program_fails m.Permits is = let e = is in cc
program_fails (m.Serve f) is = let e = is in cc

-- so what holds of its status where it ended holds of 0
pub process_done : (P : ℕ → Type 0) (ended : Result ℕ ProcessFault) (status : ℕ) → MatchResult ended (λ s. status ≡ s) (λ f. status ≡ process_status f) → IfOk ended P
    → status ≡ 0 → P 0
process_done P (Ok s) status ends holds zero = subst P (sym ends ∙ zero) holds
process_done P (Err fault) status ends holds zero = absurd (process_fails fault (sym ends ∙ zero))

-- and what holds where it ended holds
pub program_done : (P : Type 0) (ended : Result ℕ ProgramFault) (status : ℕ) → MatchResult ended (λ s. status ≡ s) (λ f. status ≡ fault_status f) → IfOk ended (λ _. P)
    → status ≡ 0 → P
program_done P (Ok s) status ends holds zero = holds
program_done P (Err fault) status ends holds zero = absurd (program_fails fault (sym ends ∙ zero))

-- a day is printed, then
pub day_done : {F : Type 0} (remaining : F → Option (List ℕ)) (given : DayArguments) (on_terminal : Bool) (old new : Option (List ℕ))
    (ended : Result ℕ ProcessFault) (status : ℕ) → MatchResult ended (λ s. status ≡ s) (λ f. status ≡ process_status f)
    → PrintsDay remaining given on_terminal old new ended → status ≡ 0 → PrintsDay remaining given on_terminal old new (Ok 0)
day_done remaining given on_terminal old new (Ok s) status ends prints zero =
    subst (λ n. PrintsDay remaining given on_terminal old new (Ok n)) (sym ends ∙ zero) prints
day_done remaining given on_terminal old new (Err fault) status ends prints zero = absurd (process_fails fault (sym ends ∙ zero))
