-- Why a subcommand isn't done, and its exit status.
use Rattle.std.specs.Prelude.{ℕ}
use Rattle.std.specs.declared.io.ErrorKind.{ErrorKind}
use Rattle.std.specs.declared.io.ErrorKind.TheVariants as kind
use Rattle.mq_program.specs.declared.fault.ProgramFault.{ProgramFault}
use Rattle.mq_program.specs.declared.fault.ProgramFault.TheVariants.{Words, Rule, Process, Memory}
use Rattle.mq_process.specs.Faults.{process_status}

-- 2 where the words are at fault, else 1
abbrev pub fault_status : ProgramFault → ℕ
fault_status Words = 2
fault_status Rule = 2
fault_status (Process fault) = process_status fault
fault_status _ = 1

-- that memory ran out goes before any other fault
abbrev pub or_memory_of : ErrorKind → ProgramFault → ProgramFault
or_memory_of kind.OutOfMemory fault = Memory
or_memory_of _ fault = fault
