-- Which faults come of what a run reads, and not of what lies around it.
use Rattle.std.specs.Prelude.{Bool, true, false}
use Rattle.mq_client.specs.declared.fault.FilterFault.{FilterFault}
use Rattle.mq_client.specs.declared.fault.FilterFault.TheVariants as faults

-- the fault is one of the input: no device failed, and no memory was lacking
abbrev pub is_of_input : FilterFault → Bool
is_of_input faults.Read = false
is_of_input faults.Write = false
is_of_input faults.Memory = false
is_of_input f = true
