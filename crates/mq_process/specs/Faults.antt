-- The exit status of a subcommand that isn't done before it asks a server or opens a ledger.
use Rattle.std.specs.Prelude.{ℕ}
use Rattle.mq_process.specs.declared.fault.ProcessFault.{ProcessFault}
use Rattle.mq_process.specs.declared.fault.ProcessFault.TheVariants.{Host, Login, Address, NoServer, EveryAddress, ManyServers, NoDay, NoHost, NotToday}

-- 2 where the words are at fault, else 1
abbrev pub process_status : ProcessFault → ℕ
process_status Host = 2
process_status Login = 2
process_status Address = 2
process_status NoServer = 2
process_status EveryAddress = 2
process_status ManyServers = 2
process_status NoDay = 2
process_status NoHost = 2
process_status (NotToday day today) = 2
process_status _ = 1
