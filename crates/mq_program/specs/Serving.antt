-- What `server` is asked to serve, and what it was served.
use Rattle.std.specs.Prelude.{ℕ, Result}
use Rattle.sqlite.specs.State.{State}
use Rattle.mq_process.specs.declared.arguments.ConnectionsArgument.{ConnectionsArgument}
use Rattle.mq_process.specs.declared.arguments.ConnectionsArgument.TheVariants as asked
use Rattle.mq_ledger.specs.declared.zone.Zone.{Zone}
use Rattle.mq_connections.specs.declared.accept.Connections.{Connections}
use Rattle.mq_connections.specs.declared.accept.Connections.TheVariants as served
use Rattle.mq_connections.specs.declared.fault.RoomFault.TheVariants.{Store}
use Rattle.mq_connections.specs.Asking.{out}
use Rattle.mq_connections.specs.Gained.{Callers}
use Rattle.mq_connections.specs.Sessions.{EndsServing, Outside}
use Rattle.mq_connections.specs.Wires.{Wire}
use Rattle.mq_store.specs.Soundness.{book_in, IsSound}
use Rattle.mq_program.specs.declared.fault.ProgramFault.{ProgramFault}
use Rattle.mq_program.specs.declared.fault.ProgramFault.TheVariants.{Serve}

-- so many, or without end
abbrev pub connections_of : ConnectionsArgument → Connections
connections_of (asked.Count count) = served.Count count
connections_of asked.Endless = served.Endless

-- From the one book and its wires to the other, one serving: the requests that came over these wires came to the ledger, in
-- this order, and nothing else did. It gained what the peers on them may ask.
abbrev pub Serves : {A : Type 0} → Callers → Outside → Outside → Result A ProgramFault → Type 0
Serves who old new outcome = EndsServing who old new (Serve Store) outcome

-- What the sound store means is what a ledger of this book means after a serving that ended so, which left these wires. Of the
-- calls of a ledger that logs what comes to it nothing is known here.
abbrev pub HasServed : {A : Type 0} → Callers → Zone → ℕ → Outside → State → (ℕ → Wire) → Result A ProgramFault → Type 0
HasServed who zone default old new wires outcome =
    IsSound zone default new × Serves who old (out (book_in zone default new.now) wires) outcome
