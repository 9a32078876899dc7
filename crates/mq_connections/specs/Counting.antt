-- How many connections a server accepts still.
use Rattle.std.specs.Prelude.{◌-◌}
use Rattle.mq_connections.specs.declared.accept.Connections.{Connections}
use Rattle.mq_connections.specs.declared.accept.Connections.TheVariants.{Count, Endless}

-- one less, where they have an end
abbrev pub one_less : Connections → Connections
one_less (Count count) = Count (count - 1)
one_less Endless = Endless
