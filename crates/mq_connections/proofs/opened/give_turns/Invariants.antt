use Rattle.mq_permits.specs.Permits.{may_ask}
use Rattle.mq_connections.proofs.opened.give_turns.Given as goal

-- the ledger is lent through this reference, for what the peer may ask, and with what stands in it now
abbrev pub ghosts-take_lent_turns : goal.ghosts-take_lent_turns
ghosts-take_lent_turns g a = record {
  reference = a.lent.ledger.ghost_name;
  may = may_ask a.lent.permits a.lent.peer;
  start = (g.L.Ledger.book a.lent.ledger.now).history;
}
