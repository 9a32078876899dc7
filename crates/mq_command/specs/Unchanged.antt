-- What stays as it is where a host is asked about.
use Rattle.std.specs.Prelude.{◌≡◌, ℕ, List}
use Rattle.mq_request.specs.declared.bounds.TheConstants.{LAST_ORDINAL}
use Rattle.mq_ledger.specs.declared.entry.Entry.{Entry}
use Rattle.mq_ledger.specs.Arrivals.{floor}
use Rattle.mq_ledger.specs.History.{Transaction, requests, held, reserved, settled}
use Rattle.mq_ledger.specs.Limits.{cap}
use Rattle.mq_command.specs.Probing.{next_run}

-- the transaction that a host is asked about at a time
abbrev pub host_transaction : List ℕ → ℕ → Transaction
host_transaction host now = record { host = host; run = next_run now; txn = LAST_ORDINAL }

-- On each day each login has as much reserved and settled in both histories, and the same limit; each transaction holds as
-- much, and each host has the same floor.
pub record AreAlike (day : ℕ → ℕ) (default : ℕ) (H G : List Entry) : Type 0 where
  pub all_reserved : (l : List ℕ) (d : ℕ) → reserved day G l d ≡ reserved day H l d
  pub all_settled : (l : List ℕ) (d : ℕ) → settled day G l d ≡ settled day H l d
  pub all_limits : (l : List ℕ) (d : ℕ) → cap default G l d ≡ cap default H l d
  pub all_held : (t : Transaction) → held G t ≡ held H t
  pub all_floors : (h : List ℕ) → floor (requests G) h ≡ floor (requests H) h
