-- What is read of the tables for a request, where each key is there once.
use Rattle.std.specs.Prelude.{◌≤◌, ℕ, List, filter, length}
use Rattle.mq_ledger.specs.History.{Transaction}
use Rattle.mq_rows.specs.Rows.{is_transaction, is_usage, is_limit, is_host}
use Rattle.mq_rows.specs.Tables.{Tables}

-- at most one row has a key
pub record AreKeyed (t : Tables) : Type 0 where
  pub transactions : (k : Transaction) → length (filter (is_transaction k) t.transactions) ≤ 1
  pub usage : (l : List ℕ) (d : ℕ) → length (filter (is_usage l d) t.usage) ≤ 1
  pub limits : (l : List ℕ) (d : ℕ) → length (filter (is_limit l d) t.limits) ≤ 1
  pub retired : (h : List ℕ) → length (filter (is_host h) t.retired) ≤ 1
