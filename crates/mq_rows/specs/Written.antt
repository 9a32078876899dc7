-- What one numbered request makes of all tables.
use Rattle.std.specs.Prelude.{◌≡◌, List, [], ◌∷◌, ◌++◌}
use Rattle.mq_ledger.specs.Day.{day_of}
use Rattle.mq_ledger.specs.Legal.{Book}
use Rattle.mq_rows.specs.declared.plan.Plan.{Plan}
use Rattle.mq_rows.specs.declared.record.TransactionRecord.{TransactionRecord}
use Rattle.mq_rows.specs.declared.record.UsageRecord.{UsageRecord}
use Rattle.mq_rows.specs.Rows.{IsSetting, answer_rows}
use Rattle.mq_rows.specs.Tables.{Tables, AreTransactions, AreUsage, AreLimits, AreRetired}
use Rattle.mq_rows.specs.Plan.{Leads, same_key, set_transaction, same_day, set_usage, same_from, set_limit}
use Rattle.mq_rows.specs.Plan.{same_host, set_run, AreToClose, LeadsAll, cleared}

-- the planned writes of a transaction and of what its login has used lead to those rows of the book
pub record MovesLead (b : Book) (p : Plan) (rows : List TransactionRecord) (used : List UsageRecord) : Type 0 where
  pub transactions : Leads same_key set_transaction p.transaction rows (AreTransactions (day_of b.zone) b.history)
  pub usage : Leads same_day set_usage p.usage used (AreUsage (day_of b.zone) b.history)

-- With the open transactions of the runs that are retired closed, in any order, with the replies of these runs
-- cleared, with the planned answer after the others, the count of answers set and the planned writes made, the tables
-- are the rows of the book.
pub record LeadTo (b : Book) (t : Tables) (p : Plan) : Type 0 where
  pub setting : IsSetting b (record t.setting { arrivals = p.arrivals })
  pub answers : cleared p.given_up t.answers ++ p.answer ∷ [] ≡ answer_rows b.history
  pub moves : (these : List TransactionRecord) → AreToClose p.given_up t.transactions these
      → LeadsAll these t.transactions t.usage (MovesLead b p)
  pub limits : Leads same_from set_limit p.limit t.limits (AreLimits b.history)
  pub retired : Leads same_host set_run p.retired t.retired (AreRetired b.history)
