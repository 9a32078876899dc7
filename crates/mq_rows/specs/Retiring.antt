-- What a retire does: the runs that it retires, and the rows that it leads to.
use Rattle.std.specs.Prelude.{◌≡◌, ℕ, ◌-◌, List, Bool, true, false, Option, Some}
use Rattle.mq_request.specs.declared.message.Id.{Id}
use Rattle.mq_request.specs.declared.message.Request.{Request}
use Rattle.mq_request.specs.declared.message.Request.TheVariants.{Retire}
use Rattle.mq_request.specs.declared.message.Reply.TheVariants.{Retired}
use Rattle.mq_ledger.specs.declared.entry.Entry.{Entry}
use Rattle.mq_ledger.specs.Arrivals.{id_of, floor, is_below}
use Rattle.mq_ledger.specs.History.{requests}
use Rattle.mq_rows.specs.declared.plan.Runs.{Runs}
use Rattle.mq_rows.specs.declared.record.TransactionRecord.{TransactionRecord}
use Rattle.mq_rows.specs.declared.record.UsageRecord.{UsageRecord}
use Rattle.mq_rows.specs.Plan.{IsOneIn, fits}
use Rattle.mq_rows.specs.Rows.{is_usage}
use Rattle.mq_rows.specs.Tables.{AreTransactions, AreUsage}

-- a request that retires runs
abbrev pub is_retire : Request → Bool
is_retire (Retire id) = true
is_retire _ = false

-- a retire as it enters the history: one whose own run is retired never does
abbrev pub retire_entry : Id → Entry
retire_entry id = record { request = Retire id; reply = Retired id }

-- the run of its number, where it has one, isn't below the floor
abbrev pub IsUnretired : List Entry → Request → Type 0
IsUnretired H r = (id : Id) → id_of r ≡ Some id → is_below (requests H) id ≡ false

-- the runs of its host from the floor on, below the retire's own
abbrev pub runs_below : List Entry → Id → Runs
runs_below H id = record { host = id.host; from = floor (requests H) id.host; to = id.run - 1 }

-- the rows are those of the history's transactions, and of what its logins have used
pub record AreMovesOf (day : ℕ → ℕ) (H : List Entry) (rows : List TransactionRecord) (used : List UsageRecord) : Type 0
  where
    pub transactions : AreTransactions day H rows
    pub usage : AreUsage day H used

-- the transaction can be closed: whatever row its login has of its day, what it holds is reserved there, and what is used
-- there is in range
abbrev pub CanBeClosed : TransactionRecord → List TransactionRecord → List UsageRecord → Type 0
CanBeClosed was rows used =
    (u : Option UsageRecord) → IsOneIn (is_usage was.login was.day) used u → fits (Some was) u ≡ true
