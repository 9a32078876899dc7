-- What giving runs up leaves of the tables, before the rest of the plan is written.
use Rattle.std.specs.Prelude.{ℕ, pos, List, Bool, ◌==◌, Option, Some}
use Rattle.std.specs.List.{list_any}
use Rattle.sqlite.specs.declared.types.Value.{Value}
use Rattle.sqlite.specs.declared.types.Value.TheVariants.{Int}
use Rattle.sqlite.specs.Effect.{Database}
use Rattle.sqlite.specs.Order.{Row, column}
use Rattle.mq_ledger.specs.Legal.{Book}
use Rattle.mq_rows.specs.declared.plan.Plan.{Plan}
use Rattle.mq_rows.specs.declared.plan.Runs.{Runs}
use Rattle.mq_rows.specs.declared.plan.Write.TheVariants.{Update}
use Rattle.mq_rows.specs.declared.record.AnswerRecord.{AnswerRecord}
use Rattle.mq_rows.specs.declared.record.TransactionRecord.{TransactionRecord}
use Rattle.mq_rows.specs.declared.record.UsageRecord.{UsageRecord}
use Rattle.mq_rows.specs.Plan.{same_key, set_transaction, same_day, set_usage, freed, abandoned_row, AreToClose, LeadsAll}
use Rattle.mq_rows.specs.Plan.{cleared}
use Rattle.mq_rows.specs.Rows.{is_usage}
use Rattle.mq_rows.specs.Tables.{Tables}
use Rattle.mq_rows.specs.Written.{MovesLead}
use Rattle.mq_tables.specs.Ledger.{HasLedger}
use Rattle.mq_tables.specs.Records.{IsOneOf}
use Rattle.mq_tables.specs.Retiring.{cleared_where}
use Rattle.mq_tables.specs.Updates.{LeadsWhereKeyed}

-- the tables with other rows of transactions and of what logins have used
abbrev pub with_rows : Tables → List TransactionRecord → List UsageRecord → Tables
with_rows t rows used = record t { transactions = rows; usage = used }

-- what one closing leaves
abbrev pub ClosesOne : TransactionRecord → Database → Database → Type 0
ClosesOne was old new =
    (t : Tables) → HasLedger old t → (u : Option UsageRecord) × IsOneOf (is_usage was.login was.day) t.usage u
    × LeadsWhereKeyed same_key set_transaction (Update (abandoned_row was)) t.transactions (λ rows.
    LeadsWhereKeyed same_day set_usage (freed was.held was.held u) t.usage (λ used. HasLedger new (with_rows t rows used)))

-- the tables are these, but for rows of transactions and of what logins have used from which the plan leads to the book
pub record HasMoved (t : Tables) (b : Book) (p : Plan) (db : Database) : Type 0 where
  pub rows : List TransactionRecord
  pub used : List UsageRecord
  pub holds : HasLedger db (with_rows t rows used)
  pub so : MovesLead b p rows used

-- where closing these leads to rows from which a plan leads to a book, those are the rows
abbrev pub ClosesAll : List TransactionRecord → Database → Database → Type 0
ClosesAll these old new =
    (t : Tables) → HasLedger old t → (b : Book) (p : Plan)
    → LeadsAll these t.transactions t.usage (MovesLead b p) → HasMoved t b p new

-- the place that a value gives, and 0 where it gives none
abbrev pub place_of : Value → ℕ
place_of (Int (pos n)) = n
place_of _ = 0

-- the place of an answer that a row shows first
abbrev pub place_in : Row → ℕ
place_in row = place_of (column row 0)

-- one of these rows shows that place
abbrev pub is_at : List Row → ℕ → Bool
is_at rows n = list_any (λ row. n == place_in row) rows

-- the answers at the places that these rows show have no reply any more
abbrev pub cleared_at : List Row → List AnswerRecord → List AnswerRecord
cleared_at rows answers = cleared_where (λ a. is_at rows a.n) answers

-- the answers at these places have no reply any more, and all else stays
abbrev pub ClearsPlaces : List Row → Database → Database → Type 0
ClearsPlaces rows old new =
    (t : Tables) → HasLedger old t → HasLedger new (record t { answers = cleared_at rows t.answers })

-- the replies of these runs are cleared
abbrev pub ClearsRuns : Runs → Database → Database → Type 0
ClearsRuns runs old new =
    (t : Tables) → HasLedger old t → HasLedger new (record t { answers = cleared (Some runs) t.answers })

-- so runs are given up: their replies are cleared, and their open transactions closed
abbrev pub GivesUp : Option Runs → Database → Database → Type 0
GivesUp runs old new =
    (t : Tables) → HasLedger old t → (b : Book) (p : Plan)
    → ((these : List TransactionRecord) → AreToClose runs t.transactions these
    → LeadsAll these t.transactions t.usage (MovesLead b p)) → HasMoved (record t { answers = cleared runs t.answers }) b p new
