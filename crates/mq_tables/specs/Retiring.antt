-- What is read of the transactions and answers of runs that are given up, and what clearing a reply leaves.
use Rattle.std.specs.Prelude.{◌≡◌, ℕ, pos, List, [], ◌∷◌, map, Bool, false, ◌==◌, if◌then◌else◌}
use Rattle.sqlite.specs.Order.{Row, column}
use Rattle.sqlite.specs.declared.types.Value.TheVariants.{Int, Blob}
use Rattle.sqlite.specs.State.{State}
use Rattle.mq_rows.specs.declared.plan.Runs.{Runs}
use Rattle.mq_rows.specs.declared.record.AnswerRecord.{AnswerRecord}
use Rattle.mq_rows.specs.declared.record.TransactionRecord.{TransactionRecord}
use Rattle.mq_rows.specs.Tables.{Tables}
use Rattle.mq_tables.specs.Ledger.{HasLedger}

-- the parameters of the query for the open transactions of runs
abbrev pub open_params : Runs → Row
open_params runs = Blob runs.host ∷ Int (pos runs.from) ∷ Int (pos runs.to) ∷ Int (pos 0) ∷ []

-- what it shows of one
abbrev pub open_row : TransactionRecord → Row
open_row t =
    Int (pos t.run) ∷ Int (pos t.txn) ∷ Blob t.login ∷ Int (pos t.moment) ∷ Int (pos t.day) ∷ Int (pos t.held) ∷
    Int (pos t.settled) ∷ []

-- the columns that are read
abbrev pub open_columns : Row → Row
open_columns row =
    column row 0 ∷ column row 1 ∷ column row 2 ∷ column row 3 ∷ column row 4 ∷ column row 5 ∷ column row 6 ∷ []

-- what the row of an open transaction of that host shows
pub record IsOpenRead (h : List ℕ) (row : Row) (t : TransactionRecord) : Type 0 where
  pub host : t.host ≡ h
  pub closed : t.closed ≡ false
  pub run : column row 0 ≡ Int (pos t.run)
  pub txn : column row 1 ≡ Int (pos t.txn)
  pub login : column row 2 ≡ Blob t.login
  pub moment : column row 3 ≡ Int (pos t.moment)
  pub day : column row 4 ≡ Int (pos t.day)
  pub held : column row 5 ≡ Int (pos t.held)
  pub settled : column row 6 ≡ Int (pos t.settled)

-- each is open, and the host's
abbrev pub IsOpenOf : List ℕ → TransactionRecord → Type 0
IsOpenOf h t = (t.host ≡ h) × (t.closed ≡ false)

-- the parameters of the query for the answers of runs
abbrev pub runs_params : Runs → Row
runs_params runs = Blob runs.host ∷ Int (pos runs.from) ∷ Int (pos runs.to) ∷ []

-- what it shows of one
abbrev pub place_row : AnswerRecord → Row
place_row a = Int (pos a.n) ∷ []

-- the answer once its run is retired
abbrev pub without_reply : AnswerRecord → AnswerRecord
without_reply a = record a { reply = [] }

-- the answers that pass have no reply any more
abbrev pub cleared_where : (AnswerRecord → Bool) → List AnswerRecord → List AnswerRecord
cleared_where passes = map (λ a. if passes a then without_reply a else a)

-- the parameters of the UPDATE that clears a reply: no bytes, and the answer's place
abbrev pub clear_params : ℕ → Row
clear_params n = Blob [] ∷ Int (pos n) ∷ []

-- the answer at that place has no reply any more
abbrev pub ClearsAt : ℕ → State → State → Type 0
ClearsAt n old new =
    (t : Tables) → HasLedger old.now t
    → HasLedger new.now (record t { answers = cleared_where (λ a. a.n == n) t.answers })
