-- The rows of the tables that an audit reads, whatever their columns hold.
use Rattle.std.specs.Prelude.{◌≡◌, ℕ, ℤ, List, [], ◌∷◌, ◌++◌, codes, map, drop}
use Rattle.std.specs.List.Sorted.{IsPermutation}
use Rattle.sqlite.specs.Effect.{Database}
use Rattle.sqlite.specs.Order.{Row, column}
use Rattle.sqlite.specs.Schema.{Schema}
use Rattle.sqlite.specs.declared.types.Value.TheVariants.{Int, Blob}
use Rattle.mq_rows.specs.declared.audited.LimitFigures.{LimitFigures}
use Rattle.mq_rows.specs.declared.audited.TransactionFigures.{TransactionFigures}
use Rattle.mq_rows.specs.declared.audited.UsageFigures.{UsageFigures}
use Rattle.mq_ledger.specs.declared.zone.Zone.{Zone}
use Rattle.mq_rows.specs.declared.auditing.Books.{Books}
use Rattle.mq_rows.specs.Audit.{Figures}
use Rattle.mq_rows.specs.Books.{AreBooksOf, no_rows}
use Rattle.mq_tables.specs.declared.figures.Table.{Table}
use Rattle.mq_tables.specs.declared.figures.Table.TheVariants.{Usage, Transactions, Limits}
use Rattle.mq_tables.specs.Places.{IsTransIn, IsUsageIn, IsCeilingIn}

-- a row of `usage`, all of which its query shows
abbrev pub usage_cells : UsageFigures → Row
usage_cells u = Blob u.pair.login ∷ Int u.pair.day ∷ Int u.settled ∷ Int u.reserved ∷ []

-- a row of `ceiling`, all of which its query shows
abbrev pub limit_cells : LimitFigures → Row
limit_cells c = Blob c.pair.login ∷ Int c.pair.day ∷ Int c.cap ∷ []

-- what the query for transactions shows
abbrev pub transaction_cells : TransactionFigures → Row
transaction_cells t =
    Blob t.pair.login ∷ Int t.pair.day ∷ Int t.moment ∷ Int t.held ∷ Int t.settled ∷ []

-- a whole row of transactions
pub record WholeTransaction : Type 0 where
  pub host : List ℕ
  pub run : ℤ
  pub txn : ℤ
  pub figures : TransactionFigures
  pub closed : ℤ

-- its cells, as the table has them
abbrev pub whole_cells : WholeTransaction → Row
whole_cells w =
    Blob w.host ∷ Int w.run ∷ Int w.txn ∷ Blob w.figures.pair.login ∷ Int w.figures.moment ∷
    Int w.figures.pair.day ∷ Int w.figures.held ∷ Int w.figures.settled ∷ Int w.closed ∷ []

-- The schema has the three tables that an audit reads.
pub record HasAuditTables (schema : Schema) : Type 0 where
  pub trans_tree : ℕ
  pub usage_tree : ℕ
  pub ceiling_tree : ℕ
  pub trans : IsTransIn schema trans_tree
  pub usage : IsUsageIn schema usage_tree
  pub ceiling : IsCeilingIn schema ceiling_tree

-- the rows, without their rowids, have the cells of these, each once, in any order
abbrev pub HaveCells : {R : Type 0} → (R → Row) → List Row → List R → Type 0
HaveCells cells rows all = IsPermutation (map (drop 1) rows) (map cells all)

-- The store has the three tables, and these are the figures of all their rows.
pub record HasFigures (db : Database) (f : Figures) : Type 0 where
  pub tables : HasAuditTables db.schema
  pub whole : List WholeTransaction
  pub holds_trans : HaveCells whole_cells (db.trees tables.trans_tree) whole
  pub holds_usage : HaveCells usage_cells (db.trees tables.usage_tree) f.usage
  pub holds_ceiling : HaveCells limit_cells (db.trees tables.ceiling_tree) f.limits
  pub transactions : f.transactions ≡ map (λ w. w.figures) whole

-- what is read of a row

pub record IsUsageRead (row : Row) (u : UsageFigures) : Type 0 where
  pub login : column row 0 ≡ Blob u.pair.login
  pub day : column row 1 ≡ Int u.pair.day
  pub settled : column row 2 ≡ Int u.settled
  pub reserved : column row 3 ≡ Int u.reserved

pub record IsTransactionRead (row : Row) (t : TransactionFigures) : Type 0 where
  pub login : column row 0 ≡ Blob t.pair.login
  pub day : column row 1 ≡ Int t.pair.day
  pub moment : column row 2 ≡ Int t.moment
  pub held : column row 3 ≡ Int t.held
  pub settled : column row 4 ≡ Int t.settled

pub record IsLimitRead (row : Row) (c : LimitFigures) : Type 0 where
  pub login : column row 0 ≡ Blob c.pair.login
  pub day : column row 1 ≡ Int c.pair.day
  pub cap : column row 2 ≡ Int c.cap

-- the columns that are read

abbrev pub usage_columns : Row → Row
usage_columns row = column row 0 ∷ column row 1 ∷ column row 2 ∷ column row 3 ∷ []

abbrev pub transaction_columns : Row → Row
transaction_columns row = column row 0 ∷ column row 1 ∷ column row 2 ∷ column row 3 ∷ column row 4 ∷ []

abbrev pub limit_columns : Row → Row
limit_columns row = column row 0 ∷ column row 1 ∷ column row 2 ∷ []

-- What is given to the books.

-- the query for all rows of the table
abbrev pub text_of : Table → List ℕ
text_of Usage = codes "SELECT login, day, settled, reserved FROM usage"
text_of Transactions = codes "SELECT login, day, moment, held, settled FROM trans"
text_of Limits = codes "SELECT login, day, cap FROM ceiling"

-- books of figures are then those of longer ones
abbrev pub Adds : (Figures → Figures) → Books → Books → Type 0
Adds longer old new = (zone : Zone) (default : ℕ) (f : Figures) → AreBooksOf zone default f old → AreBooksOf zone default (longer f) new

-- the books were given what is read of these rows of the table, in this order
abbrev pub Took : Table → List Row → Books → Books → Type 0
Took Usage rows old new =
    (read : List UsageFigures) × (map usage_columns rows ≡ map usage_cells read) × Adds (λ f. record f { usage = f.usage ++ read }) old new
Took Transactions rows old new =
    (read : List TransactionFigures) × (map transaction_columns rows ≡ map transaction_cells read)
    × Adds (λ f. record f { transactions = f.transactions ++ read }) old new
Took Limits rows old new =
    (read : List LimitFigures) × (map limit_columns rows ≡ map limit_cells read) × Adds (λ f. record f { limits = f.limits ++ read }) old new

-- each table's rows are the same, in any order
pub record HaveSameRows (f g : Figures) : Type 0 where
  pub usage : IsPermutation f.usage g.usage
  pub transactions : IsPermutation f.transactions g.transactions
  pub limits : IsPermutation f.limits g.limits

-- the books, where they had no row, are then those of all rows of the store
abbrev pub AreGiven : Database → Books → Books → Type 0
AreGiven db old new =
    (f : Figures) → HasFigures db f → (zone : Zone) (default : ℕ) → AreBooksOf zone default no_rows old
    → (read : Figures) × HaveSameRows f read × AreBooksOf zone default read new
