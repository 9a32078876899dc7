-- Parameters of statements, and what is read of the rows of an answer.
use Rattle.std.specs.Prelude.{◌≡◌, ◌<◌, ◌^◌, ℕ, ℤ, pos, List, [], ◌∷◌, Option, Some, not}
use Rattle.std.specs.Ordering.{int_eq}
use Rattle.sqlite.specs.Order.{Row, column}
use Rattle.sqlite.specs.declared.types.Value.TheVariants.{Int, Blob}
use Rattle.mq_request.specs.declared.message.Id.{Id}
use Rattle.mq_rows.specs.declared.record.AnswerRecord.{AnswerRecord}
use Rattle.mq_rows.specs.declared.record.TransactionRecord.{TransactionRecord}
use Rattle.mq_rows.specs.declared.record.UsageRecord.{UsageRecord}
use Rattle.mq_rows.specs.declared.record.LimitRecord.{LimitRecord}
use Rattle.mq_rows.specs.declared.record.RetiredRecord.{RetiredRecord}
use Rattle.mq_tables.specs.Records.{bit, IsFirstBy}

-- the parameters of the INSERT of an answer
abbrev pub answer_params : AnswerRecord → Row
answer_params a =
    Int (pos a.n) ∷ Blob a.id.host ∷ Int (pos a.id.run) ∷ Int (pos a.id.number) ∷ Blob a.request ∷ Blob a.reply ∷ []

-- the parameters of a query by a login and a day
abbrev pub key_params : List ℕ → ℕ → Row
key_params login day = Blob login ∷ Int (pos day) ∷ []

-- the parameters of the UPDATE of totals
abbrev pub totals_params : UsageRecord → Row
totals_params u = Int (pos u.settled) ∷ Int (pos u.reserved) ∷ Blob u.login ∷ Int (pos u.day) ∷ []

-- what the query for totals shows
abbrev pub totals_row : UsageRecord → Row
totals_row u = Int (pos u.settled) ∷ Int (pos u.reserved) ∷ []

-- what the row of that login and day shows
pub record IsShownAs (l : List ℕ) (d : ℕ) (row : Row) (u : UsageRecord) : Type 0 where
  pub login : u.login ≡ l
  pub day : u.day ≡ d
  pub settled : column row 0 ≡ Int (pos u.settled)
  pub reserved : column row 1 ≡ Int (pos u.reserved)

-- no row, or what the first shows
abbrev pub IsFirst : List ℕ → ℕ → List Row → Option UsageRecord → Type 0
IsFirst login day = IsFirstBy (IsShownAs login day)

-- the parameters of the UPDATE of a transaction
abbrev pub standing_params : TransactionRecord → Row
standing_params t =
    Int (pos t.held) ∷ Int (pos t.settled) ∷ Int (pos (bit t.closed)) ∷
    Blob t.host ∷ Int (pos t.run) ∷ Int (pos t.txn) ∷ []

-- the parameters of the query for a transaction
abbrev pub transaction_key : List ℕ → ℕ → ℕ → Row
transaction_key host run txn = Blob host ∷ Int (pos run) ∷ Int (pos txn) ∷ []

-- what the query for a transaction shows
abbrev pub standing_row : TransactionRecord → Row
standing_row t =
    Blob t.login ∷ Int (pos t.moment) ∷ Int (pos t.day) ∷
    Int (pos t.held) ∷ Int (pos t.settled) ∷ Int (pos (bit t.closed)) ∷ []

-- what the row of that transaction shows
pub record IsTransactionShown (h : List ℕ) (r x : ℕ) (row : Row) (t : TransactionRecord) : Type 0 where
  pub host : t.host ≡ h
  pub run : t.run ≡ r
  pub txn : t.txn ≡ x
  pub login : column row 0 ≡ Blob t.login
  pub moment : column row 1 ≡ Int (pos t.moment)
  pub day : column row 2 ≡ Int (pos t.day)
  pub held : column row 3 ≡ Int (pos t.held)
  pub settled : column row 4 ≡ Int (pos t.settled)
  pub closed : (n : ℤ) × (column row 5 ≡ Int n) × (t.closed ≡ not (int_eq n (pos 0)))

-- no row, or what the first shows
abbrev pub IsFirstTransaction : List ℕ → ℕ → ℕ → List Row → Option TransactionRecord → Type 0
IsFirstTransaction h r x = IsFirstBy (IsTransactionShown h r x)

-- the parameters of the UPDATE of a limit
abbrev pub cap_params : LimitRecord → Row
cap_params c = Int (pos c.cap) ∷ Blob c.login ∷ Int (pos c.day) ∷ []

-- the parameter of the query for a floor
abbrev pub host_params : List ℕ → Row
host_params host = Blob host ∷ []

-- the parameters of the UPDATE of a floor
abbrev pub floor_params : RetiredRecord → Row
floor_params r = Int (pos r.run) ∷ Blob r.host ∷ []

-- what the query for a floor shows
abbrev pub floor_row : RetiredRecord → Row
floor_row r = Int (pos r.run) ∷ []

-- what the row of that host shows
pub record IsFloorShown (h : List ℕ) (row : Row) (r : RetiredRecord) : Type 0 where
  pub host : r.host ≡ h
  pub run : column row 0 ≡ Int (pos r.run)
  pub fits : r.run < 2 ^ 63

-- no row, or what the first shows
abbrev pub IsFirstFloor : List ℕ → List Row → Option RetiredRecord → Type 0
IsFirstFloor h = IsFirstBy (IsFloorShown h)

-- the parameters of the query for an answer
abbrev pub id_key : Id → Row
id_key id = Blob id.host ∷ Int (pos id.run) ∷ Int (pos id.number) ∷ []

-- what the query for an answer shows
abbrev pub bodies_row : AnswerRecord → Row
bodies_row a = Int (pos a.n) ∷ Blob a.request ∷ Blob a.reply ∷ []

-- what the row of that number shows
pub record IsAnswerShown (number : Id) (row : Row) (a : AnswerRecord) : Type 0 where
  pub id : a.id ≡ number
  pub n : column row 0 ≡ Int (pos a.n)
  pub request : column row 1 ≡ Blob a.request
  pub reply : column row 2 ≡ Blob a.reply

-- no row, or what the first shows
abbrev pub IsFirstAnswer : Id → List Row → Option AnswerRecord → Type 0
IsFirstAnswer number = IsFirstBy (IsAnswerShown number)

-- a whole number from 0 on, of 64 bits with its sign
abbrev pub IsNaturalAt : Row → ℕ → ℕ → Type 0
IsNaturalAt row at n = (column row at ≡ Int (pos n)) × (n < 2 ^ 63)

-- there is a row, and this is the number in the first
abbrev pub IsFirstNatural : List Row → ℕ → Type 0
IsFirstNatural rows n = IsFirstBy (λ row. IsNaturalAt row 0) rows (Some n)
