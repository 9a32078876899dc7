-- The rows that stand for typed records.
use Rattle.std.specs.Prelude.{◌≡◌, ◌+◌, ℕ, pos, Bool, true, false, List, [], ◌∷◌, map, drop, Option, Some, None}
use Rattle.std.specs.List.{AllByRecursion}
use Rattle.std.specs.List.Sorted.{IsPermutation}
use Rattle.sqlite.specs.declared.types.Value.TheVariants.{Null, Int, Blob}
use Rattle.sqlite.specs.Order.{Row}
use Rattle.sqlite.specs.View.{IsShaped}
use Rattle.sqlite_rules.specs.Lists.{Has}
use Rattle.sqlite_trees.specs.declared.store.Shape.TheVariants.{Table}
use Rattle.mq_rows.specs.declared.record.AnswerRecord.{AnswerRecord}
use Rattle.mq_rows.specs.declared.record.TransactionRecord.{TransactionRecord}
use Rattle.mq_rows.specs.declared.record.UsageRecord.{UsageRecord}
use Rattle.mq_rows.specs.declared.record.LimitRecord.{LimitRecord}
use Rattle.mq_rows.specs.declared.record.RetiredRecord.{RetiredRecord}

-- a column that stands for the rowid is kept as NULL
abbrev pub answer_fields : AnswerRecord → Row
answer_fields a =
    Int (pos a.n) ∷ Null ∷ Blob a.id.host ∷ Int (pos a.id.run) ∷ Int (pos a.id.number) ∷ Blob a.request ∷ Blob a.reply ∷ []

-- whether a transaction is closed, as its column has it
abbrev pub bit : Bool → ℕ
bit false = 0
bit true = 1

-- the other rows, as their tables have them after the rowid
abbrev pub transaction_fields : TransactionRecord → Row
transaction_fields t =
    Blob t.host ∷ Int (pos t.run) ∷ Int (pos t.txn) ∷ Blob t.login ∷ Int (pos t.moment) ∷ Int (pos t.day) ∷
    Int (pos t.held) ∷ Int (pos t.settled) ∷ Int (pos (bit t.closed)) ∷ []

abbrev pub usage_fields : UsageRecord → Row
usage_fields u = Blob u.login ∷ Int (pos u.day) ∷ Int (pos u.settled) ∷ Int (pos u.reserved) ∷ []

abbrev pub limit_fields : LimitRecord → Row
limit_fields c = Blob c.login ∷ Int (pos c.day) ∷ Int (pos c.cap) ∷ []

abbrev pub retired_fields : RetiredRecord → Row
retired_fields r = Blob r.host ∷ Int (pos r.run) ∷ []

-- numbered from here on, without a gap
abbrev pub AreNumbered : ℕ → List AnswerRecord → Type 0
AreNumbered n [] = Unit {0}
AreNumbered n (a ∷ more) = (a.n ≡ n) × AreNumbered (n + 1) more

-- the rows are the answers, numbered from 1 on
pub record HoldsAnswers (stored : List Row) (answers : List AnswerRecord) : Type 0 where
  pub rows : stored ≡ map answer_fields answers
  pub numbered : AreNumbered 1 answers

-- the rows, without their rowids, are those of the records, each once, in any order
pub record Holds {R : Type 0} (from : ℕ) (fields : R → Row) (rows : List Row) (records : List R) : Type 0 where
  pub numbered : IsShaped Table rows
  pub same : IsPermutation (map (drop from) rows) (map fields records)

-- so it is of `trans`, `usage`, `ceiling` and `retired`
abbrev pub HoldsTransactions : List Row → List TransactionRecord → Type 0
HoldsTransactions rows all = Holds 1 transaction_fields rows all

abbrev pub HoldsUsage : List Row → List UsageRecord → Type 0
HoldsUsage rows all = Holds 1 usage_fields rows all

abbrev pub HoldsLimits : List Row → List LimitRecord → Type 0
HoldsLimits rows all = Holds 1 limit_fields rows all

abbrev pub HoldsRetired : List Row → List RetiredRecord → Type 0
HoldsRetired rows all = Holds 1 retired_fields rows all

-- no record passes the test, or this is one that does
abbrev pub IsOneOf : {R : Type 0} → (R → Bool) → List R → Option R → Type 0
IsOneOf test all None = AllByRecursion (λ r. test r ≡ false) all
IsOneOf test all (Some r) = Has all r × (test r ≡ true)

-- no row, or what the first shows
abbrev pub IsFirstBy : {R : Type 0} → (Row → R → Type 0) → List Row → Option R → Type 0
IsFirstBy Shows rows None = rows ≡ []
IsFirstBy Shows rows (Some r) = (row : Row) × (more : List Row) × (rows ≡ row ∷ more) × Shows row r

-- nothing is shown, or in one row the one that it is
abbrev pub IsShownOne : {R A : Type 0} → (List R → Option A → Type 0) → (A → Row) → List R → List Row → Type 0
IsShownOne Is show all [] = Is all None
IsShownOne {R} {A} Is show all (row ∷ more) = (a : A) × Is all (Some a) × (row ≡ show a)
