-- The tables, and when they are the rows of a history.
use Rattle.std.specs.Prelude.{◌≡◌, ℕ, List, [], ◌∷◌, filter, Option, Some, None}
use Rattle.mq_ledger.specs.declared.entry.Entry.{Entry}
use Rattle.mq_ledger.specs.Day.{day_of}
use Rattle.mq_ledger.specs.History.{Transaction}
use Rattle.mq_ledger.specs.Legal.{Book}
use Rattle.mq_rows.specs.declared.record.SettingRecord.{SettingRecord}
use Rattle.mq_rows.specs.declared.record.AnswerRecord.{AnswerRecord}
use Rattle.mq_rows.specs.declared.record.TransactionRecord.{TransactionRecord}
use Rattle.mq_rows.specs.declared.record.UsageRecord.{UsageRecord}
use Rattle.mq_rows.specs.declared.record.LimitRecord.{LimitRecord}
use Rattle.mq_rows.specs.declared.record.RetiredRecord.{RetiredRecord}
use Rattle.mq_rows.specs.Rows.{IsSetting, answer_rows, transaction_row, usage_row, limit_row, retired_row}
use Rattle.mq_rows.specs.Rows.{is_transaction, is_usage, is_limit, is_host}

-- the tables' rows: that of the settings with the rule, which has a table of its own from version 2 on; the answers in the
-- order of n; the rows of the others in any order; those of the floors have a table of their own from version 3 on
pub record Tables : Type 0 where
  pub setting : SettingRecord
  pub answers : List AnswerRecord
  pub transactions : List TransactionRecord
  pub usage : List UsageRecord
  pub limits : List LimitRecord
  pub retired : List RetiredRecord

-- the one, or none
abbrev pub those : {R : Type 0} → Option R → List R
those None = []
those (Some r) = r ∷ []

-- the rows are those of the history's transactions: of each the one, once, and no others
abbrev pub AreTransactions : (ℕ → ℕ) → List Entry → List TransactionRecord → Type 0
AreTransactions day H rows = (t : Transaction) → filter (is_transaction t) rows ≡ those (transaction_row day H t)

-- the rows are those of what the logins have used on their days: of each pair the one, once, and no others
abbrev pub AreUsage : (ℕ → ℕ) → List Entry → List UsageRecord → Type 0
AreUsage day H rows = (l : List ℕ) (d : ℕ) → filter (is_usage l d) rows ≡ those (usage_row day H l d)

-- the rows are those of the limits that were set: of each login and day the one, once, and no others
abbrev pub AreLimits : List Entry → List LimitRecord → Type 0
AreLimits H rows = (l : List ℕ) (d : ℕ) → filter (is_limit l d) rows ≡ those (limit_row H l d)

-- the rows are those of the floors: of each host the one, once, and no others
abbrev pub AreRetired : List Entry → List RetiredRecord → Type 0
AreRetired H rows = (h : List ℕ) → filter (is_host h) rows ≡ those (retired_row H h)

-- the tables are the rows of the history, with its zone and its default limit
pub record AreRows (b : Book) (t : Tables) : Type 0 where
  pub setting : IsSetting b t.setting
  pub answers : t.answers ≡ answer_rows b.history
  pub transactions : AreTransactions (day_of b.zone) b.history t.transactions
  pub usage : AreUsage (day_of b.zone) b.history t.usage
  pub limits : AreLimits b.history t.limits
  pub retired : AreRetired b.history t.retired
