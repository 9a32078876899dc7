-- What an audit answers of a store.
use Rattle.std.specs.Prelude.{ℕ}
use Rattle.sqlite.specs.Effect.{Database}
use Rattle.mq_ledger.specs.declared.zone.Zone.{Zone}
use Rattle.mq_ledger.specs.Day.{day_of}
use Rattle.mq_rows.specs.declared.audited.Audit.{Audit}
use Rattle.mq_rows.specs.declared.audited.Audit.TheVariants.{Sound, Wrong}
use Rattle.mq_rows.specs.Audit.{Figures, IsAudited}
use Rattle.mq_tables.specs.Figures.{HasAuditTables, HasFigures, HaveSameRows}
use Rattle.mq_store.specs.declared.auditing.RowCounts.{RowCounts}

-- The answer is that of the figures, in some order of the rows.
pub record IsAuditOf (zone : Zone) (default : ℕ) (f : Figures) (a : Audit) : Type 0 where
  pub read : Figures
  pub same : HaveSameRows f read
  pub audited : IsAudited (day_of zone) default read a

-- so it is of the figures of all rows that the store has
abbrev pub IsAuditOfAll : Zone → ℕ → Database → Audit → Type 0
IsAuditOfAll zone default db a = (f : Figures) → HasFigures db f → IsAuditOf zone default f a

-- It is, and where the store has the three tables, its rows have figures, whatever wrote them.
pub record IsAuditIn (zone : Zone) (default : ℕ) (db : Database) (a : Audit) : Type 0 where
  pub of_all : IsAuditOfAll zone default db a
  pub there : HasAuditTables db.schema → (f : Figures) × HasFigures db f

-- so many rows an audit of the store read, which found each pair right
abbrev pub AreCounted : Zone → ℕ → Database → RowCounts → Type 0
AreCounted zone default db c = IsAuditIn zone default db (Sound c.days c.transactions)

-- it says that each pair is right
abbrev pub IsRightAnswer : Audit → Type 0
IsRightAnswer (Sound days transactions) = Unit {0}
IsRightAnswer (Wrong login day) = ⊥
