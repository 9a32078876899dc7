-- The limits that a store has.
use Rattle.std.specs.Prelude.{List, map}
use Rattle.std.specs.List.Sorted.{IsPermutation}
use Rattle.sqlite.specs.Effect.{Database}
use Rattle.mq_ledger.specs.declared.entry.Entry.{Entry}
use Rattle.mq_rows.specs.declared.audited.LimitFigures.{LimitFigures}
use Rattle.mq_rows.specs.declared.record.LimitRecord.{LimitRecord}
use Rattle.mq_rows.specs.Audit.{Figures}
use Rattle.mq_rows.specs.Figured.{limit_figures}
use Rattle.mq_rows.specs.Tables.{AreLimits}
use Rattle.mq_tables.specs.Figures.{HasFigures}

-- they are all rows of the table of limits, in any order
abbrev pub AreLimitsIn : Database → List LimitFigures → Type 0
AreLimitsIn db limits = (f : Figures) → HasFigures db f → IsPermutation f.limits limits

-- They are the limits that a history set, in any order: of each login and day the one, once, with the last cap, and no
-- others.
pub record AreSet (H : List Entry) (limits : List LimitFigures) : Type 0 where
  pub rows : List LimitRecord
  pub set : AreLimits H rows
  pub same : IsPermutation (map limit_figures rows) limits
