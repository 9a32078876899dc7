-- What an integer column has a place for: a whole number of 64 bits with its sign.
use Rattle.std.specs.Prelude.{◌<◌, ◌^◌, Option, Some, None}
use Rattle.mq_rows.specs.declared.record.TransactionRecord.{TransactionRecord}
use Rattle.mq_rows.specs.declared.record.RetiredRecord.{RetiredRecord}
use Rattle.mq_rows.specs.declared.plan.Plan.{Plan}
use Rattle.mq_rows.specs.declared.plan.Runs.{Runs}
use Rattle.mq_rows.specs.declared.plan.Write.{Write}
use Rattle.mq_rows.specs.declared.plan.Write.TheVariants.{Keep, Insert, Update}

-- there is a place for its run and its moment
abbrev pub IsStorable : TransactionRecord → Type 0
IsStorable t = (t.run < 2 ^ 63) × (t.moment < 2 ^ 63)

-- so there is where there is a row
abbrev pub IsStorableIf : Option TransactionRecord → Type 0
IsStorableIf None = Unit {0}
IsStorableIf (Some t) = IsStorable t

-- there is a place for the run of a floor, where there is one
abbrev pub IsStorableFloor : Option RetiredRecord → Type 0
IsStorableFloor None = Unit {0}
IsStorableFloor (Some r) = r.run < 2 ^ 63

-- and for the first and the last of the runs
abbrev pub AreStorableRuns : Option Runs → Type 0
AreStorableRuns None = Unit {0}
AreStorableRuns (Some runs) = (runs.from < 2 ^ 63) × (runs.to < 2 ^ 63)

-- so there is in what is written of a floor
abbrev pub IsStorableFloorWrite : Write RetiredRecord → Type 0
IsStorableFloorWrite Keep = Unit {0}
IsStorableFloorWrite (Insert r) = r.run < 2 ^ 63
IsStorableFloorWrite (Update r) = r.run < 2 ^ 63

-- so there is in what is written
abbrev pub IsStorableWrite : Write TransactionRecord → Type 0
IsStorableWrite Keep = Unit {0}
IsStorableWrite (Insert t) = IsStorable t
IsStorableWrite (Update t) = IsStorable t

-- each number of the plan has a place
pub record IsStorablePlan (p : Plan) : Type 0 where
  pub place : p.answer.n < 2 ^ 63
  pub run : p.answer.id.run < 2 ^ 63
  pub arrivals : p.arrivals < 2 ^ 63
  pub transaction : IsStorableWrite p.transaction
  pub given_up : AreStorableRuns p.given_up
  pub retired : IsStorableFloorWrite p.retired
