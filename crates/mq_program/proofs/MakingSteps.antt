-- What is printed of a ledger that was made.
use Rattle.std.proofs.Common.{ℕ, List, Option, Some, None}
use Rattle.mq_program.specs.Making.{PrintsMade, PrintsMadeIn}

-- the line of a path is that of some path
pub some_path : (path : Option (List ℕ)) (old new : Option (List ℕ)) → PrintsMadeIn path old new → PrintsMade old new
some_path None old new printed = absurd printed
some_path (Some path) old new printed = (path, printed)
