-- What the reading of the settings, of the rule and of the floors does to a store, whatever the store is.
use Rattle.std.specs.Prelude.{◌≡◌, ℕ, List, [], None, Option, Result, Ok, Err, Vec, IsTrue, codes}
use Rattle.std.specs.declared.alloc.Global.{Global}
use Rattle.sqlite.specs.Order.{Row}
use Rattle.sqlite.specs.Tree.{Trees}
use Rattle.sqlite.specs.declared.error.Error.{Error}
use Rattle.sqlite.specs.State.{State, QueriesRow, Shown, FailsToQuery}
use Rattle.mq_tables.specs.declared.setting.Setting.{Setting}
use Rattle.mq_tables.specs.Settings.{reading}

-- the query for the settings
abbrev pub setting_text : List ℕ
setting_text = codes "SELECT version, minutes, cap FROM setting WHERE id = 1"

-- the query for the rule
abbrev pub rule_text : List ℕ
rule_text = codes "SELECT bytes FROM rule WHERE id = 1"

-- the query for all floors
abbrev pub floors_text : List ℕ
floors_text = codes "SELECT host, run FROM retired"

-- the connection with no limit on steps
abbrev pub unlimited : State → State
unlimited s = record s { step_limit = None }

-- what is read is what the store answers to the query for the settings
pub record IsRead (old new : State) (r : Result (Option Setting) Error) : Type 0 where
  pub answer : Result Row Error
  pub queried : QueriesRow setting_text [] (unlimited old) new answer
  pub read_is : r ≡ reading answer

-- nothing is written, and a crash leaves what it left before
pub record Spares (old new : State) : Type 0 where
  pub was_open : IsTrue new.is_open → IsTrue old.is_open
  pub now : IsTrue new.is_open → new.now ≡ old.now
  pub committed : IsTrue new.is_open → new.committed ≡ old.committed
  pub crash : (db : Trees) → new.may_leave db → old.may_leave db

-- what is read is what the store answers to the query for the rule
abbrev pub IsRuleRead : State → State → Result Row Error → Type 0
IsRuleRead old new read = QueriesRow rule_text [] (unlimited old) new read

-- what is read is what the store answers to the query for all floors
abbrev pub AreFloorsRead : State → State → Result (Vec Row Global) Error → Type 0
AreFloorsRead old new (Ok rows) = Shown floors_text [] (unlimited old) new rows.items
AreFloorsRead old new (Err e) = FailsToQuery floors_text [] (unlimited old) new e
