use Rattle.mq_settings.proofs.TableNames.{IsSearched}
use Rattle.mq_settings.proofs.settings.table.least_unknown.Given as goal

-- the names so far are keys
abbrev pub invariant-loop-name : goal.invariant-loop-name
invariant-loop-name l = IsSearched l.keys l.table.entries l.name-iterator
