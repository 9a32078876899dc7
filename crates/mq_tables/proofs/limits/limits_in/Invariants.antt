use Rattle.std.proofs.Common.{◌≡◌, map, take}
use Rattle.mq_tables.specs.Figures.{limit_columns, limit_cells}
use Rattle.mq_tables.proofs.limits.limits_in.Given as goal

-- the rows so far
abbrev pub invariant-loop-row : goal.invariant-loop-row
invariant-loop-row l = map limit_columns (take l.row-index l.rows) ≡ map limit_cells l.read.items
