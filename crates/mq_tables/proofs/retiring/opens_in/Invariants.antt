use Rattle.std.proofs.Common.{◌≡◌, map, take}
use Rattle.std.specs.Prelude.{All}
use Rattle.mq_rows.specs.Storable.{IsStorable}
use Rattle.mq_tables.specs.Retiring.{open_columns, open_row, IsOpenOf}
use Rattle.mq_tables.proofs.retiring.opens_in.Given as goal

-- the rows so far
abbrev pub invariant-loop-row : goal.invariant-loop-row
invariant-loop-row l =
    (map open_columns (take l.row-index l.rows) ≡ map open_row l.read.items) × All (IsOpenOf l.host) l.read.items × All IsStorable l.read.items
