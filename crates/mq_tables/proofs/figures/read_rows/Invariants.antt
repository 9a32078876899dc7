use Rattle.std.proofs.Common.{◌≡◌, List, [], false}
use Rattle.mq_tables.proofs.Words.{HasCleanDisk, IsUnchanged, Row, Survives, state}
use Rattle.sqlite.specs.Given.{HasGiven}
use Rattle.mq_tables.specs.Figures.{Took, text_of}
use Rattle.mq_tables.proofs.figures.read_rows.Given as goal

-- the rows that were given so far were taken
abbrev pub invariant-rows : goal.invariant-rows
invariant-rows g l =
    let old = state g.S.Store l.fn.connection in
    let now = state g.S.Store l.rows.conn.now in
    (l.rows.conn.ghost_name ≡ l.initial.rows.conn.ghost_name) × Survives old now (λ _. ⊥) × (l.rows.conn.now.in_transaction ≡ false)
    × (HasCleanDisk now → (given : List Row) × HasGiven g.S.Store (text_of l.table) [] l.rows.conn.now given × IsUnchanged old now × Took l.table given l.fn.books l.books)
