use Rattle.std.proofs.Common.{arith}
use Rattle.mq_tables.proofs.Words.{HasCleanDisk, state, unchanged_then}
use Rattle.mq_tables.specs.declared.figures.Table.TheVariants.{Usage, Transactions}
use Rattle.mq_lemmas.proofs.Options.{on_err}
use Rattle.mq_tables.proofs.audits.Rows.{all_given, left_after, unchanged}
use Rattle.mq_tables.proofs.figures.give_rows.Goals as goal

pub returns-in_err-read_rows-2-clause-left : goal.returns-in_err-read_rows-2-clause-left
returns-in_err-read_rows-2-clause-left g c clean =
    let s = state g.S.Store c.args.connection.now in
    let t = state g.S.Store c.read_rows.new.connection in
    let u = state g.S.Store c.read_rows-2.new.connection in
    let first : HasCleanDisk t = omega (arith, c.read_rows-2.ensures.survives.clean) in
    let one = c.in_ok-read_rows.ensures.took first in
    on_err c.from_residual-in_err-read_rows-2.result _ (left_after s t u (unchanged Usage s t one.0 one.1) (c.in_err-read_rows-2.ensures.left clean))

pub returns-in_err-read_rows-3-clause-left : goal.returns-in_err-read_rows-3-clause-left
returns-in_err-read_rows-3-clause-left g c clean =
    let s = state g.S.Store c.args.connection.now in
    let t = state g.S.Store c.read_rows.new.connection in
    let u = state g.S.Store c.read_rows-2.new.connection in
    let v = state g.S.Store c.read_rows-3.new.connection in
    let second : HasCleanDisk u = omega (arith, c.read_rows-3.ensures.survives.clean) in
    let first : HasCleanDisk t = omega (arith, second, c.read_rows-2.ensures.survives.clean) in
    let one = c.in_ok-read_rows.ensures.took first in
    let two = c.in_ok-read_rows-2.ensures.took second in
    on_err c.from_residual-in_err-read_rows-3.result _ (left_after s u v (unchanged_then s t u (unchanged Usage s t one.0 one.1) (unchanged Transactions t u two.0 two.1)) (c.in_err-read_rows-3.ensures.left clean))

pub returns-clause-given : goal.returns-clause-given
returns-clause-given g c clean =
    let s = state g.S.Store c.args.connection.now in
    let t = state g.S.Store c.read_rows.new.connection in
    let u = state g.S.Store c.read_rows-2.new.connection in
    let v = state g.S.Store c.read_rows-3.new.connection in
    let second : HasCleanDisk u = omega (arith, c.read_rows-3.ensures.survives.clean) in
    let first : HasCleanDisk t = omega (arith, second, c.read_rows-2.ensures.survives.clean) in
    let one = c.in_ok-read_rows.ensures.took first in
    let two = c.in_ok-read_rows-2.ensures.took second in
    let three = c.in_ok-read_rows-3.ensures.took clean in
    all_given s t u v c.args.books.now c.read_rows.new.books c.read_rows-2.new.books c.read_rows-3.new.books one.0 two.0 three.0 one.1 one.2 two.1 two.2 three.1 three.2
