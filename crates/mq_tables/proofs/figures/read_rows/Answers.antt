use Rattle.std.proofs.Common.{◌≡◌, List, [], refl, subst, rules, arith}
use Rattle.mq_tables.proofs.Words.{CommitsShowing, FailsToQuery, HasCleanDisk, Row, Shown, Survives, state}
use Rattle.mq_tables.specs.Figures.{Took, text_of}
use Rattle.mq_lemmas.proofs.Options.{on_err}
use Rattle.mq_tables.proofs.audits.Rows.{begun, survives, shown_before, not_asked, took_none}
use Rattle.mq_tables.proofs.figures.read_rows.Goals as goal

pub returns-in_err-rows-clause-left : goal.returns-in_err-rows-clause-left
returns-in_err-rows-clause-left g c clean =
    let old = state g.S.Store c.args.connection.now in
    let new = state g.S.Store c.query.follows.lender-at-none in
    let held = c.query.follows.holds-at-none in
    let failed : FailsToQuery c.text.result.now [] old new c.in_err-rows.field-0.0 = (rw c.in_err-rows.was at held).err clean in
    on_err c.from_residual.result _ (not_asked c.args.table old new c.in_err-rows.field-0.0 (rw c.text.ensures at failed))

pub returns-in_err-rows-clause-survives : goal.returns-in_err-rows-clause-survives
returns-in_err-rows-clause-survives g c =
    let old = state g.S.Store c.args.connection.now in
    let new = state g.S.Store c.query.follows.lender-at-none in
    let held = c.query.follows.holds-at-none in
    let kept : Survives old new (CommitsShowing c.text.result.now [] old) = search rules in
    survives c.args.table old new (rw c.text.ensures at kept)

pub rows-init : goal.rows-init
rows-init g c =
    let made = c.in_ok-rows.ensures in (
      refl,
      survives c.args.table _ _ (rw c.text.ensures at made.survives),
      made.mode c.requires.autocommit,
      λ clean. let first = begun g.S.Store c.args.table c.args.connection.now _ (rw c.text.ensures at (made.begun clean)) in ([], first.0, first.1, took_none c.args.table c.args.books.now),
    )

pub returns-in_default-clause-took : goal.returns-in_default-clause-took
returns-in_default-clause-took g c clean =
    let old = state g.S.Store c.args.connection.now in
    let moved = c.next.follows.holds-at-none in
    let now = c.next.follows.lender-at-none.conn.now in
    let late : HasCleanDisk (state g.S.Store now) = search rules in
    let was = c.rows.invariant.3 (omega (arith, moved.survives.clean)) in
    let shown = (rw (c.in_ok-row.was, c.in_default.is) at (moved.ok late)) (text_of c.args.table) [] was.0 was.1 in
    let all : Shown (text_of c.args.table) [] old (state g.S.Store now) was.0 = shown_before c.args.table old _ (state g.S.Store now) was.0 was.2 shown in
    let taken : (rows : List Row) × Shown (text_of c.args.table) [] old (state g.S.Store now) rows × Took c.args.table rows c.args.books.now c.rows.books = (was.0, all, was.3) in
    let same : now ≡ c.connection-in_default-1.given.0 = search rules in
    subst (λ h. (rows : List Row) × Shown (text_of c.args.table) [] old (state g.S.Store h) rows × Took c.args.table rows c.args.books.now c.rows.books) same taken
