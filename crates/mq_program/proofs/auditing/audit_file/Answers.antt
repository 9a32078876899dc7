use Rattle.std.proofs.Common.{refl, sym, subst}
use Rattle.sqlite.specs.Files.{file_state}
use Rattle.sqlite.specs.WalFiles.{image_at}
use Rattle.mq_store.specs.Soundness.{HasKept}
use Rattle.mq_program.specs.Opened.{AreCountsIn, MeansFile}
use Rattle.mq_program.proofs.auditing.audit_file.Goals as goal

pub returns-clause-printed : goal.returns-clause-printed
returns-clause-printed g c =
    let found = c.in_ok-ledger.ledger.found in
    (found.days, found.transactions, c.in_ok-ledger-2.ensures.printed)

pub returns-clause-audited : goal.returns-clause-audited
returns-clause-audited g c =
    let settings = c.args.settings.now in
    let opened = c.in_ok-ledger.ledger in
    let counts = subst (λ l. HasKept (file_state l.connection) → AreCountsIn settings.zone settings.default (image_at g.S.Start) opened.found.days opened.found.transactions)
    (sym c.in_ok-ledger-2.ensures.same) (c.in_ok-ledger.ensures.counts refl) in
    λ kept. (opened.found.days, opened.found.transactions, counts kept, c.in_ok-ledger-2.ensures.printed)

pub returns-clause-rows : goal.returns-clause-rows
returns-clause-rows g c =
    let settings = c.args.settings.now in
    subst (λ l. HasKept (file_state l.connection) → MeansFile settings.zone settings.default (image_at g.S.Start) (file_state l.connection)) (sym c.in_ok-ledger-2.ensures.same)
    (c.in_ok-ledger.ensures.rows refl)
