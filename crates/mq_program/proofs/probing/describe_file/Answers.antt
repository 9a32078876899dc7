use Rattle.std.proofs.Common.{refl}
use Rattle.sqlite.specs.Files.{file_state}
use Rattle.sqlite.specs.WalFiles.{image_at}
use Rattle.mq_program.specs.Opened.{path_in}
use Rattle.mq_program.proofs.DescribingSteps.{described_file}
use Rattle.mq_program.proofs.OpenedFiles.{means_still}
use Rattle.mq_program.proofs.probing.describe_file.Goals as goal

pub returns-clause-rows : goal.returns-clause-rows
returns-clause-rows g c kept =
    let before = file_state c.in_ok-ledger.ledger.connection in
    let after = file_state c.in_ok-ledger-2.ledger.connection in
    means_still c.args.settings.now.zone c.args.settings.now.default (image_at g.S.Start) before after kept (c.in_ok-ledger-2.ensures.same kept)
    (c.in_ok-ledger.ensures.rows refl (c.in_ok-ledger-2.ensures.kept kept))

pub returns-clause-described : goal.returns-clause-described
returns-clause-described g c kept =
    let before = c.in_ok-ledger.ledger in
    let after = c.in_ok-ledger-2.ledger in
    let settings = c.args.settings.now in
    let (zone_is, default_is) = c.in_ok-ledger.ensures.lent in
    described_file settings.zone before.zone settings.default before.default (image_at g.S.Start) (path_in settings.store) c.in_ok-path.path.now (file_state before.connection) (file_state after.connection) before.found _ _
    zone_is default_is c.in_ok-path.ensures (c.in_ok-ledger-2.ensures.same kept) (c.in_ok-ledger.ensures.counts refl (c.in_ok-ledger-2.ensures.kept kept)) (c.in_ok-ledger-2.ensures.described kept)
    (c.in_ok-ledger.ensures.rows refl (c.in_ok-ledger-2.ensures.kept kept))
