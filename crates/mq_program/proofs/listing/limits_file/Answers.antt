use Rattle.std.proofs.Common.{refl}
use Rattle.sqlite.specs.Files.{file_state}
use Rattle.sqlite.specs.WalFiles.{image_at}
use Rattle.mq_program.proofs.ListingSteps.{listed_still}
use Rattle.mq_program.proofs.OpenedFiles.{means_still}
use Rattle.mq_program.proofs.listing.limits_file.Goals as goal

pub returns-clause-rows : goal.returns-clause-rows
returns-clause-rows g c kept =
    let before = file_state c.in_ok-ledger.ledger.connection in
    let after = file_state c.in_ok-ledger-2.ledger.connection in
    means_still c.args.settings.now.zone c.args.settings.now.default (image_at g.S.Start) before after kept (c.in_ok-ledger-2.ensures.same kept)
    (c.in_ok-ledger.ensures.rows refl (c.in_ok-ledger-2.ensures.kept kept))

pub returns-clause-listed : goal.returns-clause-listed
returns-clause-listed g c kept =
    listed_still c.args.form (file_state c.in_ok-ledger.ledger.connection).now (file_state c.in_ok-ledger-2.ledger.connection).now _ _ (c.in_ok-ledger-2.ensures.same kept) (c.in_ok-ledger-2.ensures.listed kept)
