use Rattle.sqlite.specs.Files.{file_state}
use Rattle.sqlite.specs.State.{HasCleanDisk}
use Rattle.sqlite.specs.WalFiles.{image_at}
use Rattle.mq_program.proofs.OpenedFiles.{counted, means, made}
use Rattle.mq_program.proofs.store.ledger_of_settings.Goals as goal

pub returns-clause-rows : goal.returns-clause-rows
returns-clause-rows g c opened kept =
    let was = c.in_ok-connection.connection in
    let clean : HasCleanDisk (file_state was) = (c.in_ok-ledger.ensures.kept kept).clean in
    let (opens, live) = c.in_ok-connection.ensures.opened clean in
    means (image_at g.S.Start) (file_state was) c.trees_have_one_schema.ensures opens live (c.in_ok-connection.ensures.found clean) c.args.settings.now.zone c.args.settings.now.default (file_state c.in_ok-ledger.ledger.connection) (c.in_ok-ledger.ensures.rows opened kept)

pub returns-clause-made : goal.returns-clause-made
returns-clause-made g c create kept =
    let was = c.in_ok-connection.connection in
    let clean : HasCleanDisk (file_state was) = (c.in_ok-ledger.ensures.kept kept).clean in
    let (opens, live) = c.in_ok-connection.ensures.opened clean in
    made (image_at g.S.Start) (file_state was) c.trees_have_one_schema.ensures opens live (c.in_ok-connection.ensures.found clean) c.args.settings.now.zone c.args.settings.now.default (file_state c.in_ok-ledger.ledger.connection) c.empty_databases_have_no_table.ensures
    (c.in_ok-ledger.ensures.new create kept.clean)

pub returns-clause-counts : goal.returns-clause-counts
returns-clause-counts g c opened kept =
    let was = c.in_ok-connection.connection in
    let ledger = c.in_ok-ledger.ledger in
    let clean : HasCleanDisk (file_state was) = (c.in_ok-ledger.ensures.kept kept).clean in
    let (opens, live) = c.in_ok-connection.ensures.opened clean in
    counted (image_at g.S.Start) (file_state was) c.trees_have_one_schema.ensures opens live (c.in_ok-connection.ensures.found clean) c.args.settings.now.zone c.args.settings.now.default ledger.found.days ledger.found.transactions
    (c.in_ok-ledger.ensures.counts opened kept.clean)
