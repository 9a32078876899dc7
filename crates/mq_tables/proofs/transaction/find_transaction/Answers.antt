use Rattle.mq_rows.specs.Rows.{is_transaction}
use Rattle.mq_tables.specs.Lent.{standing_row, IsTransactionShown}
use Rattle.mq_tables.proofs.ByKey.{transaction_is}
use Rattle.mq_tables.proofs.Finds.{found_after}
use Rattle.mq_tables.proofs.transaction.find_transaction.Goals as goal

pub returns-clause-found : goal.returns-clause-found
returns-clause-found g c clean =
    let host = c.args.host.now in
    let run = c.args.run in
    let txn = c.args.txn in
    found_after (is_transaction (record { host = host; run = run; txn = txn })) standing_row (IsTransactionShown host run txn) (transaction_is host run txn) (λ t. t.transactions) _ _ c.first_transaction.result (c.in_ok-rows.ensures.found clean)
    (rw c.as_slice.ensures.value at c.first_transaction.ensures.shown)
