use Rattle.std.proofs.Common.{◌∷◌, []}
use Rattle.mq_frame.specs.Spelling.{with_length, id_bytes, in_4_bytes, in_8_bytes, transaction_bytes}
use Rattle.mq_frame.proofs.Appends.{two_appended, four_appended}
use Rattle.mq_frame.proofs.encode.put_transaction.Goals as goal

pub returns-clause-ok : goal.returns-clause-ok
returns-clause-ok c =
    let id = c.args.id.now in
    let login = c.args.login.now in
    two_appended c.args.out.now.items _ (c.args.kind ∷ []) (transaction_bytes id c.args.txn c.args.moment login) c.in_ok-push.ensures.items
    (four_appended _ _ (id_bytes id) (in_4_bytes c.args.txn) (in_8_bytes c.args.moment) (with_length login)
    c.in_ok-put_id.ensures.ok c.in_ok-put_u32.ensures.ok c.in_ok-put_u64.ensures.ok c.in_ok-put_login.ensures.ok)
