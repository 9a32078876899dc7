use Rattle.mq_rows.specs.Rows.{is_limit}
use Rattle.mq_tables.specs.Governing.{limit_row, IsLimitShown}
use Rattle.mq_tables.proofs.ByKey.{limit_so}
use Rattle.mq_tables.proofs.Chain.{is_made}
use Rattle.mq_tables.proofs.Finds.{found_after}
use Rattle.mq_tables.proofs.ceiling.find_limit.Goals as goal

pub returns : goal.returns
returns g c =
    let login = c.args.login.now in
    let day = c.args.day in
    is_made c.first_limit.result c.in_ok-rows.ensures (λ shown. found_after (is_limit login day) limit_row (IsLimitShown login) (limit_so login day) (λ t. t.limits) _ _ c.first_limit.result shown (rw c.as_slice.ensures.value at c.first_limit.ensures))
