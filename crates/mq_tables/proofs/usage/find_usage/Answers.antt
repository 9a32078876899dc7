use Rattle.mq_rows.specs.Rows.{is_usage}
use Rattle.mq_tables.specs.Lent.{totals_row, IsShownAs}
use Rattle.mq_tables.proofs.ByKey.{usage_is}
use Rattle.mq_tables.proofs.Chain.{is_made}
use Rattle.mq_tables.proofs.Finds.{found_after}
use Rattle.mq_tables.proofs.usage.find_usage.Goals as goal

pub returns : goal.returns
returns g c =
    let login = c.args.login.now in
    let day = c.args.day in
    is_made c.first_usage.result c.in_ok-rows.ensures (λ shown. found_after (is_usage login day) totals_row (IsShownAs login day) (usage_is login day) (λ t. t.usage) _ _ c.first_usage.result shown (rw c.as_slice.ensures.value at c.first_usage.ensures))
