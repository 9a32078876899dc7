use Rattle.mq_rows.proofs.Words.{is_host, is_limit, is_transaction, is_usage, limit_row, retired_row, transaction_row, usage_row}
use Rattle.mq_rows.proofs.Lists.{in_any_order}
use Rattle.mq_rows.proofs.laws.any_order.Goals as goal

pub returns-clause-transactions : goal.returns-clause-transactions
returns-clause-transactions c = λ day H rows others order are t. in_any_order (is_transaction t) rows others order (transaction_row day H t) (are t)

pub returns-clause-usage : goal.returns-clause-usage
returns-clause-usage c = λ day H rows others order are l d. in_any_order (is_usage l d) rows others order (usage_row day H l d) (are l d)

pub returns-clause-limits : goal.returns-clause-limits
returns-clause-limits c = λ H rows others order are l d. in_any_order (is_limit l d) rows others order (limit_row H l d) (are l d)

pub returns-clause-retired : goal.returns-clause-retired
returns-clause-retired c = λ H rows others order are h. in_any_order (is_host h) rows others order (retired_row H h) (are h)
