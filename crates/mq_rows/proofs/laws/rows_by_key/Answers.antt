use Rattle.mq_rows.proofs.Words.{is_host, is_limit, is_transaction, is_usage, limit_row, retired_row, transaction_row, usage_row}
use Rattle.mq_rows.proofs.Lists.{find_of_those, those_are_found}
use Rattle.mq_rows.proofs.laws.rows_by_key.Goals as goal

pub returns-clause-transaction : goal.returns-clause-transaction
returns-clause-transaction c = λ day H rows t are. find_of_those (is_transaction t) rows (transaction_row day H t) (are t)

pub returns-clause-usage : goal.returns-clause-usage
returns-clause-usage c = λ day H rows l d are. find_of_those (is_usage l d) rows (usage_row day H l d) (are l d)

pub returns-clause-limit : goal.returns-clause-limit
returns-clause-limit c = λ H rows l d are. find_of_those (is_limit l d) rows (limit_row H l d) (are l d)

pub returns-clause-only_usage : goal.returns-clause-only_usage
returns-clause-only_usage c = λ day H rows l d are. those_are_found (is_usage l d) rows (usage_row day H l d) (are l d)

pub returns-clause-retired : goal.returns-clause-retired
returns-clause-retired c = λ H rows h are. find_of_those (is_host h) rows (retired_row H h) (are h)
