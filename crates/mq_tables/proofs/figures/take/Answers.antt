use Rattle.std.proofs.Common.{◌∷◌, [], ◌++◌, sym, subst}
use Rattle.std.specs.Prelude.{List}
use Rattle.sqlite.specs.Order.{Row}
use Rattle.mq_rows.specs.declared.auditing.Books.{Books}
use Rattle.mq_tables.specs.declared.figures.Table.{Table}
use Rattle.mq_tables.specs.Figures.{Took}
use Rattle.mq_tables.proofs.audits.Rows.{took_usage, took_transaction, took_limit}
use Rattle.mq_tables.proofs.figures.take.Goals as goal

abbrev Takes : Row → Books → Books → Table → Type 0
Takes row old new table = (rows : List Row) (first : Books) → Took table rows first old → Took table (rows ++ row ∷ []) first new

pub returns-in_ok-add_usage-in-Usage : goal.returns-in_ok-add_usage-in-Usage
returns-in_ok-add_usage-in-Usage c =
    subst (Takes c.args.row.now c.args.books.now c.add_usage.new.self) (sym c.in-Usage.is)
    (took_usage c.args.row.now c.in_ok-usage_of-in-Usage.field-0 c.in_ok-usage_of-in-Usage.ensures c.args.books.now c.add_usage.new.self c.in_ok-add_usage-in-Usage.ensures.ok)

pub returns-in_ok-add_transaction-in-Transactions : goal.returns-in_ok-add_transaction-in-Transactions
returns-in_ok-add_transaction-in-Transactions c =
    subst (Takes c.args.row.now c.args.books.now c.add_transaction.new.self) (sym c.in-Transactions.is)
    (took_transaction c.args.row.now c.in_ok-transaction_of-in-Transactions.field-0 c.in_ok-transaction_of-in-Transactions.ensures c.args.books.now c.add_transaction.new.self c.in_ok-add_transaction-in-Transactions.ensures.ok)

pub returns-in_ok-add_limit-in-Limits : goal.returns-in_ok-add_limit-in-Limits
returns-in_ok-add_limit-in-Limits c =
    subst (Takes c.args.row.now c.args.books.now c.add_limit.new.self) (sym c.in-Limits.is)
    (took_limit c.args.row.now c.in_ok-limit_of-in-Limits.field-0 c.in_ok-limit_of-in-Limits.ensures c.args.books.now c.add_limit.new.self c.in_ok-add_limit-in-Limits.ensures.ok)
