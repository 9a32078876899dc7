use Rattle.mq_tables.specs.Lent.{id_key}
use Rattle.mq_tables.proofs.Selected.{is_read}
use Rattle.mq_tables.proofs.answers.Reads.{answer_select, answer_found}
use Rattle.mq_tables.proofs.answer.rows_of_number.Goals as goal

pub returns : goal.returns
returns g c =
    is_read answer_select (id_key c.args.id.now) c.query_all.result c.query_all.ensures.same_reference (rw c.id_params.ensures at c.query_all.ensures.ok) (rw c.id_params.ensures at c.query_all.ensures.err) c.query_all.ensures.survives (answer_found c.args.id.now)
