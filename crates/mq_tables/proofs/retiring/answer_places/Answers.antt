use Rattle.mq_tables.specs.Retiring.{runs_params}
use Rattle.mq_tables.proofs.Selected.{is_read}
use Rattle.mq_tables.proofs.answers.Reads.{places_select, places_found}
use Rattle.mq_tables.proofs.retiring.answer_places.Goals as goal

pub returns : goal.returns
returns g c =
    is_read places_select (runs_params c.args.runs.now) c.query_all.result c.query_all.ensures.same_reference (rw c.runs_params.ensures at c.query_all.ensures.ok) (rw c.runs_params.ensures at c.query_all.ensures.err) c.query_all.ensures.survives (places_found c.args.runs.now)
