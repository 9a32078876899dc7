use Rattle.mq_tables.proofs.audits.Strict.{figures_there}
use Rattle.mq_tables.proofs.figures.rows_have_figures.Goals as goal

pub returns : goal.returns
returns c = figures_there
