use Rattle.mq_rows.proofs.Spans.{first_reserved, last_reserved}
use Rattle.mq_rows.proofs.laws.days_are_reserved.Goals as goal

pub returns-clause-first : goal.returns-clause-first
returns-clause-first c = first_reserved

pub returns-clause-last : goal.returns-clause-last
returns-clause-last c = last_reserved
