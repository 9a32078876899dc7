use Rattle.mq_line.proofs.TextLaws.{splits, splits-only}
use Rattle.mq_line.proofs.laws.one_splitting.Goals as goal

pub returns-clause-whole : goal.returns-clause-whole
returns-clause-whole c text = (splits text).0

pub returns-clause-end : goal.returns-clause-end
returns-clause-end c text = (splits text).1

pub returns-clause-unique : goal.returns-clause-unique
returns-clause-unique c = splits-only
