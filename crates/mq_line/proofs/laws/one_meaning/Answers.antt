use Rattle.mq_line.specs.Pieces.{fields}
use Rattle.mq_line.proofs.GrammarLaws.{one_meaning, no_fault, some_meaning}
use Rattle.mq_line.proofs.laws.one_meaning.Goals as goal

pub returns-clause-unique : goal.returns-clause-unique
returns-clause-unique c line = one_meaning (fields line)

pub returns-clause-no_fault : goal.returns-clause-no_fault
returns-clause-no_fault c line = no_fault (fields line)

pub returns-clause-total : goal.returns-clause-total
returns-clause-total c = some_meaning
