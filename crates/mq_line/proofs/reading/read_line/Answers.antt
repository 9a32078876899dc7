use Rattle.mq_line.specs.Pieces.{fields}
use Rattle.mq_line.proofs.GrammarLaws.{answers_meaning, answers_fault}
use Rattle.mq_line.proofs.reading.read_line.Goals as goal

pub returns-clause-only : goal.returns-clause-only
returns-clause-only c = answers_meaning (fields c.args.line.now) c.read_fields.result c.read_fields.ensures

pub returns-clause-refused : goal.returns-clause-refused
returns-clause-refused c = answers_fault (fields c.args.line.now) c.read_fields.result c.read_fields.ensures
