use Rattle.mq_line.proofs.TextLaws.{holds-lines, lines-append, too_long-more, same_by_piece}
use Rattle.mq_line.proofs.laws.any_cutting.Goals as goal

pub returns-clause-held : goal.returns-clause-held
returns-clause-held c = holds-lines

pub returns-clause-more : goal.returns-clause-more
returns-clause-more c = lines-append

pub returns-clause-too_long : goal.returns-clause-too_long
returns-clause-too_long c = too_long-more

pub returns-clause-pieces : goal.returns-clause-pieces
returns-clause-pieces c = same_by_piece
