use Rattle.std.proofs.Common.{◌+◌}
use Rattle.std.proofs.lemmas.List.{take_rest}
use Rattle.mq_line.proofs.PieceLaws.{first_piece, one_piece}
use Rattle.mq_line.proofs.fields.first_field.Goals as goal

pub returns-in-Some : goal.returns-in-Some
returns-in-Some c =
    rw (take_rest c.args.text.now (c.in-Some.bar + 1)) (first_piece 124 c.args.text.now c.in-Some.bar c.in-Some.ensures)

pub returns-in-None : goal.returns-in-None
returns-in-None c = one_piece 124 c.args.text.now c.in-None.ensures
