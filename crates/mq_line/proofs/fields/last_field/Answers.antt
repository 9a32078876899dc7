use Rattle.std.proofs.Common.{◌+◌, [], take, refl, sym}
use Rattle.std.proofs.lemmas.List.{take_rest}
use Rattle.std.proofs.lemmas.List.Splits.{join_with_byte-slice_split}
use Rattle.mq_line.specs.Pieces.{fields}
use Rattle.mq_line.proofs.PieceLaws.{last_piece, one_piece}
use Rattle.mq_line.proofs.fields.last_field.Goals as goal

pub returns-in-Some : goal.returns-in-Some
returns-in-Some c =
    let before = take c.in-Some.bar c.args.text.now in (
      fields before,
      rw (take_rest c.args.text.now (c.in-Some.bar + 1)) (last_piece 124 c.args.text.now c.in-Some.bar c.in-Some.ensures),
      sym (join_with_byte-slice_split 124 before),
    )

pub returns-in-None : goal.returns-in-None
returns-in-None c = ([], one_piece 124 c.args.text.now c.in-None.ensures, refl)
