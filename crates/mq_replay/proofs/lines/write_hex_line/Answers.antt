use Rattle.std.proofs.Common.{◌≡◌, [], ◌∷◌, ◌∙◌}
use Rattle.hex.specs.Hex.{encode_lower}
use Rattle.mq_stream.proofs.Fronts.{front_first, front_later}
use Rattle.mq_replay.proofs.lines.write_hex_line.Goals as goal

pub returns-in_err-write_whole-clause-front : goal.returns-in_err-write_whole-clause-front
returns-in_err-write_whole-clause-front g c =
    let digits : c.as_bytes.result.now ≡ encode_lower c.args.bytes.now = c.as_bytes.ensures.value ∙ c.in_ok-digits.ensures in
    rw (← digits) (front_first _ _ c.as_bytes.result.now (10 ∷ []) c.in_err-write_whole.ensures.front)

pub returns-clause-front : goal.returns-clause-front
returns-clause-front g c =
    let digits : c.as_bytes.result.now ≡ encode_lower c.args.bytes.now = c.as_bytes.ensures.value ∙ c.in_ok-digits.ensures in
    rw (← digits) (front_later _ _ _ c.as_bytes.result.now (10 ∷ []) c.in_ok-write_whole.ensures.whole c.write_whole-2.ensures.front)
