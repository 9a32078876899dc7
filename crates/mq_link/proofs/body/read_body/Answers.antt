use Rattle.std.proofs.Common.{rules, arith, ◌∙◌}
use Rattle.mq_link.proofs.BodySteps.{received, two_of}
use Rattle.mq_link.proofs.body.read_body.Goals as goal

pub returns-in-Ok-clause-body : goal.returns-in-Ok-clause-body
returns-in-Ok-clause-body g c =
    received _ (g.S.Read.remaining c.read_exact.new.self) _ c.read_exact.new.buf c.read_exact-2.new.buf _ c.length_of-length.result _ (c.length_of-length.ensures.spelled ∙ two_of c.read_exact.new.buf (search rules)) (search rules) (search rules) (search rules) (search rules) (omega arith) c.length_of-length.ensures.fits
