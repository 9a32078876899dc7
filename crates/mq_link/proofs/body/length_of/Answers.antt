use Rattle.std.proofs.Common.{rules, arith, refl, [], ◌∷◌}
use Rattle.std.proofs.lemmas.Nat.{be_bytes_2}
use Rattle.mq_link.proofs.BodySteps.{two_small}
use Rattle.mq_link.proofs.body.length_of.Goals as goal

pub returns-clause-spelled : goal.returns-clause-spelled
returns-clause-spelled c =
    be_bytes_2 (c.args.high ∷ c.args.low ∷ []) _ refl (two_small c.args.high c.args.low (omega arith) (omega arith)) (search rules)
