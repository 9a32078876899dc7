use Rattle.std.proofs.Common.{rules, tests, not, eqb}
use Rattle.std.proofs.lemmas.Iterator.{YieldsList-from_slice}
use Rattle.std.proofs.lemmas.Iterator.Adapters.{items_from_extend}
use Rattle.std.proofs.lemmas.Iterator.Consumers.{YieldsList-from_copied, YieldsList-from_filter}
use Rattle.mq_replay.proofs.connections.keep_digits.Goals as goal

pub returns : goal.returns
returns c =
    let kept = items_from_extend c.extend.result c.extend.ensures.ran (YieldsList-from_filter _ (λ b. not (eqb b 32)) (YieldsList-from_copied (YieldsList-from_slice c.args.line.now cc)) c.filter.ensures.closure (λ x b q k. search (rules, tests))) in
    search rules
