use Rattle.mq_command.proofs.Words.{YieldsList-from_vec, items_from_extend, rules}
use Rattle.mq_command.proofs.report.append.Goals as goal

pub returns : goal.returns
returns c =
    let kept = items_from_extend c.extend.result c.extend.ensures.ran (YieldsList-from_vec c.args.rows (search rules) (search rules)) in
    search rules
