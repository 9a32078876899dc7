use Rattle.std.proofs.Common.{◌≡◌, ◌+◌, ◌<◌, ◌++◌, ℕ, List, OnOk, OnErr, length, vec_capacity, vec_len, subst}
use Rattle.mq_line.proofs.ResultLaws.{parts_of_result}
use Rattle.mq_line.proofs.results.push_result.Goals as goal

pub returns-clause-ok : goal.returns-clause-ok
returns-clause-ok c =
    subst
    (λ (text : List ℕ). OnOk c.push_parts.result (c.push_parts.new.out.items ≡ c.args.out.now.items ++ text))
    (parts_of_result c.args.session.now c.args.token.now c.answer_of-answer.result.now c.args.decision c.answer_of-answer.ensures)
    c.push_parts.ensures.ok

pub returns-clause-full : goal.returns-clause-full
returns-clause-full c =
    subst
    (λ (text : List ℕ). OnErr c.push_parts.result (vec_capacity c.args.out.now < vec_len c.args.out.now + length text))
    (parts_of_result c.args.session.now c.args.token.now c.answer_of-answer.result.now c.args.decision c.answer_of-answer.ensures)
    c.push_parts.ensures.full
