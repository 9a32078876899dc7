use Rattle.mq_request.specs.Same.{same_id}
use Rattle.mq_tables.specs.Lent.{bodies_row, IsAnswerShown}
use Rattle.mq_tables.proofs.Chain.{is_made}
use Rattle.mq_tables.proofs.Finds.{found_after}
use Rattle.mq_tables.proofs.answers.Reads.{is_it}
use Rattle.mq_tables.proofs.answer.find_answer.Goals as goal

pub returns : goal.returns
returns g c =
    let id = c.args.id.now in
    is_made c.first_answer.result c.in_ok-rows.ensures (λ shown. found_after (λ a. same_id id a.id) bodies_row (IsAnswerShown id) (is_it id) (λ t. t.answers) _ _ c.first_answer.result shown (rw c.as_slice.ensures.value at c.first_answer.ensures))
