use Rattle.std.proofs.Common.{◌∙◌, ap}
use Rattle.mq_program.specs.Auditing.{sound_text}
use Rattle.mq_program.proofs.AuditSteps.{only_a_front}
use Rattle.mq_program.proofs.auditing.audit_ledger.Goals as goal

pub returns-clause-unprinted : goal.returns-clause-unprinted
returns-clause-unprinted g c =
    only_a_front _ _ _ _ _ (c.as_bytes.ensures.value ∙ c.in_ok-text.ensures ∙ ap (λ f. sound_text c.args.form f.days f.transactions) c.found-found.ensures)
    c.print.ensures.fault c.print.ensures.front
