use Rattle.std.proofs.Common.{ap, sym, ◌∙◌}
use Rattle.mq_watch.specs.Storms.{octets_of_ip}
use Rattle.mq_watch.proofs.strangers.Strangers.is_due.Goals as goal

pub returns-in-V4-clause-others : goal.returns-in-V4-clause-others
returns-in-V4-clause-others c = λ l before not was.
    c.is_due_for.ensures.others l before (λ same. not (same ∙ c.octets.ensures ∙ sym (ap octets_of_ip c.in-V4.is))) was

pub returns-in-V6-clause-others : goal.returns-in-V6-clause-others
returns-in-V6-clause-others c = λ l before not was.
    c.is_due_for-in-V6.ensures.others l before (λ same. not (same ∙ c.octets-in-V6.ensures ∙ sym (ap octets_of_ip c.in-V6.is))) was
