use Rattle.std.proofs.Common.{sym, ◌∙◌, subst}
use Rattle.mq_client.proofs.Words.{IsVerdict}
use Rattle.mq_client.proofs.client.send_reserve.Goals as goal

pub returns : goal.returns
returns g c =
    let (group, decided, told, tries, comes) = c.try_all-tried.ensures in
    (group, decided, told, tries, c.answer_to.ensures decided (subst (IsVerdict decided) (sym c.verdict.ensures) comes.verdict), c.has_timed_out.ensures ∙ comes.late)
