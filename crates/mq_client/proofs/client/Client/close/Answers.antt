use Rattle.std.proofs.lemmas.Result.{IfOk-weaker}
use Rattle.mq_client.proofs.client.Client.close.Goals as goal

pub returns-clause-ok : goal.returns-clause-ok
returns-clause-ok g c = IfOk-weaker c.close_and_free.result _ _ (λ timed_out h. let (group, told, made, late, freed) = h in (group, told, made, late)) c.close_and_free.ensures.ok
