use Rattle.std.proofs.Common.{false, refl, subst}
use Rattle.mq_client.proofs.Words.{Drain, Makes, State, requests_of, state_of}
use Rattle.mq_client.proofs.Making.{drained}
use Rattle.mq_client.proofs.client.Client.drain.Goals as goal

pub returns-clause-step : goal.returns-clause-step
returns-clause-step g c =
    let (group, told, sends, late, freed) = c.send_all.ensures.step in
    let i = c.self.inside in
    let d : State = record (state_of i) { waiting = requests_of c.send_all.new.outbox.items } in
    (group, told, subst (λ (s : State). Makes s d (record { action = Drain; group = group; quiet = false })) c.self.view_is (drained (state_of i) d group refl refl refl refl sends))
