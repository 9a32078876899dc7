use Rattle.std.proofs.Common.{refl, sym, subst, Some, Option}
use Rattle.mq_client.proofs.Words.{Close, Closes, Closing, Makes, State}
use Rattle.mq_client.proofs.filter.close.Goals as goal

pub returns-in-Ok-clause-ok : goal.returns-in-Ok-clause-ok
returns-in-Ok-clause-ok g c =
    let (group, told, made, late, freed) = c.in-Ok.ensures.ok in
    let k = c.in-Some.closing in
    let step = Some (record { action = Close k.txn k.end; group = group; quiet = c.args.paused }) in
    (step, told, subst (λ (s : State). Makes s c.close_and_free.new.self (record { action = Close k.txn k.end; group = group; quiet = c.args.paused })) c.set_line.ensures made, subst (λ (x : Option Closing). Closes c.args.paused x step) (sym c.in-Some.is) (group, refl), late, refl, freed)
