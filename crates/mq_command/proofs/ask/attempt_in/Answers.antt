use Rattle.mq_command.proofs.Words.{Bool, ComesTo, Reply, Request, attempt_of, false, fits, if◌then◌else◌, refl, subst, sym, true, ◌≡◌}
use Rattle.mq_frame.specs.Spelling.{SpellsReply}
use Rattle.mq_request.specs.declared.message.Reply.TheVariants as says
use Rattle.mq_request.specs.declared.message.Request.TheVariants as asks
use Rattle.mq_command.specs.declared.ask.Attempt.TheVariants as comes
use Rattle.mq_command.proofs.ask.attempt_in.Goals as goal

-- no request is answered by being asked for again
never_fits : (request : Request) → fits request says.Retry ≡ false
never_fits (asks.Reserve id txn moment login count) = refl
never_fits (asks.Settle id txn moment login count) = refl
never_fits (asks.Release id txn moment login) = refl
never_fits (asks.Limit id from_day cap login) = refl
never_fits (asks.Retire id) = refl
never_fits (asks.Usage login day) = refl
never_fits (asks.List day after) = refl

-- what another reply comes to, where it alone came
module _ (request : Request) (Came : Reply → Type 0) (reply : Reply) (differs : reply ≡ says.Retry → ⊥) (came : Came reply) (only : (r : Reply) → Came r → reply ≡ r) where
  by : (b : Bool) → fits request reply ≡ b → ComesTo request Came (if b then comes.Answered reply else comes.Missed)
  by true is = (came, is)
  by false is = (λ again. differs (only says.Retry again), λ r it. subst (λ x. fits request x ≡ false) (only r it) is)

  other : ComesTo request Came (if fits request reply then comes.Answered reply else comes.Missed)
  other = by (fits request reply) refl

-- what a reply comes to, where it alone came
comes_to : (request : Request) (Came : Reply → Type 0) (reply : Reply) → Came reply → ((r : Reply) → Came r → reply ≡ r) → ComesTo request Came (attempt_of request reply)
comes_to request Came says.Retry came only = (came, λ r it. subst (λ x. fits request x ≡ false) (only r it) (never_fits request))
comes_to request Came (says.Granted id used) came only = other request Came _ (λ e. cc) came only
comes_to request Came (says.Full id used cap) came only = other request Came _ (λ e. cc) came only
comes_to request Came (says.Settled id count) came only = other request Came _ (λ e. cc) came only
comes_to request Came (says.Released id held) came only = other request Came _ (λ e. cc) came only
comes_to request Came (says.LimitSet id) came only = other request Came _ (λ e. cc) came only
comes_to request Came (says.Over id day used) came only = other request Came _ (λ e. cc) came only
comes_to request Came (says.Closed id) came only = other request Came _ (λ e. cc) came only
comes_to request Came (says.Mismatch id) came only = other request Came _ (λ e. cc) came only
comes_to request Came (says.TooMany id held) came only = other request Came _ (λ e. cc) came only
comes_to request Came (says.Conflict id) came only = other request Came _ (λ e. cc) came only
comes_to request Came (says.Usage login day settled reserved cap) came only = other request Came _ (λ e. cc) came only
comes_to request Came (says.List day rows) came only = other request Came _ (λ e. cc) came only
comes_to request Came says.Bad came only = other request Came _ (λ e. cc) came only
comes_to request Came (says.Retired id) came only = other request Came _ (λ e. cc) came only
comes_to request Came (says.Old id) came only = other request Came _ (λ e. cc) came only

pub returns-in-Ok : goal.returns-in-Ok
returns-in-Ok c =
    subst (ComesTo c.args.request.now _) (sym c.attempt_of.ensures) (comes_to _ _ c.in-Ok.reply c.in-Ok.ensures.found c.in-Ok.ensures.only)

pub returns-in-Err-Bad : goal.returns-in-Err-Bad
returns-in-Err-Bad c =
    let never : (r : Reply) → SpellsReply c.args.body.now r → ⊥ = λ r it. let e = c.in-Err-Bad.ensures.only r it in let bad = c.in-Err-Bad.field-0-is in cc in
    (never says.Retry, λ r it. absurd (never r it))
