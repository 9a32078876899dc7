-- What a link reports of several exchanges, and how tries add up.
use Rattle.mq_lemmas.proofs.Telling.{Tells-trans}
use Rattle.std.proofs.Common.{◌≡◌, ℕ, ◌<◌, Bool, true, false, List, [], ◌∷◌, ◌++◌, length, ◌||◌, is_some, refl, sym, ap, ◌∙◌, subst, append_assoc, append-nil, Option, None, Some, if◌then◌else◌}
use Rattle.mq_client.proofs.Words.{Answered, AreFailed, AreTries, ComesOf, Exchange, Faulted, IsDecision, IsSent, IsTry, IsVerdict, ExchangeOutcome, Reply, Request, SpellsReply, Tells, ReportedExchange, TriesOutcome, decides, deciding, has_timed_out, is_decided, is_late, or_false, ran_out, request_frame, told_all, told_of, verdict_of}
use Rattle.mq_client.specs.declared.verdict.Verdict.{Verdict}
use Rattle.mq_client.specs.declared.tries.TriesOutcome.TheVariants as tried
use Rattle.mq_link.specs.declared.link.LinkFault.{LinkFault}

-- an exchange of the request's frame
pub told_frame : (old new : Option (List ReportedExchange)) (bytes : List ℕ) (q : Request) (o : ExchangeOutcome) → bytes ≡ request_frame q → Tells old new (record { frame = bytes; outcome = o } ∷ []) → Tells old new (record { frame = request_frame q; outcome = o } ∷ [])
told_frame old new bytes q o e h = subst (λ (b : List ℕ). Tells old new (record { frame = b; outcome = o } ∷ [])) e h

pub told_all-append : (later done : List Exchange) → told_all (later ++ done) ≡ told_all done ++ told_all later
told_all-append [] done = sym (append-nil (told_all done))
told_all-append (x ∷ later) done = ap (λ l. l ++ told_of x ∷ []) (told_all-append later done) ∙ append_assoc (told_all done) (told_all later) (told_of x ∷ [])

pub told_both : (a b c : Option (List ReportedExchange)) (done later : List Exchange) → Tells a b (told_all done) → Tells b c (told_all later) → Tells a c (told_all (later ++ done))
told_both a b c done later h i = rw (told_all-append later done) (Tells-trans a b c (told_all done) (told_all later) h i)

-- what a body that spells this reply comes to
pub decision_by : (request : Request) (body : List ℕ) (found : Reply) → SpellsReply body found → ((reply : Reply) → SpellsReply body reply → found ≡ reply) → IsDecision request (Answered body) (deciding request found)
decision_by request body found spelled only = by_kind (decides request found) refl
  where
    by_kind : (b : Bool) → decides request found ≡ b → IsDecision request (Answered body) (if b then Some found else None)
    by_kind true so = (spelled, so)
    by_kind false so = λ reply h. ap (decides request) (sym (only reply h)) ∙ so

-- an exchange without a verdict fails
pub undecided : (request : Request) (x : Exchange) (decided : Option Reply) → IsTry request x decided → IsVerdict decided None → IsTry request x None
undecided request x None t v = t
undecided request x (Some reply) t v = absurd v

-- one with a verdict ends the tries
pub decided_by_last : (n : ℕ) (request : Request) (x : Exchange) (done : List Exchange) (decided : Option Reply) (v : Verdict) → IsTry request x decided → IsVerdict decided (Some v) → AreFailed request done → length done < n → AreTries n request (x ∷ done) decided
decided_by_last n request x done None v t none failed few = absurd none
decided_by_last n request x done (Some reply) v t says failed few = (t, failed, few)

-- ---- what comes of tries

-- an exchange that brought a body didn't run out of time
pub answered_in_time : (request : Request) (body : List ℕ) (decided : Option Reply) → has_timed_out (record { request = request; outcome = Answered body; decided = decided } ∷ []) ≡ false
answered_in_time request body None = refl
answered_in_time request body (Some reply) = refl

pub no_verdict : (t : TriesOutcome) → ((v : Verdict) → t ≡ tried.Decided v → ⊥) → verdict_of t ≡ None
no_verdict (tried.Decided v) not = absurd (not v refl)
no_verdict t not = refl

-- one more try that decides nothing
pub late_more : (x : Exchange) (done : List Exchange) (a b : Bool) → x.decided ≡ None → a ≡ has_timed_out (x ∷ []) → b ≡ has_timed_out done → (a || b) ≡ has_timed_out (x ∷ done)
late_more x done a b none last before =
    let one : a ≡ ran_out x.outcome = subst (λ (d : Option Reply). a ≡ (if is_some d then false else (ran_out x.outcome || false))) none last ∙ or_false (ran_out x.outcome) in
    subst (λ (d : Option Reply). (a || b) ≡ (if is_some d then false else (ran_out x.outcome || has_timed_out done))) (sym none) (ap (λ k. k || b) one ∙ ap (λ k. ran_out x.outcome || k) before)

-- one that decides ends them in time
pub comes_decided : (request : Request) (x : Exchange) (done : List Exchange) (decided : Option Reply) (v : Verdict) → IsTry request x decided → IsVerdict decided (Some v) → ComesOf decided (x ∷ done) (tried.Decided v)
comes_decided request x done None v try says = absurd says
comes_decided request x done (Some reply) v try says = record {
  verdict = says;
  late = sym (ap (λ (d : Option Reply). if is_some d then false else (ran_out x.outcome || has_timed_out done)) try.decided_is);
}

-- one that brings no reply
pub comes_faulted : (request : Request) (fault : LinkFault) (t : TriesOutcome) → verdict_of t ≡ None → is_late t ≡ ran_out (Faulted fault) → ComesOf None (record { request = request; outcome = Faulted fault; decided = None } ∷ []) t
comes_faulted request fault t none is = record { verdict = subst (IsVerdict None) (sym none) tt; late = is ∙ sym (or_false (ran_out (Faulted fault))) }

-- of tries that decide nothing
pub comes_undecided : (done : List Exchange) (t : TriesOutcome) (late : Bool) → verdict_of t ≡ None → is_late t ≡ late → late ≡ has_timed_out done → ComesOf None done t
comes_undecided done t late none is so = record { verdict = subst (IsVerdict None) (sym none) tt; late = is ∙ so }

-- a closing is sent, whatever comes of it
pub sent_as : (n : ℕ) (request : Request) (group : List Exchange) (decided : Option Reply) (t : TriesOutcome) → AreTries n request group decided → IsVerdict decided (verdict_of t) → IsSent n request group (is_decided t)
sent_as n request group (Some reply) (tried.Decided v) tries says = (reply, tries)
sent_as n request group (Some reply) t tries says = absurd says
sent_as n request group None (tried.Decided v) tries none = absurd none
sent_as n request group None t tries says = tries
