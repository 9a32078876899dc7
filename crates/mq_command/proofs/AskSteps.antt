-- One exchange more of a question.
use Rattle.mq_lemmas.proofs.Telling.{Tells-trans}
use Rattle.mq_command.proofs.Words.{All, All-pop, All-push, Bool, CameBack, NoAnswer, NotTaken, Asks, Brings, false, Err, IsAnswered, IsErrAnd, IsMissed, IsNotTaken, IsUnanswered, IsUndecoded, List, Memory, Ok, Option, Reply, ReportedExchange, Request, Result, Sends, Some, Tells, Unavailable, [], ap, arith, fits, inr, length_push, refl, true, ℕ, ◌++◌, ◌+◌, ◌<◌, ◌∙◌, ◌∷◌, ◌≡◌}

-- after so many exchanges that brought no reply that answers
module _ (request : Request) (old mid new : Option (List ReportedExchange)) (count : ℕ) (one : ReportedExchange)
    (sends : Sends request one) (none_taken : Bool) (before : IsUnanswered request count none_taken old mid) (told : Tells mid new (one ∷ [])) where
  told_all : Tells old new (before.group ++ one ∷ [])
  told_all = Tells-trans old mid new before.group (one ∷ []) before.told told

  sent_all : All (Sends request) (before.group ++ one ∷ [])
  sent_all = All-push (Sends request) before.group one before.sent sends

  none_more : (is : Bool) → CameBack is before.group → IsNotTaken one → CameBack is (before.group ++ one ∷ [])
  none_more true back so = All-push IsNotTaken before.group one back so
  none_more false back so = λ all. back (All-pop IsNotTaken _ before.group (Some one) refl all).0

  unanswered_so : (is : Bool) → IsMissed request one → CameBack is (before.group ++ one ∷ []) → IsUnanswered request (count + 1) is old new
  unanswered_so is missed back = record {
    group = before.group ++ one ∷ [];
    told = told_all;
    counted = length_push before.group one ∙ ap (λ n. n + 1) before.counted;
    sent = sent_all;
    missed = All-push (IsMissed request) before.group one before.missed missed;
    back = back;
  }

  -- that came back to be sent again, as all before it, or not
  pub not_taken_more : IsMissed request one → IsNotTaken one → IsUnanswered request (count + 1) none_taken old new
  not_taken_more missed so = unanswered_so none_taken missed (none_more none_taken before.back so)

  -- that didn't come back so
  pub missed_more : IsMissed request one → (IsNotTaken one → ⊥) → IsUnanswered request (count + 1) false old new
  missed_more missed never = unanswered_so false missed (λ all. never (All-pop IsNotTaken _ before.group (Some one) refl all).1)

  pub answered : (reply : Reply) → count < 3 → Brings one.outcome reply → fits request reply ≡ true → IsAnswered request reply old new
  answered reply few brought answers = record {
    before = before.group;
    last = one;
    told = told_all;
    few = omega (arith, few, before.counted);
    sent = sent_all;
    missed = before.missed;
    brought = brought;
    answers = answers;
  }

  pub undecoded : (reply : Reply) → count < 3 → Brings one.outcome reply → IsUndecoded request old new
  undecoded reply few brought = record {
    before = before.group;
    last = one;
    told = told_all;
    few = omega (arith, few, before.counted);
    sent = sent_all;
    missed = before.missed;
    reply = reply;
    brought = brought;
  }

-- the fault that a refused growth makes
pub asks_memory : (request : Request) (old new : Option (List ReportedExchange)) (r : Result Reply NoAnswer) → IsErrAnd r (λ fault. fault ≡ Memory) → IsUndecoded request old new → Asks request old new r
asks_memory request old new (Ok reply) e sent = absurd e
asks_memory request old new (Err Unavailable) e sent = cc
asks_memory request old new (Err NotTaken) e sent = cc
asks_memory request old new (Err Memory) e sent = inr sent
