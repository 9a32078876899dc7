-- The exchanges of a step come in turn, until none is the next one.
use Rattle.std.proofs.Common.{◌≡◌, ℕ, zero, suc, ◌+◌, ◌<◌, ◌≤◌, Bool, false, true, List, [], ◌∷◌, ◌++◌, length, drop, refl, sym, ap, ◌∙◌, subst, append-nil, arith, Option, None, Some, if◌then◌else◌, MatchBool}
use Rattle.mq_client.proofs.Words.{Action, Answered, AreFailed, AreTries, AreUnderway, Ask, Brings, Close, ComeInTurn, Drain, Exchange, Faulted, HeldTransaction, IsDecision, IsPlayed, IsTry, IsUnderway, NoneYet, OneMore, ExchangeOutcome, Plays, PlaysFrom, Reply, Request, Sends, SendsAll, SendsSome, SendsUpTo, Source, SpellsReply, Step, View, decisions, failures, held_for, le-leb, leb-false, lt-leb, nat_le, next_in, next_of, none_some, outcomes, queue_of, refuses, reserve_of, slice_get, some_is, tries_in, true_false, view}
use Rattle.mq_client.proofs.Making.{some_left}
use Rattle.mq_client.proofs.Basics.{cons_head, cons_tail, of_either}

-- the exchanges so far came in turn, and the last so many failed
record Comes (n : ℕ) (queue : List Request) (group : List Exchange) (failed decided : ℕ) : Type 0 where
  in_turn : ComeInTurn n queue group
  failed_is : failures group ≡ failed
  decided_is : decisions group ≡ decided

next_is : (n : ℕ) (queue : List Request) (group : List Exchange) (q : Request) → failures group < n → slice_get queue (decisions group) ≡ Some q → next_of n queue group ≡ Some q
next_is n queue group q h e = rw (lt-leb n (failures group) h) e

come_next : (n : ℕ) (queue : List Request) (group : List Exchange) (q : Request) (x : Exchange) (d : Option Reply) (f k : ℕ) → Comes n queue group f k → f < n → slice_get queue k ≡ Some q → IsTry q x d → ComeInTurn n queue (x ∷ group)
come_next n queue group q x d f k c h e t =
    (next_is n queue group q (omega (arith, h, c.failed_is)) (ap (slice_get queue) c.decided_is ∙ e) ∙ ap Some (sym t.request_is), subst (λ (r : Request). IsDecision r x.outcome x.decided) (sym t.request_is) t.decision, c.in_turn)

come_failed : (n : ℕ) (queue : List Request) (group : List Exchange) (q : Request) (x : Exchange) (f k : ℕ) → Comes n queue group f k → f < n → slice_get queue k ≡ Some q → IsTry q x None → Comes n queue (x ∷ group) (f + 1) k
come_failed n queue group q x f k c h e t = record {
  in_turn = come_next n queue group q x None f k c h e t;
  failed_is = rw t.decided_is (ap (λ i. i + 1) c.failed_is);
  decided_is = rw t.decided_is c.decided_is;
}

come_decided : (n : ℕ) (queue : List Request) (group : List Exchange) (q : Request) (x : Exchange) (r : Reply) (f k : ℕ) → Comes n queue group f k → f < n → slice_get queue k ≡ Some q → IsTry q x (Some r) → Comes n queue (x ∷ group) 0 (k + 1)
come_decided n queue group q x r f k c h e t = record {
  in_turn = come_next n queue group q x (Some r) f k c h e t;
  failed_is = rw t.decided_is refl;
  decided_is = rw t.decided_is (ap (λ i. i + 1) c.decided_is);
}

all_failed : (n : ℕ) (queue : List Request) (done tries : List Exchange) (q : Request) (k : ℕ) → Comes n queue done 0 k → slice_get queue k ≡ Some q → AreFailed q tries → length tries ≤ n → Comes n queue (tries ++ done) (length tries) k
all_failed n queue done [] q k c e f h = c
all_failed n queue done (x ∷ tries) q k c e f h =
    let more : length tries + 1 ≡ length (x ∷ tries) = omega arith in
    subst (λ (i : ℕ). Comes n queue (x ∷ (tries ++ done)) i k) more (come_failed n queue (tries ++ done) q x (length tries) k (all_failed n queue done tries q k c e f.1 (omega (arith, h))) (omega (arith, h)) e f.0)

tried : (n : ℕ) (queue : List Request) (done tries : List Exchange) (q : Request) (r : Reply) (k : ℕ) → Comes n queue done 0 k → slice_get queue k ≡ Some q → AreTries n q tries (Some r) → Comes n queue (tries ++ done) 0 (k + 1)
tried n queue done [] q r k c e t = absurd t
tried n queue done (x ∷ tries) q r k c e t = come_decided n queue (tries ++ done) q x r (length tries) k (all_failed n queue done tries q k c e t.1 (omega (arith, t.2))) t.2 e t.0

-- what stands in front after some were dropped
front_of_drop : (k : ℕ) (queue left : List Request) (q : Request) → q ∷ left ≡ drop k queue → slice_get queue k ≡ Some q
front_of_drop zero [] left q e = absurd cc
front_of_drop zero (x ∷ queue) left q e = ap (λ l. slice_get l 0) (sym e)
front_of_drop (suc k) [] left q e = absurd cc
front_of_drop (suc k) (x ∷ queue) left q e = front_of_drop k queue left q e

some_come : (n : ℕ) (queue : List Request) (group : List Exchange) (left : List Request) → SendsSome n queue group left → Comes n queue group 0 (decisions group)
some_come n queue group left NoneYet = record { in_turn = tt; failed_is = refl; decided_is = refl }
some_come n queue group left (OneMore q more done tries r s t) =
    let c = tried n queue done tries q r (decisions done) (some_come n queue done (q ∷ more) s) (front_of_drop (decisions done) queue more q (some_left n queue done (q ∷ more) s)) t in
    record { in_turn = c.in_turn; failed_is = c.failed_is; decided_is = refl }

nothing_yet : (n : ℕ) (queue : List Request) → Comes n queue [] 0 0
nothing_yet n queue = record { in_turn = tt; failed_is = refl; decided_is = refl }

-- ---- the end of a step

none_by_tries : (n : ℕ) (queue : List Request) (group : List Exchange) → n ≤ failures group → next_of n queue group ≡ None
none_by_tries n queue group h = rw (le-leb n (failures group) h) refl

none_by_queue : (n : ℕ) (queue : List Request) (group : List Exchange) → slice_get queue (decisions group) ≡ None → next_of n queue group ≡ None
none_by_queue n queue group e = of_either (λ (o : Option Request). o ≡ None) (nat_le n (failures group)) None (slice_get queue (decisions group)) refl e

none_of_drop : (k : ℕ) (queue : List Request) → [] ≡ drop k queue → slice_get queue k ≡ None
none_of_drop zero [] e = refl
none_of_drop zero (x ∷ queue) e = absurd cc
none_of_drop (suc k) [] e = refl
none_of_drop (suc k) (x ∷ queue) e = none_of_drop k queue e

-- the exchanges came in turn, and none is the next one
abbrev pub IsOver : (n : ℕ) (queue : List Request) (group : List Exchange) → Type 0
IsOver n queue group = ComeInTurn n queue group × (next_of n queue group ≡ None)

sends_over : (n : ℕ) (queue : List Request) (group : List Exchange) (left : List Request) → Sends n queue group left → IsOver n queue group
sends_over n queue group left (SendsAll done s) = ((some_come n queue group [] s).in_turn, none_by_queue n queue group (none_of_drop (decisions group) queue (some_left n queue group [] s)))
sends_over n queue group left (SendsUpTo q more done tries s t) =
    let c = all_failed n queue done tries q (decisions done) (some_come n queue done (q ∷ more) s) (front_of_drop (decisions done) queue more q (some_left n queue done (q ∷ more) s)) t.0 (omega (arith, t.1)) in
    (c.in_turn, none_by_tries n queue (tries ++ done) (omega (arith, c.failed_is, t.1)))

tries_over : (n : ℕ) (q : Request) (group : List Exchange) (decided : Option Reply) → AreTries n q group decided → IsOver n (q ∷ []) group
tries_over n q group None t =
    let c = rw append-nil at (all_failed n (q ∷ []) [] group q 0 (nothing_yet n (q ∷ [])) refl t.0 (omega (arith, t.1))) in
    (c.in_turn, none_by_tries n (q ∷ []) group (omega (arith, c.failed_is, t.1)))
tries_over n q [] (Some r) t = absurd t
tries_over n q (x ∷ group) (Some r) t =
    let c = rw append-nil at (tried n (q ∷ []) [] (x ∷ group) q r 0 (nothing_yet n (q ∷ [])) refl t) in
    (c.in_turn, none_by_queue n (q ∷ []) (x ∷ group) (ap (slice_get (q ∷ [])) c.decided_is))

ask_over : (b : Bool) (n : ℕ) (q : Request) (group : List Exchange) → MatchBool b (group ≡ []) ((decided : Option Reply) × AreTries n q group decided) → IsOver n (if b then [] else q ∷ []) group
ask_over true n q group e = rw e (tt, none_by_queue n [] [] refl)
ask_over false n q group (decided, t) = tries_over n q group decided t

over_from : (s : Source) (n : ℕ) (v : View) (o : Option HeldTransaction) (a : Action) (group : List Exchange) → PlaysFrom s n o (length v.live) v.numbers v.waiting a group → IsOver n (queue_of s v o a) group
over_from s n v o (Ask txn moment login) group plays = ask_over (refuses o (length v.live) v.numbers (length v.waiting) moment login) n (reserve_of s (v.numbers + 1) txn moment login) group plays
over_from s n v None (Close txn end) group plays = rw plays (tt, none_by_queue n [] [] refl)
over_from s n v (Some h) (Close txn end) group (left, sends) = sends_over n _ group left sends
over_from s n v o Drain group (left, sends) = sends_over n v.waiting group left sends

pub over : (s : Source) (n : ℕ) (P : List Step) (x : Step) → Plays s n P x → IsOver (tries_in n x.quiet) (queue_of s (view s P) (held_for (view s P) x.action) x.action) x.group
over s n P x plays = over_from s (tries_in n x.quiet) (view s P) (held_for (view s P) x.action) x.action x.group plays

-- each exchange of a step is the next one
pub turns : (s : Source) (n : ℕ) (P : List Step) (x : Step) → Plays s n P x → IsUnderway s n P x
turns s n P x plays = (over s n P x plays).0

-- after the exchanges of a step none is the next one
pub none_next : (s : Source) (n : ℕ) (P : List Step) (x : Step) → Plays s n P x → next_in s n P x ≡ None
none_next s n P x plays = (over s n P x plays).1

pub all_turns : (s : Source) (n : ℕ) (P : List Step) → IsPlayed s n P → AreUnderway s n P
all_turns s n [] played = tt
all_turns s n (x ∷ P) played = (turns s n P x played.0, all_turns s n P played.1)

-- the next request stands in the queue
pub next_in_queue : (n : ℕ) (queue : List Request) (group : List Exchange) (q : Request) → next_of n queue group ≡ Some q → (failures group < n) × (slice_get queue (decisions group) ≡ Some q)
next_in_queue n queue group q e = by_tries (nat_le n (failures group)) refl e
  where
    by_tries : (b : Bool) → nat_le n (failures group) ≡ b → (if b then None else slice_get queue (decisions group)) ≡ Some q → (failures group < n) × (slice_get queue (decisions group) ≡ Some q)
    by_tries true f e = absurd (none_some q e)
    by_tries false f e = (leb-false n (failures group) f, e)

-- ---- what follows from how exchanges ended

-- no body spells two replies
abbrev pub OneReply : Type 0
OneReply = (body : List ℕ) (reply other : Reply) → SpellsReply body reply → SpellsReply body other → reply ≡ other

one_brought : OneReply → (o : ExchangeOutcome) (r q : Reply) → Brings o r → Brings o q → r ≡ q
one_brought U (Answered body) r q h i = U body r q h i
one_brought U (Faulted fault) r q h i = absurd h

-- which reply decided follows from the request and from how its exchange ended
same_decision : OneReply → (q : Request) (o : ExchangeOutcome) (d e : Option Reply) → IsDecision q o d → IsDecision q o e → d ≡ e
same_decision U q o None None h i = refl
same_decision U q o None (Some r) h i = absurd (true_false (sym i.1 ∙ h r i.0))
same_decision U q o (Some r) None h i = absurd (true_false (sym h.1 ∙ i r h.0))
same_decision U q o (Some r) (Some p) h i = ap Some (one_brought U o r p h.0 i.0)

same_exchange : OneReply → (x y : Exchange) → x.request ≡ y.request → x.outcome ≡ y.outcome → IsDecision x.request x.outcome x.decided → IsDecision y.request y.outcome y.decided → x ≡ y
same_exchange U x y e f h i =
    let decided : x.decided ≡ y.decided = same_decision U y.request y.outcome x.decided y.decided (subst (λ (o : ExchangeOutcome). IsDecision y.request o x.decided) f (subst (λ (q : Request). IsDecision q x.outcome x.decided) e h)) i in
    ap (λ (q : Request). record x { request = q }) e ∙ ap (λ (o : ExchangeOutcome). record x { request = y.request; outcome = o }) f ∙ ap (λ (d : Option Reply). record y { decided = d }) decided

-- exchanges that came in turn and ended alike are the same
pub same_turns : OneReply → (n : ℕ) (queue : List Request) (g h : List Exchange) → ComeInTurn n queue g → ComeInTurn n queue h → outcomes g ≡ outcomes h → g ≡ h
same_turns U n queue [] [] c d e = refl
same_turns U n queue [] (y ∷ h) c d e = absurd cc
same_turns U n queue (x ∷ g) [] c d e = absurd cc
same_turns U n queue (x ∷ g) (y ∷ h) c d e =
    let tail = same_turns U n queue g h c.2 d.2 (cons_tail _ _ _ _ e) in
    let outcome = cons_head x.outcome y.outcome (outcomes g) (outcomes h) e in
    let request = some_is x.request y.request (sym c.0 ∙ ap (next_of n queue) tail ∙ d.0) in
    ap (λ z. z ∷ g) (same_exchange U x y request outcome c.1 d.1) ∙ ap (λ l. y ∷ l) tail
