-- A queue that is sent from its front.
use Rattle.std.proofs.Common.{◌≡◌, ℕ, ◌<◌, true, false, List, [], ◌∷◌, ◌++◌, length, ◌||◌, is_some, refl, sym, ap, ◌∙◌, subst, arith, Option, None, Some, if◌then◌else◌}
use Rattle.mq_client.proofs.Words.{AreFailed, AreTries, Exchange, FramedRequest, IsSent, IsUndecided, NoneYet, OneMore, Reply, Request, Sends, SendsAll, SendsSome, SendsUpTo, has_timed_out, list_any, ran_out, slice_index_or}

-- the request in front
pub starts_with : (now : List FramedRequest) (q : FramedRequest) → q ≡ slice_index_or now 0 q → 0 < length now → (rest : List FramedRequest) × (now ≡ q ∷ rest)
starts_with [] q e l = absurd (omega (arith, l))
starts_with (x ∷ rest) q e l = (rest, ap (λ z. z ∷ rest) (sym e))

pub front_is : (now rest : List FramedRequest) (q x : FramedRequest) → q ≡ slice_index_or now 0 q → now ≡ x ∷ rest → now ≡ q ∷ rest
front_is now rest q x e p = p ∙ ap (λ z. z ∷ rest) (sym (e ∙ ap (λ l. slice_index_or l 0 q) p))

pub sends_more : (n : ℕ) (queue now rest : List Request) (q : Request) (done tries : List Exchange) → now ≡ q ∷ rest → SendsSome n queue done now → IsSent n q tries true → SendsSome n queue (tries ++ done) rest
sends_more n queue now rest q done tries e s (r, t) = OneMore q rest done tries r (subst (λ (l : List Request). SendsSome n queue done l) e s) t

pub sends_stop : (n : ℕ) (queue now rest : List Request) (q : Request) (done tries : List Exchange) → now ≡ q ∷ rest → SendsSome n queue done now → IsSent n q tries false → Sends n queue (tries ++ done) now
sends_stop n queue now rest q done tries e s t =
    subst (λ (l : List Request). Sends n queue (tries ++ done) l) (sym e) (SendsUpTo q rest done tries (subst (λ (l : List Request). SendsSome n queue done l) e s) t)

pub sends_all : (n : ℕ) (queue now : List Request) (done : List Exchange) → now ≡ [] → SendsSome n queue done now → Sends n queue done now
sends_all n queue now done e s =
    subst (Sends n queue done) (sym e) (SendsAll done (subst (λ (l : List Request). SendsSome n queue done l) e s))

-- the exchanges of decided requests end in time
pub some_in_time : (n : ℕ) (queue : List Request) (group : List Exchange) (left : List Request) → SendsSome n queue group left → has_timed_out group ≡ false
some_in_time n queue group left NoneYet = refl
some_in_time n queue group left (OneMore q more done [] r s t) = absurd t
some_in_time n queue group left (OneMore q more done (x ∷ tries) r s t) = ap (λ (d : Option Reply). if is_some d then false else (ran_out x.outcome || has_timed_out (tries ++ done))) t.0.decided_is

-- after them the tries of one that stays undecided tell
pub late_after : (q : Request) (tries done : List Exchange) → AreFailed q tries → has_timed_out done ≡ false → has_timed_out (tries ++ done) ≡ has_timed_out tries
late_after q [] done failed e = e
late_after q (x ∷ tries) done failed e = ap (λ b. if is_some (x.decided) then false else (ran_out x.outcome || b)) (late_after q tries done failed.1 e)

-- of tries that fail one ran out of time, or none
late_failed : (q : Request) (tries : List Exchange) → AreFailed q tries → has_timed_out tries ≡ list_any (λ (x : Exchange). ran_out x.outcome) tries
late_failed q [] failed = refl
late_failed q (x ∷ tries) failed =
    subst (λ (d : Option Reply). (if is_some d then false else (ran_out x.outcome || has_timed_out tries)) ≡ (ran_out x.outcome || list_any (λ (y : Exchange). ran_out y.outcome) tries)) (sym failed.0.decided_is) (ap (λ b. ran_out x.outcome || b) (late_failed q tries failed.1))

pub late_decided : (n : ℕ) (q : Request) (group : List Exchange) (r : Reply) → AreTries n q group (Some r) → has_timed_out group ≡ false
late_decided n q [] r t = absurd t
late_decided n q (x ∷ tries) r t = ap (λ (d : Option Reply). if is_some d then false else (ran_out x.outcome || has_timed_out tries)) t.0.decided_is

pub late_undecided : (n : ℕ) (q : Request) (group : List Exchange) → AreTries n q group None → has_timed_out group ≡ list_any (λ (x : Exchange). ran_out x.outcome) group
late_undecided n q group t = late_failed q group t.0

-- of a queue
all_sent : (n : ℕ) (queue left : List Request) (group : List Exchange) → Sends n queue group left → left ≡ [] → has_timed_out group ≡ false
all_sent n queue left group (SendsAll done s) e = some_in_time n queue group [] s
all_sent n queue left group (SendsUpTo q more done tries s t) e = absurd cc

pub late_sent : (n : ℕ) (queue : List Request) (group : List Exchange) → Sends n queue group [] → has_timed_out group ≡ false
late_sent n queue group s = all_sent n queue [] group s refl

pub late_stopped : (n : ℕ) (queue left : List Request) (q : Request) (group tries : List Exchange) → SendsSome n queue group (q ∷ left) → IsUndecided n q tries → has_timed_out (tries ++ group) ≡ list_any (λ (x : Exchange). ran_out x.outcome) tries
late_stopped n queue left q group tries s t = late_after q tries group t.0 (some_in_time n queue group (q ∷ left) s) ∙ late_failed q tries t.0
