-- What is held back hears of each closing that is sent.
use Rattle.std.proofs.Common.{◌≡◌, ℕ, Bool, true, false, List, [], ◌∷◌, ◌++◌, ◌||◌, ◌&&◌, refl, sym, ap, ◌∙◌, cond, not, inl, inr, Option, None, Some}
use Rattle.mq_client.proofs.Words.{AreFailed, AreTries, Exchange, FullLogin, Holding, IsVerdict, Release, Reply, Request, TriesOutcome, filter, nat_le, or_false, same_text, verdict_of}
use Rattle.mq_lemmas.proofs.Booleans.{either, or_true}
use Rattle.mq_request.specs.declared.message.Id.{Id}
use Rattle.mq_request.specs.declared.message.Reply.TheVariants as reply
use Rattle.mq_client.specs.Holding.{frees, freed, given_back, is_freed}
use Rattle.mq_client.specs.Freeing.{heard}
use Rattle.mq_client.specs.TriesOutcome.{given_by}
use Rattle.mq_client.specs.Verdict.{Says}
use Rattle.mq_client.specs.declared.verdict.Verdict.{Verdict}
use Rattle.mq_client.specs.declared.tries.TriesOutcome.TheVariants as tried

-- ---- filters

filter_all : {X : Type 0} (p : X → Bool) (xs : List X) → ((x : X) → p x ≡ true) → filter p xs ≡ xs
filter_all p [] h = refl
filter_all p (x ∷ xs) h = rw (h x) (ap (λ l. x ∷ l) (filter_all p xs h))

filter_either : {X : Type 0} (a b : X → Bool) (xs : List X) → filter (λ x. not (a x || b x)) xs ≡ filter (λ x. not (a x)) (filter (λ x. not (b x)) xs)
filter_either a b [] = refl
filter_either a b (x ∷ xs) = elim (either (b x)) [
  | inl t ↦ rw (t, or_true (a x)) (filter_either a b xs)
  | inr f ↦ rw (f, or_false (a x)) (ap (λ l. cond (not (a x)) (x ∷ l) l) (filter_either a b xs))
]

-- ---- one request

frees_none : (login : List ℕ) (q : Request) → frees login q 0 ≡ false
frees_none login (Release id txn moment name) = refl
frees_none login q = refl

with_all : (p : FullLogin → Bool) (h : Holding) → ((f : FullLogin) → p f ≡ true) → ◌≡◌ {A = Holding} (record { paused = h.paused; full = filter p h.full }) h
with_all p h all = ap (λ (l : List FullLogin). record { paused = h.paused; full = l }) (filter_all p h.full all)

-- a request that gave back nobody
pub heard_none : (q : Request) (h : Holding) → heard q 0 h ≡ h
heard_none q h = with_all (λ f. not (frees f.login q 0)) h (λ f. ap not (frees_none f.login q))

-- one that is no release
pub heard_other : (q : Request) (n : ℕ) (h : Holding) → ((id : Id) (txn moment : ℕ) (login : List ℕ) → q ≡ Release id txn moment login → ⊥) → heard q n h ≡ h
heard_other (Release id txn moment login) n h other = absurd (other id txn moment login refl)
heard_other q n h other = with_all (λ f. true) h (λ f. refl)

-- a release that gave back somebody
pub heard_release : (id : Id) (txn moment : ℕ) (login : List ℕ) (n : ℕ) (h : Holding) → nat_le 1 n ≡ true
    → heard (Release id txn moment login) n h ≡ record { paused = h.paused; full = filter (λ f. not (same_text f.login login)) h.full }
heard_release id txn moment login n h e = ap (λ (b : Bool). record { paused = h.paused; full = filter (λ (f : FullLogin). not (b && same_text f.login login)) h.full }) e

-- ---- exchanges

pub freed_none : (h : Holding) → freed [] h ≡ h
freed_none h = with_all (λ f. true) h (λ f. refl)

freed_more : (x : Exchange) (group : List Exchange) (h : Holding) → freed (x ∷ group) h ≡ heard x.request (given_back (x.decided)) (freed group h)
freed_more x group h = ap (λ (l : List FullLogin). record { paused = h.paused; full = l }) (filter_either (λ (f : FullLogin). frees f.login x.request (given_back (x.decided))) (λ f. is_freed f.login group) h.full)

pub freed_append : (later done : List Exchange) (h : Holding) → freed (later ++ done) h ≡ freed later (freed done h)
freed_append [] done h = sym (freed_none (freed done h))
freed_append (x ∷ later) done h =
    freed_more x (later ++ done) h ∙ ap (heard x.request (given_back (x.decided))) (freed_append later done h) ∙ sym (freed_more x later (freed done h))

-- tries that fail give back nobody
pub failed_free : (q : Request) (group : List Exchange) (h : Holding) → AreFailed q group → freed group h ≡ h
failed_free q [] h f = freed_none h
failed_free q (x ∷ group) h f =
    freed_more x group h ∙ ap (λ (d : Option Reply). heard x.request (given_back d) (freed group h)) f.0.decided_is ∙ heard_none x.request (freed group h) ∙ failed_free q group h f.1

given_says : (r : Reply) (v : Verdict) → Says r v → given_back (Some r) ≡ given_by (tried.Decided v)
given_says (reply.Granted id used) v says = sym (ap (λ w. given_by (tried.Decided w)) says)
given_says (reply.Full id used cap) v says = sym (ap (λ w. given_by (tried.Decided w)) says)
given_says (reply.Settled id count) v says = sym (ap (λ w. given_by (tried.Decided w)) says)
given_says (reply.Released id held) v says = sym (ap (λ w. given_by (tried.Decided w)) says)
given_says (reply.Closed id) v says = sym (ap (λ w. given_by (tried.Decided w)) says)
given_says (reply.Mismatch id) v says = sym (ap (λ w. given_by (tried.Decided w)) says)
given_says (reply.TooMany id held) v says = sym (ap (λ w. given_by (tried.Decided w)) says)
given_says (reply.Conflict id) v says = sym (ap (λ w. given_by (tried.Decided w)) says)
given_says (reply.Old id) v says = sym (ap (λ w. given_by (tried.Decided w)) says)
given_says r v says = absurd says

given_is : (r : Reply) (t : TriesOutcome) → IsVerdict (Some r) (verdict_of t) → given_back (Some r) ≡ given_by t
given_is r (tried.Decided v) says = given_says r v says
given_is r t says = absurd says

-- the tries of a request are heard of by what came of them
pub heard_as : (n : ℕ) (q : Request) (group : List Exchange) (decided : Option Reply) (t : TriesOutcome) → AreTries n q group decided → IsVerdict decided (verdict_of t) → (h : Holding) → freed group h ≡ heard q (given_by t) h
heard_as n q group None (tried.Decided v) tries none h = absurd none
heard_as n q group None t tries none h = failed_free q group h tries.0 ∙ sym (heard_none q h)
heard_as n q [] (Some r) t tries says h = absurd tries
heard_as n q (x ∷ group) (Some r) t tries says h =
    freed_more x group h ∙ ap (heard x.request (given_back (x.decided))) (failed_free q group h tries.1)
    ∙ ap (λ (d : Option Reply). heard x.request (given_back d) h) tries.0.decided_is ∙ ap (λ (p : Request). heard p (given_back (Some r)) h) tries.0.request_is
    ∙ ap (λ (k : ℕ). heard q k h) (given_is r t says)
