-- One run against any others.
use Rattle.mq_world.proofs.Words.{Action, AreUnderway, Ask, Bool, Down, Entry, Exchange, Faulted, Id, In, IsDecision, IsHost, IsNumbered, IsReply, IsRequest, IsRun, Limit, List, ListRequest, None, NoneReturns, Option, ExchangeOutcome, Release, RepliesSuit, Reply, Request, Reserve, Retire, Settle, Some}
use Rattle.mq_world.proofs.Words.{Source, Step, Usage, View, [], answer_by, answer_of, answers_closing, answers_reserve, ap, arith, clash, decides, false, frame, held_by, id_in, id_of, inl, inr, length, moment_of, next, none_some, one_request, refl, refuses, reply_body, request_body, request_frame}
use Rattle.mq_world.proofs.Words.{reserve_of, subst, sym, tries_in, true, view, ℕ, ◌+◌, ◌<◌, ◌∙◌, ◌∷◌, ◌≡◌, ◌≤◌, ◌⊎◌}
use Rattle.mq_request.specs.declared.message.Reply.TheVariants as reply
use Rattle.mq_link.specs.Link.{Brings}
use Rattle.mq_client.specs.declared.recipient_answer.RecipientAnswer.TheVariants as asked
use Rattle.mq_world.specs.Running.{step_of}
use Rattle.mq_world.specs.World.{begun, with_exchange}
use Rattle.mq_world.proofs.Known.{OfFrames, OfClients}
use Rattle.mq_world.proofs.Numbers.{IsOwn, numbered_own, begun_numbered, more_numbered, ended_numbered}
use Rattle.mq_world.proofs.Ranges.{IsAsked, AreAsked, next_among, free_ask, next_in_range}
use Rattle.mq_world.proofs.Grounds.{is_grant, GrantedIn, IsGround, IsGrounded, ground_in}

abbrev pub is_settle : Request → Bool
is_settle (Settle id txn moment login count) = true
is_settle _ = false

abbrev pub count_of : Request → ℕ
count_of (Settle id txn moment login count) = count
count_of _ = 0

-- the entry that a reply is of: Granted is that of an entry, and Old of none
pub record Wrote (H : List Entry) (a : Reply) : Type 0 where
  pub entry : Entry
  pub among : In entry H
  pub is : entry.reply ≡ a

-- its entry was forgotten: the run used the number for a request about a day before F
pub record IsForgotten (day : ℕ → ℕ) (F : ℕ) (s : Source) (P : List Step) (q : Request) : Type 0 where
  pub request : Request
  pub numbered : IsNumbered s P request
  pub same : id_in request ≡ id_in q
  pub earlier : day (moment_of request) < F

-- its host, run and asks are in range, each step could come next, and no transaction returns once it closed
pub record IsInOrder (s : Source) (tries : ℕ) (P : List Step) : Type 0 where
  pub host : IsHost s.host
  pub run : IsRun s.run
  pub underway : AreUnderway s tries P
  pub returns : NoneReturns s P
  pub asks : AreAsked P

-- what holds of one run, whatever the others do, and whatever is forgotten of days before F; H has the entries of all
-- ledgers, in any order
pub record Holds (day : ℕ → ℕ) (F : ℕ) (s : Source) (tries : ℕ) (P : List Step) (H : List Entry) (sent written : List (List ℕ)) : Type 0 where
  pub steps : IsInOrder s tries P
  pub sends : (q : Request) → In (frame (request_body q)) sent → IsRequest q → IsOwn s q → IsNumbered s P q
  pub taken : (e : Entry) → In e H → IsOwn s e.request → IsNumbered s P e.request
  pub wrote : (a : Reply) (q : Request) → In (frame (reply_body a)) written → IsReply a → IsOwn s q → decides q a ≡ true → is_grant a ≡ true → Wrote H a ⊎ IsForgotten day F s P q
  pub ground : IsGrounded day F s H P

abbrev pub AllSuit : List Entry → Type 0
AllSuit H = (e : Entry) → In e H → RepliesSuit e.request e.reply

-- an exchange that is on its way counts as one that failed
abbrev pub failing : Request → Exchange
failing q = record { request = q; outcome = Faulted Down; decided = None }

abbrev pub so_far : Option Request → List Step → List Step
so_far None P = P
so_far (Some q) P = with_exchange (failing q) P

-- ---- numbers of replies

abbrev pub reply_id : Reply → Option Id
reply_id (reply.Granted id used) = Some id
reply_id (reply.Full id used cap) = Some id
reply_id (reply.Settled id count) = Some id
reply_id (reply.Released id held) = Some id
reply_id (reply.LimitSet id) = Some id
reply_id (reply.Over id day used) = Some id
reply_id (reply.Closed id) = Some id
reply_id (reply.Mismatch id) = Some id
reply_id (reply.TooMany id held) = Some id
reply_id (reply.Conflict id) = Some id
reply_id (reply.Retired id) = Some id
reply_id (reply.Old id) = Some id
reply_id _ = None

reserve_answered : OfFrames → (id : Id) (a : Reply) → answers_reserve id a ≡ true → Some id ≡ reply_id a
reserve_answered F id (reply.Granted i used) h = ap Some ((F.same_ids id i).0 h)
reserve_answered F id (reply.Full i used cap) h = ap Some ((F.same_ids id i).0 h)
reserve_answered F id (reply.Closed i) h = ap Some ((F.same_ids id i).0 h)
reserve_answered F id (reply.Mismatch i) h = ap Some ((F.same_ids id i).0 h)
reserve_answered F id (reply.Conflict i) h = ap Some ((F.same_ids id i).0 h)
reserve_answered F id (reply.Old i) h = ap Some ((F.same_ids id i).0 h)
reserve_answered F id a h = absurd (clash false h refl)

closing_answered : OfFrames → (id : Id) (a : Reply) → answers_closing id a ≡ true → Some id ≡ reply_id a
closing_answered F id (reply.Settled i count) h = ap Some ((F.same_ids id i).0 h)
closing_answered F id (reply.Released i held) h = ap Some ((F.same_ids id i).0 h)
closing_answered F id (reply.Closed i) h = ap Some ((F.same_ids id i).0 h)
closing_answered F id (reply.Mismatch i) h = ap Some ((F.same_ids id i).0 h)
closing_answered F id (reply.TooMany i held) h = ap Some ((F.same_ids id i).0 h)
closing_answered F id (reply.Conflict i) h = ap Some ((F.same_ids id i).0 h)
closing_answered F id (reply.Old i) h = ap Some ((F.same_ids id i).0 h)
closing_answered F id a h = absurd (clash false h refl)

-- a reply that decides a request has its number
pub decided_id : OfFrames → (q : Request) (a : Reply) → decides q a ≡ true → id_in q ≡ reply_id a
decided_id F (Reserve id txn moment login count) a h = reserve_answered F id a h
decided_id F (Settle id txn moment login count) a h = closing_answered F id a h
decided_id F (Release id txn moment login) a h = closing_answered F id a h
decided_id F q a h = absurd (clash false h refl)

-- a reply to a request has its number
pub suited_id : (r : Request) (a : Reply) (i : Id) → RepliesSuit r a → reply_id a ≡ Some i → id_in r ≡ Some i
suited_id (Usage login day) (reply.Usage l d x y z) i h e = absurd (none_some i e)
suited_id (Usage login day) a i h e = absurd h
suited_id (ListRequest day after) (reply.List d rows) i h e = absurd (none_some i e)
suited_id (ListRequest day after) a i h e = absurd h
suited_id r (reply.Conflict j) i h e = ap Some (sym h) ∙ e
suited_id r (reply.Old j) i h e = ap Some (sym h) ∙ e
suited_id (Limit id from c login) (reply.LimitSet j) i h e = ap Some (sym h) ∙ e
suited_id (Limit id from c login) (reply.Over j day used) i h e = ap Some (sym h) ∙ e
suited_id (Limit id from c login) a i h e = absurd h
suited_id (Retire id) (reply.Retired j) i h e = ap Some (sym h) ∙ e
suited_id (Retire id) a i h e = absurd h
suited_id r (reply.Closed j) i h e = ap Some (sym h) ∙ e
suited_id r (reply.Mismatch j) i h e = ap Some (sym h) ∙ e
suited_id (Reserve id txn moment login count) (reply.Granted j used) i h e = ap Some (sym h) ∙ e
suited_id (Reserve id txn moment login count) (reply.Full j used cap) i h e = ap Some (sym h) ∙ e
suited_id (Settle id txn moment login count) (reply.Settled j n) i h e = ap Some (sym h.0) ∙ e
suited_id (Settle id txn moment login count) (reply.TooMany j held) i h e = ap Some (sym h) ∙ e
suited_id (Release id txn moment login) (reply.Released j held) i h e = ap Some (sym h) ∙ e
suited_id r a i h e = absurd h

-- so the request that it replies to has the number of the one that it decides
pub same_id_by : OfFrames → (s : Source) (q r : Request) (a : Reply) → IsOwn s q → decides q a ≡ true → RepliesSuit r a → id_in r ≡ id_in q
same_id_by F s q r a own d suits = suited_id r a (id_of s own.number) suits (sym (decided_id F q a d) ∙ own.id) ∙ sym own.id

pub own_by : (s : Source) (q r : Request) → IsOwn s q → id_in r ≡ id_in q → IsOwn s r
own_by s q r own same = record { number = own.number; id = same ∙ own.id }

-- ---- a step begins

no_ground : (day : ℕ → ℕ) (F : ℕ) (s : Source) (H : List Entry) (v : View) (a : Action) (g : List Exchange) → answer_of g ≡ asked.Unavailable → IsGround day F s H v a g
no_ground day F s H v (Ask txn moment login) g z = λ o f. (let no : ⊥ = cc in absurd no)
no_ground day F s H v a g z = tt

-- what was written was granted or is forgotten, also of a past in which each request has its number still
wrote_on : {day : ℕ → ℕ} {F : ℕ} → (s : Source) (P Q : List Step) (H : List Entry) (a : Reply) (q : Request) → ((r : Request) → IsNumbered s P r → IsNumbered s Q r) → Wrote H a ⊎ IsForgotten day F s P q → Wrote H a ⊎ IsForgotten day F s Q q
wrote_on s P Q H a q more (inl w) = inl w
wrote_on s P Q H a q more (inr f) = inr (record { request = f.request; numbered = more f.request f.numbered; same = f.same; earlier = f.earlier })

pub begins : {day : ℕ → ℕ} {F : ℕ} → (s : Source) (tries : ℕ) (P : List Step) (H : List Entry) (sent written : List (List ℕ)) (a : Action) (quiet : Bool) → NoneReturns s (begun quiet a ∷ P) → IsAsked a → Holds day F s tries P H sent written → Holds day F s tries (begun quiet a ∷ P) H sent written
begins {day = day} {F = since} s tries P H sent written a quiet fresh i h = record {
  steps = record { host = h.steps.host; run = h.steps.run; underway = (tt, h.steps.underway); returns = fresh; asks = (i, h.steps.asks) };
  sends = λ q j r own. begun_numbered s quiet a P q (h.sends q j r own);
  taken = λ e j own. begun_numbered s quiet a P e.request (h.taken e j own);
  wrote = λ b q j r own d g. wrote_on s P (begun quiet a ∷ P) H b q (begun_numbered s quiet a P) (h.wrote b q j r own d g);
  ground = (no_ground day since s H (view s P) a [] refl, h.ground);
}

-- ---- a frame is sent

none_brought : (q : Request) → IsDecision q (Faulted Down) None
none_brought q = λ a b. absurd b

-- the run with the exchange of a request on its way, which is in range and has a number of the run
pub record Sent (day : ℕ → ℕ) (F : ℕ) (s : Source) (tries : ℕ) (P : List Step) (H : List Entry) (sent written : List (List ℕ)) (q : Request) : Type 0 where
  pub holds : Holds day F s tries (with_exchange (failing q) P) H (request_frame q ∷ sent) written
  pub range : IsRequest q
  pub own : IsOwn s q

pub sends_on : {day : ℕ → ℕ} {F : ℕ} → OfFrames → OfClients → (s : Source) (tries : ℕ) (P : List Step) (H : List Entry) (sent written : List (List ℕ)) (a : Action) (g : List Exchange) (quiet : Bool) (q : Request) → next s (tries_in tries quiet) (view s P) a g ≡ Some q
    → Holds day F s tries (step_of a quiet g ∷ P) H sent written → Sent day F s tries (step_of a quiet g ∷ P) H sent written q
sends_on {day = day} {F = since} F C s tries P H sent written a g quiet q e h =
    let o = h.steps in
    let u : AreUnderway s tries (step_of a quiet (failing q ∷ g) ∷ P) = ((e, none_brought q, o.underway.0), o.underway.1) in
    let range : IsRequest q = next_in_range C.bounded s tries a g quiet (failing q) P o.host o.run o.asks u in
    let new : IsNumbered s (step_of a quiet (failing q ∷ g) ∷ P) q = (C.sent s tries (step_of a quiet (failing q ∷ g) ∷ P) u).0 in
    record {
      holds = record {
        steps = record { host = o.host; run = o.run; underway = u; returns = o.returns; asks = o.asks };
        sends = λ r i k own. elim i [
          | inl same ↦ subst (IsNumbered s (step_of a quiet (failing q ∷ g) ∷ P)) (F.one_request q r range k same) new
          | inr j ↦ more_numbered s a (failing q) g quiet P r (h.sends r j k own)
        ];
        taken = λ x i own. more_numbered s a (failing q) g quiet P x.request (h.taken x i own);
        wrote = λ b r i k own d z. wrote_on s (step_of a quiet g ∷ P) (step_of a quiet (failing q ∷ g) ∷ P) H b r (more_numbered s a (failing q) g quiet P) (h.wrote b r i k own d z);
        ground = (no_ground day since s H (view s P) a (failing q ∷ g) refl, h.ground.1);
      };
      range = range;
      own = numbered_own s (step_of a quiet (failing q ∷ g) ∷ P) q new;
    }

-- ---- an exchange ends

-- a reply that the exchange brings, and that decides the request, was written
abbrev pub Comes : (written : List (List ℕ)) → Request → ExchangeOutcome → Type 0
Comes written q o = (a : Reply) → Brings o a → decides q a ≡ true → In (frame (reply_body a)) written × IsReply a

-- an answer Granted comes of a reply Granted
granted_by : (o : Option Reply) → answer_by o ≡ asked.Granted → (a : Reply) × (o ≡ Some a) × (is_grant a ≡ true)
granted_by (Some (reply.Granted id used)) e = (reply.Granted id used, refl, refl)
granted_by o e = (let no : ⊥ = cc in absurd no)

heard : {day : ℕ → ℕ} {F : ℕ} → OfFrames → OfClients → (s : Source) (tries : ℕ) (P : List Step) (H : List Entry) (sent written : List (List ℕ)) (txn moment : ℕ) (login : List ℕ) (g : List Exchange) (quiet : Bool) (x : Exchange)
    → AllSuit H → Holds day F s tries (step_of (Ask txn moment login) quiet (failing x.request ∷ g) ∷ P) H sent written → Comes written x.request x.outcome → IsDecision x.request x.outcome x.decided
    → answer_by x.decided ≡ asked.Granted → F ≤ day moment → GrantedIn s H (view s P).numbers txn moment login
heard {day = day} {F = since} F C s tries P H sent written txn moment login g quiet x suits h may dec e on =
    let v = view s P in
    let Q : List Step = step_of (Ask txn moment login) quiet (failing x.request ∷ g) ∷ P in
    let k = granted_by x.decided e in
    let D : Option Reply → Type 0 = λ o. IsDecision x.request x.outcome o in
    let d : Brings x.outcome k.0 × (decides x.request k.0 ≡ true) = subst D k.1 dec in
    let came = may k.0 d.0 d.1 in
    let number : IsNumbered s Q x.request = (C.sent s tries Q h.steps.underway).0 in
    let own : IsOwn s x.request = numbered_own s Q x.request number in
    let free = free_ask (refuses (held_by (v.standing txn)) (length v.live) v.numbers (length v.waiting) moment login) (reserve_of s (v.numbers + 1) txn moment login) x.request (next_among (tries_in tries quiet) _ g x.request h.steps.underway.0.0) in
    elim (h.wrote k.0 x.request came.0 came.1 own d.1 k.2) [
      | inl w ↦ (let R : Reply → Type 0 = λ a. RepliesSuit w.entry.request a in
          let fits : RepliesSuit w.entry.request k.0 = subst R w.is (suits w.entry w.among) in
          let same = same_id_by F s x.request w.entry.request k.0 own d.1 fits in
          let there = h.taken w.entry w.among (own_by s x.request w.entry.request own same) in
          let is : w.entry.request ≡ x.request = one_request s Q w.entry.request x.request there number same in
          record {
            entry = w.entry;
            among = w.among;
            request = is ∙ sym free.1;
            granted = ap is_grant w.is ∙ k.2;
          })
      | inr f ↦ (let is : f.request ≡ x.request = one_request s Q f.request x.request f.numbered number f.same in
          let at_is : moment_of f.request ≡ moment = ap moment_of (is ∙ sym free.1) in
          let less = subst (λ m. day m < since) at_is f.earlier in
          absurd (omega (arith, less, on)))
    ]

heard_ground : {day : ℕ → ℕ} {F : ℕ} → OfFrames → OfClients → (s : Source) (tries : ℕ) (P : List Step) (H : List Entry) (sent written : List (List ℕ)) (a : Action) (g : List Exchange) (quiet : Bool) (x : Exchange)
    → AllSuit H → Holds day F s tries (step_of a quiet (failing x.request ∷ g) ∷ P) H sent written → Comes written x.request x.outcome → IsDecision x.request x.outcome x.decided → IsGround day F s H (view s P) a (x ∷ g)
heard_ground F C s tries P H sent written (Ask txn moment login) g quiet x suits h may dec = λ e on. heard F C s tries P H sent written txn moment login g quiet x suits h may dec e on
heard_ground F C s tries P H sent written a g quiet x suits h may dec = tt

pub ends_on : {day : ℕ → ℕ} {F : ℕ} → OfFrames → OfClients → (s : Source) (tries : ℕ) (P : List Step) (H : List Entry) (sent written : List (List ℕ)) (a : Action) (g : List Exchange) (quiet : Bool) (x : Exchange)
    → AllSuit H → Holds day F s tries (step_of a quiet (failing x.request ∷ g) ∷ P) H sent written → Comes written x.request x.outcome → IsDecision x.request x.outcome x.decided → Holds day F s tries (step_of a quiet (x ∷ g) ∷ P) H sent written
ends_on F C s tries P H sent written a g quiet x suits h may dec = record {
  steps = (let o = h.steps in let u = o.underway in record { host = o.host; run = o.run; underway = ((u.0.0, dec, u.0.2), u.1); returns = o.returns; asks = o.asks });
  sends = λ q i r own. ended_numbered s a (failing x.request) x g quiet P q (h.sends q i r own);
  taken = λ e i own. ended_numbered s a (failing x.request) x g quiet P e.request (h.taken e i own);
  wrote = λ b q i r own d z. wrote_on s (step_of a quiet (failing x.request ∷ g) ∷ P) (step_of a quiet (x ∷ g) ∷ P) H b q (ended_numbered s a (failing x.request) x g quiet P) (h.wrote b q i r own d z);
  ground = (heard_ground F C s tries P H sent written a g quiet x suits h may dec, h.ground.1);
}

-- ---- others send, and the ledger writes what it wrote

pub others_send : {day : ℕ → ℕ} {F : ℕ} → (s : Source) (tries : ℕ) (P : List Step) (H : List Entry) (sent written : List (List ℕ)) (bytes : List ℕ) → ((q : Request) → bytes ≡ frame (request_body q) → IsRequest q → IsOwn s q → ⊥)
    → Holds day F s tries P H sent written → Holds day F s tries P H (bytes ∷ sent) written
others_send s tries P H sent written bytes others h = record {
  steps = h.steps;
  sends = λ q i r own. elim i [ inl e ↦ absurd (others q e r own) | inr j ↦ h.sends q j r own ];
  taken = h.taken;
  wrote = h.wrote;
  ground = h.ground;
}

pub writes_on : {day : ℕ → ℕ} {F : ℕ} → (s : Source) (tries : ℕ) (P : List Step) (H : List Entry) (sent written : List (List ℕ)) (bytes : List ℕ) → ((a : Reply) (q : Request) → bytes ≡ frame (reply_body a) → IsReply a → IsOwn s q → decides q a ≡ true → is_grant a ≡ true → Wrote H a ⊎ IsForgotten day F s P q)
    → Holds day F s tries P H sent written → Holds day F s tries P H sent (bytes ∷ written)
writes_on s tries P H sent written bytes known h = record {
  steps = h.steps;
  sends = h.sends;
  taken = h.taken;
  wrote = λ a q i r own d g. elim i [ inl e ↦ known a q e r own d g | inr j ↦ h.wrote a q j r own d g ];
  ground = h.ground;
}

-- ---- the same entries in another order

pub holds_in : {day : ℕ → ℕ} {F : ℕ} → (s : Source) (tries : ℕ) (P : List Step) (H K : List Entry) (sent written : List (List ℕ)) → ((e : Entry) → In e H → In e K) → ((e : Entry) → In e K → In e H)
    → Holds day F s tries P H sent written → Holds day F s tries P K sent written
holds_in {day = day} {F = since} s tries P H K sent written there back h = record {
  steps = h.steps;
  sends = h.sends;
  taken = λ e i own. h.taken e (back e i) own;
  wrote = λ a q i r own d g. elim (h.wrote a q i r own d g) [
    | inl w ↦ inl (record { entry = w.entry; among = there w.entry w.among; is = w.is })
    | inr f ↦ inr f
  ];
  ground = ground_in day since s H K there P h.ground;
}
