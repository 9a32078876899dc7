-- A step of a client, at each past at which it stands.
use Rattle.std.proofs.Common.{◌≡◌, ℕ, ◌+◌, ◌≤◌, ◌==◌, Bool, false, true, List, [], ◌∷◌, ◌++◌, length, drop, refl, sym, ap, ◌∙◌, subst, arith, Option, None, Some, is_some, if◌then◌else◌, MatchBool}
use Rattle.mq_client.proofs.Words.{Action, AreFailed, AreTries, Ask, RecipientAnswer, Close, CloseEnd, Closed, Drain, Exchange, HeldTransaction, IsUndecided, Live, Makes, NoneYet, OneMore, PlaysFrom, Reply, Request, Sends, SendsAll, SendsSome, SendsUpTo, Source, TransactionState, State, View, answer_by, answer_of, closing_of, decisions, drop-drop, eq-eqb, find, held_by, let_through, opened, refuses, reserve_of, tries_in, view, with_asked}
use Rattle.mq_client.proofs.Counting.{counted, length_closed}

-- the answer is that of the reply that decided
pub answer_of_tries : (n : ℕ) (q : Request) (group : List Exchange) (decided : Option Reply) → AreTries n q group decided → answer_of group ≡ answer_by decided
answer_of_tries n q [] None t = refl
answer_of_tries n q (x ∷ group) None t = ap answer_by t.0.0.decided_is
answer_of_tries n q [] (Some r) t = absurd t
answer_of_tries n q (x ∷ group) (Some r) t = ap answer_by t.0.decided_is

not_empty : (n : ℕ) (q : Request) (decided : Option Reply) → 1 ≤ n → AreTries n q [] decided → ⊥
not_empty n q None h t = omega (arith, h, t.1)
not_empty n q (Some r) h t = t

-- what may come next depends on what the past leaves
plays_alike : (s : Source) (n : ℕ) (a : Action) (group : List Exchange) (o p : Option HeldTransaction) (l m u v : ℕ) (w x : List Request) → o ≡ p → l ≡ m → u ≡ v → w ≡ x → PlaysFrom s n o l u w a group → PlaysFrom s n p m v x a group
plays_alike s n a group o p l m u v w x e f g h play =
    subst (λ (i : List Request). PlaysFrom s n p m v i a group) h (subst (λ (i : ℕ). PlaysFrom s n p m i w a group) g (subst (λ (i : ℕ). PlaysFrom s n p i u w a group) f (subst (λ (i : Option HeldTransaction). PlaysFrom s n i l u w a group) e play)))

match_true : (b : Bool) (A B : Type 0) → b ≡ true → A → MatchBool b A B
match_true b A B e a = rw e a

match_false : (b : Bool) (A B : Type 0) → b ≡ false → B → MatchBool b A B
match_false b A B e a = rw e a

-- ---- asks

-- an ask that is refused changes nothing
pub refused : (c : State) (txn moment : ℕ) (login : List ℕ) → refuses (find c.held txn) (length c.held) c.numbers (length c.waiting) moment login ≡ true → Makes c c (record { action = Ask txn moment login; group = []; quiet = false })
refused c txn moment login h = record {
  source = refl;
  tries = refl;
  plays = λ P st. plays_alike c.source c.tries (Ask txn moment login) [] _ _ _ _ _ _ _ _ (st.held txn) st.live st.numbers st.waiting (match_true _ _ _ h refl);
  stands = λ P st. record { held = st.held; live = st.live; numbers = st.numbers; waiting = st.waiting };
}

either : (b : Bool) (q : Request) → MatchBool b (◌≡◌ {A = List Exchange} [] []) ((decided : Option Reply) × AreTries 0 q [] decided)
either true q = refl
either false q = (None, (tt, refl))

-- an ask that is held back changes nothing
pub held_back : (c : State) (txn moment : ℕ) (login : List ℕ) → Makes c c (record { action = Ask txn moment login; group = []; quiet = true })
held_back c txn moment login = record {
  source = refl;
  tries = refl;
  plays = λ P st. let v = view c.source P in
      either (refuses (held_by (v.standing txn)) (length v.live) v.numbers (length v.waiting) moment login) (reserve_of c.source (v.numbers + 1) txn moment login);
  stands = λ P st. record { held = st.held; live = st.live; numbers = st.numbers; waiting = st.waiting };
}

held_at : (v : View) (txn moment : ℕ) (login : List ℕ) (answer now : RecipientAnswer) (held new : List (ℕ × HeldTransaction)) (t : ℕ) (b : Bool) → answer ≡ now
    → find new t ≡ (if b then Some (let_through answer (opened moment login (find held txn))) else find held t)
    → ((k : ℕ) → find held k ≡ held_by (v.standing k))
    → find new t ≡ held_by (if b then Live (let_through now (opened moment login (held_by (v.standing txn)))) else v.standing t)
held_at v txn moment login answer now held new t true e n h = n ∙ ap (λ o. Some (let_through answer (opened moment login o))) (h txn) ∙ ap (λ a. Some (let_through a (opened moment login (held_by (v.standing txn))))) e
held_at v txn moment login answer now held new t false e n h = n ∙ h t

live_at : (o p : Option HeldTransaction) (txn : ℕ) (live : List ℕ) (old new : ℕ) → o ≡ p → old ≡ length live → new ≡ (if is_some o then old else old + 1) → new ≡ length (with_asked txn p live)
live_at None p txn live old new e l n = rw (← e) (omega (arith, n, l))
live_at (Some h) p txn live old new e l n = rw (← e) (n ∙ l)

-- an ask with its exchanges
pub asked : (c d : State) (txn moment : ℕ) (login : List ℕ) (group : List Exchange) (decided : Option Reply) → 1 ≤ c.tries → d.source ≡ c.source → d.tries ≡ c.tries
    → refuses (find c.held txn) (length c.held) c.numbers (length c.waiting) moment login ≡ false
    → AreTries c.tries (reserve_of c.source (c.numbers + 1) txn moment login) group decided
    → ((t : ℕ) → find d.held t ≡ (if txn == t then Some (let_through (answer_by decided) (opened moment login (find c.held txn))) else find c.held t))
    → length d.held ≡ (if is_some (find c.held txn) then length c.held else length c.held + 1) → d.numbers ≡ c.numbers + 1 → d.waiting ≡ c.waiting
    → Makes c d (record { action = Ask txn moment login; group = group; quiet = false })
asked c d txn moment login [] decided pos source same free tries held len numbers waiting = absurd (not_empty c.tries (reserve_of c.source (c.numbers + 1) txn moment login) decided pos tries)
asked c d txn moment login (x ∷ group) decided pos source same free tries held len numbers waiting = record {
  source = source;
  tries = same;
  plays = λ P st. plays_alike c.source c.tries (Ask txn moment login) (x ∷ group) _ _ _ _ _ _ _ _ (st.held txn) st.live st.numbers st.waiting (match_false _ _ _ free (decided, tries));
  stands = λ P st. rw source (let now : answer_by decided ≡ answer_of (x ∷ group) = sym (answer_of_tries c.tries (reserve_of c.source (c.numbers + 1) txn moment login) (x ∷ group) decided tries) in record {
    held = λ t. held_at (view c.source P) txn moment login (answer_by decided) (answer_of (x ∷ group)) c.held d.held t (txn == t) now (held t) st.held;
    live = live_at (find c.held txn) (held_by ((view c.source P).standing txn)) txn (view c.source P).live (length c.held) (length d.held) (st.held txn) st.live len;
    numbers = numbers ∙ ap (λ i. i + 1) st.numbers;
    waiting = waiting ∙ st.waiting;
  });
}

pick : {A : Type 0} (b : Bool) (x y z w : A) → z ≡ (if b then y else w) → (if b then x else z) ≡ (if b then x else w)
pick true x y z w e = refl
pick false x y z w e = e

-- a transaction is held, and then what was let through is counted
pub held_and_counted : (txn moment : ℕ) (login : List ℕ) (answer : RecipientAnswer) (old mid new : List (ℕ × HeldTransaction))
    → ((t : ℕ) → find mid t ≡ (if txn == t then Some (opened moment login (find old txn)) else find old t))
    → ((h : HeldTransaction) → find mid txn ≡ Some h → (t : ℕ) → find new t ≡ (if txn == t then Some (let_through answer h) else find mid t))
    → (t : ℕ) → find new t ≡ (if txn == t then Some (let_through answer (opened moment login (find old txn))) else find old t)
held_and_counted txn moment login answer old mid new h n t =
    let here : find mid txn ≡ Some (opened moment login (find old txn)) = rw (eq-eqb txn txn refl) at (h txn) in
    n (opened moment login (find old txn)) here t ∙ pick (txn == t) _ _ _ _ (h t)

-- ---- closings and drains

decisions-append : (later done : List Exchange) → decisions (later ++ done) ≡ decisions later + decisions done
decisions-append [] done = omega arith
decisions-append (x ∷ later) done = count_more (is_some (x.decided)) (decisions (later ++ done)) (decisions later) (decisions done) (decisions-append later done)
  where
    count_more : (b : Bool) (n m k : ℕ) → n ≡ m + k → (if b then n + 1 else n) ≡ (if b then m + 1 else m) + k
    count_more true n m k e = omega (arith, e)
    count_more false n m k e = e

decisions_failed : (q : Request) (group : List Exchange) → AreFailed q group → decisions group ≡ 0
decisions_failed q [] f = refl
decisions_failed q (x ∷ group) f = rw f.0.decided_is (decisions_failed q group f.1)

pub decisions_decided : (n : ℕ) (q : Request) (tries : List Exchange) (r : Reply) → AreTries n q tries (Some r) → decisions tries ≡ 1
decisions_decided n q [] r t = absurd t
decisions_decided n q (x ∷ tries) r t = rw t.0.decided_is (ap (λ k. k + 1) (decisions_failed q tries t.1))

pub decisions_undecided : (n : ℕ) (q : Request) (tries : List Exchange) → IsUndecided n q tries → decisions tries ≡ 0
decisions_undecided n q [] t = refl
decisions_undecided n q (x ∷ tries) t = decisions_failed q (x ∷ tries) t.0

pub some_left : (n : ℕ) (queue : List Request) (group : List Exchange) (left : List Request) → SendsSome n queue group left → left ≡ drop (decisions group) queue
some_left n queue group left NoneYet = refl
some_left n queue group left (OneMore q more done tries r s t) =
    let count : decisions (tries ++ done) ≡ decisions done + 1 = omega (arith, decisions-append tries done, decisions_decided n q tries r t) in
    rw count (ap (drop 1) (some_left n queue done (q ∷ left) s) ∙ drop-drop 1 (decisions done) queue)

pub sends_left : (n : ℕ) (queue : List Request) (group : List Exchange) (left : List Request) → Sends n queue group left → left ≡ drop (decisions group) queue
sends_left n queue group left (SendsAll done s) = some_left n queue group left s
sends_left n queue group left (SendsUpTo q more done tries s t) =
    let count : decisions (tries ++ done) ≡ decisions done = omega (arith, decisions-append tries done, decisions_undecided n q tries t) in
    rw count (some_left n queue done (q ∷ more) s)

-- a close of a transaction that isn't held
pub closed_nothing : (c : State) (txn : ℕ) (end : CloseEnd) (quiet : Bool) → find c.held txn ≡ None → Makes c c (record { action = Close txn end; group = []; quiet = quiet })
closed_nothing c txn end quiet e =
    record {
      source = refl;
      tries = refl;
      plays = λ P st. plays_alike c.source (tries_in c.tries quiet) (Close txn end) [] _ _ _ _ _ _ _ _ (st.held txn) st.live st.numbers st.waiting (subst (λ (o : Option HeldTransaction). PlaysFrom c.source (tries_in c.tries quiet) o (length c.held) c.numbers c.waiting (Close txn end) []) (sym e) refl);
      stands = λ P st. let gone : held_by ((view c.source P).standing txn) ≡ None = sym (st.held txn) ∙ e in
          record { held = rw gone st.held; live = rw gone st.live; numbers = rw gone st.numbers; waiting = rw gone st.waiting };
    }

gone_at : (v : View) (txn : ℕ) (st : TransactionState) (held new : List (ℕ × HeldTransaction)) (t : ℕ) (b : Bool) → held_by st ≡ None → find new t ≡ (if b then None else find held t)
    → ((k : ℕ) → find held k ≡ held_by (v.standing k)) → find new t ≡ held_by (if b then st else v.standing t)
gone_at v txn st held new t true e n h = n ∙ sym e
gone_at v txn st held new t false e n h = n ∙ h t

pub closed : (c d : State) (txn : ℕ) (end : CloseEnd) (quiet : Bool) (h : HeldTransaction) (group : List Exchange) → d.source ≡ c.source → d.tries ≡ c.tries → find c.held txn ≡ Some h
    → Sends (tries_in c.tries quiet) (c.waiting ++ closing_of c.source (c.numbers + 1) txn end h ∷ []) group d.waiting
    → ((t : ℕ) → find d.held t ≡ (if txn == t then None else find c.held t)) → length d.held + 1 ≡ length c.held → d.numbers ≡ c.numbers + 1
    → Makes c d (record { action = Close txn end; group = group; quiet = quiet })
closed c d txn end quiet h group source same e sends held len numbers =
    record {
      source = source;
      tries = same;
      plays = λ P st. plays_alike c.source (tries_in c.tries quiet) (Close txn end) group _ _ _ _ _ _ _ _ (st.held txn) st.live st.numbers st.waiting (subst (λ (o : Option HeldTransaction). PlaysFrom c.source (tries_in c.tries quiet) o (length c.held) c.numbers c.waiting (Close txn end) group) (sym e) (d.waiting, sends));
      stands = λ P st. rw source (
          let v : View = view c.source P in
          let was : held_by (v.standing txn) ≡ Some h = sym (st.held txn) ∙ e in
          let queue : c.waiting ++ closing_of c.source (c.numbers + 1) txn end h ∷ [] ≡ v.waiting ++ closing_of c.source (v.numbers + 1) txn end h ∷ [] =
          ap (λ w. w ++ closing_of c.source (c.numbers + 1) txn end h ∷ []) st.waiting ∙ ap (λ k. v.waiting ++ closing_of c.source (k + 1) txn end h ∷ []) st.numbers in
          record {
            held = rw was (λ t. gone_at v txn (Closed end (v.numbers + 1) h) c.held d.held t (txn == t) refl (held t) st.held);
            live = rw was (omega (arith, len, st.live, length_closed v txn (counted c.source P) (ap is_some was)));
            numbers = rw was (numbers ∙ ap (λ i. i + 1) st.numbers);
            waiting = rw was (sends_left (tries_in c.tries quiet) _ group d.waiting sends ∙ ap (drop (decisions group)) queue);
          });
    }

pub drained : (c d : State) (group : List Exchange) → d.source ≡ c.source → d.tries ≡ c.tries → d.held ≡ c.held → d.numbers ≡ c.numbers → Sends c.tries c.waiting group d.waiting → Makes c d (record { action = Drain; group = group; quiet = false })
drained c d group source same held numbers sends = record {
  source = source;
  tries = same;
  plays = λ P st. (d.waiting, subst (λ (w : List Request). Sends c.tries w group d.waiting) st.waiting sends);
  stands = λ P st. rw source (record {
    held = λ t. ap (λ l. find l t) held ∙ st.held t;
    live = ap length held ∙ st.live;
    numbers = numbers ∙ st.numbers;
    waiting = sends_left c.tries _ group d.waiting sends ∙ ap (drop (decisions group)) st.waiting;
  });
}
