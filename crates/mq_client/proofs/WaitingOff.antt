-- What waits is what is read off the whole past: the closings that no exchange decided.
use Rattle.std.proofs.Common.{◌≡◌, ℕ, zero, suc, ◌+◌, ◌<◌, ◌≤◌, ◌==◌, ◌||◌, not, Bool, false, true, List, [], ◌∷◌, ◌++◌, refl, sym, ap, ◌∙◌, subst, arith, append_assoc, append-nil, Option, None, Some, is_some, if◌then◌else◌, filter}
use Rattle.mq_client.proofs.Words.{Action, AllByRecursion, all_append, and_false, AreUnderway, Ask, Close, CloseEnd, ComeInTurn, Drain, Exchange, HeldTransaction, Id, Limit, Release, Request, Reserve, Retire, Settle, Source, Step, View, after, after_close, all_push, closing_of, closing_under, closings_in, decisions, drop, drop-drop, held_by, held_for, is_decided_by, is_decided_in, live_in, neither_so, never, none_some, numbers_in, or_first, or_second, queue_of, reserve_of, same_id, same_request, same_text, slice_get, some_is, tries_in, view, waiting_in, and_left, weaker}
use Rattle.std.proofs.lemmas.List.Elements.{filter-append}
use Rattle.mq_lemmas.proofs.Lists.{all_of, all_split}
use Rattle.mq_lemmas.proofs.Numbers.{other_number}
use Rattle.mq_request.proofs.Alike.{request_itself}
use Rattle.mq_client.proofs.Basics.{all_at, of_closing}
use Rattle.mq_client.proofs.Turning.{next_in_queue}
use Rattle.mq_client.proofs.ReadingOff.{live_read, numbers_read}

-- ---- requests of closings

abbrev pub seq_of : Request → ℕ
seq_of (Reserve id txn moment login count) = id.number
seq_of (Settle id txn moment login count) = id.number
seq_of (Release id txn moment login) = id.number
seq_of (Limit id from_day cap login) = id.number
seq_of (Retire id) = id.number
seq_of _ = 0

abbrev IsClosing : Request → Type 0
IsClosing (Settle id txn moment login count) = Unit {0}
IsClosing (Release id txn moment login) = Unit {0}
IsClosing _ = ⊥

other_id : (a b : Id) → a.number < b.number → same_id a b ≡ false
other_id a b h = never (same_text a.host b.host) _ (never (a.run == b.run) _ (other_number a.number b.number h))

-- a closing under a later number is another request
other_request : (r q : Request) → IsClosing q → seq_of r < seq_of q → same_request r q ≡ false
other_request (Settle a txn moment login count) (Settle b txn' moment' login' count') c h = and_left (same_id a b) _ (other_id a b h)
other_request (Release a txn moment login) (Release b txn' moment' login') c h = and_left (same_id a b) _ (other_id a b h)
other_request r (Settle b txn' moment' login' count') c h = refl
other_request r (Release b txn' moment' login') c h = refl
other_request r q c h = absurd c

-- a reserve is no closing
reserve_other : (s : Source) (n txn moment : ℕ) (login : List ℕ) (q : Request) → IsClosing q → same_request (reserve_of s n txn moment login) q ≡ false
reserve_other s n txn moment login (Settle id txn' moment' login' count) c = refl
reserve_other s n txn moment login (Release id txn' moment' login') c = refl
reserve_other s n txn moment login q c = absurd c

closing_is : (s : Source) (n txn : ℕ) (end : CloseEnd) (h : HeldTransaction) → IsClosing (closing_of s n txn end h) × (seq_of (closing_of s n txn end h) ≡ n)
closing_is s n txn end h = of_closing (λ (q : Request). IsClosing q × (seq_of q ≡ n)) s n txn end h (tt, refl) (tt, refl)

-- ---- which requests a group decided

-- an exchange that fails decides nothing
failed_more : (x : Exchange) (group : List Exchange) (q : Request) → is_some x.decided ≡ false → is_decided_by (x ∷ group) q ≡ is_decided_by group q
failed_more x group q e = rw (e, and_false (same_request x.request q)) refl

-- an ask decides no closing
ask_none : (n : ℕ) (r : Request) (group : List Exchange) (q : Request) → ComeInTurn n (r ∷ []) group → same_request r q ≡ false → is_decided_by group q ≡ false
ask_none n r [] q turns other = refl
ask_none n r (x ∷ group) q turns other =
    let is : x.request ≡ r = all_at (λ (p : Request). p ≡ r) (decisions group) (r ∷ []) x.request (refl, tt) (next_in_queue n (r ∷ []) group x.request turns.0).1 in
    neither_so _ _ (and_left (same_request x.request q) (is_some x.decided) (ap (λ p. same_request p q) is ∙ other)) (ask_none n r group q turns.2 other)

-- ---- lists of closings, the earlier numbers first

abbrev Ascends : List Request → Type 0
Ascends [] = Unit {0}
Ascends (q ∷ qs) = AllByRecursion (λ r. seq_of q < seq_of r) qs × Ascends qs

all_two : (P Q : Request → Type 0) (R : Request → Type 0) (qs : List Request) → ((q : Request) → P q → Q q → R q) → AllByRecursion P qs → AllByRecursion Q qs → AllByRecursion R qs
all_two P Q R [] f a b = tt
all_two P Q R (q ∷ qs) f a b = (f q a.0 b.0, all_two P Q R qs f a.1 b.1)

ascends_push : (qs : List Request) (q : Request) → Ascends qs → AllByRecursion (λ r. seq_of r < seq_of q) qs → Ascends (qs ++ q ∷ [])
ascends_push [] q a h = (tt, tt)
ascends_push (x ∷ qs) q a h = (all_push (λ r. seq_of x < seq_of r) qs q a.0 h.0, ascends_push qs q a.1 h.1)

ascends_back : (xs ys : List Request) → Ascends (xs ++ ys) → Ascends ys
ascends_back [] ys a = a
ascends_back (x ∷ xs) ys a = ascends_back xs ys a.1

-- each of the back comes after all of the front
abbrev ComesAfter : List Request → Request → Type 0
ComesAfter xs q = AllByRecursion (λ r. seq_of r < seq_of q) xs

comes_after : (xs ys : List Request) → Ascends (xs ++ ys) → AllByRecursion (ComesAfter xs) ys
comes_after [] ys a = all_of (ComesAfter []) ys (λ q i. tt)
comes_after (x ∷ xs) ys a = all_two (λ r. seq_of x < seq_of r) (ComesAfter xs) (ComesAfter (x ∷ xs)) ys (λ q h i. (h, i)) (all_split (λ r. seq_of x < seq_of r) xs ys a.0).1 (comes_after xs ys a.1)

-- ---- what a group leaves of a queue

record Splits (queue : List Request) (group : List Exchange) (left : List Request) : Type 0 where
  done : List Request
  whole : queue ≡ done ++ left
  decided : AllByRecursion (λ q. is_decided_by group q ≡ true) done
  others : (q : Request) → IsClosing q → ComesAfter done q → is_decided_by group q ≡ false

-- what stands at a place of a list begins what is left from there on
starts_at : (k : ℕ) (queue : List Request) (q : Request) → slice_get queue k ≡ Some q → drop k queue ≡ q ∷ drop 1 (drop k queue)
starts_at zero [] q e = absurd (none_some q e)
starts_at zero (x ∷ queue) q e = ap (λ z. z ∷ queue) (some_is x q e)
starts_at (suc k) [] q e = absurd (none_some q e)
starts_at (suc k) (x ∷ queue) q e = starts_at k queue q e

splits_more : (n : ℕ) (queue : List Request) (x : Exchange) (group : List Exchange) (b : Bool) → is_some x.decided ≡ b → slice_get queue (decisions group) ≡ Some x.request
    → Splits queue group (drop (decisions group) queue) → Splits queue (x ∷ group) (drop (if b then decisions group + 1 else decisions group) queue)
splits_more n queue x group false e at p = record {
  done = p.done;
  whole = p.whole;
  decided = weaker (λ q. is_decided_by group q ≡ true) (λ q. is_decided_by (x ∷ group) q ≡ true) (λ q h. failed_more x group q e ∙ h) p.done p.decided;
  others = λ q c h. failed_more x group q e ∙ p.others q c h;
}
splits_more n queue x group true e at p =
    let r = x.request in
    let left = drop (decisions group + 1) queue in
    let front : drop (decisions group) queue ≡ r ∷ left = starts_at (decisions group) queue r at ∙ ap (λ l. r ∷ l) (drop-drop 1 (decisions group) queue) in
    let parts : queue ≡ p.done ++ r ∷ left = p.whole ∙ ap (λ l. p.done ++ l) front in
    record {
      done = p.done ++ r ∷ [];
      whole = parts ∙ sym (append_assoc p.done (r ∷ []) left);
      decided = all_push (λ q. is_decided_by (x ∷ group) q ≡ true) p.done r
          (weaker (λ q. is_decided_by group q ≡ true) (λ q. is_decided_by (x ∷ group) q ≡ true) (λ q h. or_second _ (is_decided_by group q) h) p.done p.decided)
          (or_first _ (is_decided_by group r) (rw (request_itself r) e));
      others = λ q c h.
          let (first, last) = all_split (λ y. seq_of y < seq_of q) p.done (r ∷ []) h in
          neither_so _ _ (and_left (same_request r q) (is_some x.decided) (other_request r q c last.0)) (p.others q c first);
    }

splits : (n : ℕ) (queue : List Request) (group : List Exchange) → AllByRecursion IsClosing queue → ComeInTurn n queue group → Splits queue group (drop (decisions group) queue)
splits n queue [] all turns = record { done = []; whole = refl; decided = tt; others = λ q c h. refl }
splits n queue (x ∷ group) all turns =
    splits_more n queue x group (is_some x.decided) refl (next_in_queue n queue group x.request turns.0).1 (splits n queue group all turns.2)

-- ---- what waits in a past

record Waits (dec : Request → Bool) (closings waiting : List Request) (numbers : ℕ) : Type 0 where
  done : List Request
  whole : closings ≡ done ++ waiting
  decided : AllByRecursion (λ q. dec q ≡ true) done
  undecided : AllByRecursion (λ q. dec q ≡ false) waiting
  closing : AllByRecursion IsClosing closings
  ascends : Ascends closings
  below : AllByRecursion (λ q. seq_of q ≤ numbers) closings
  beyond : (q : Request) → IsClosing q → numbers < seq_of q → dec q ≡ false

-- a closing joins
waits_more : (dec : Request → Bool) (closings waiting : List Request) (n : ℕ) (q : Request) → Waits dec closings waiting n → IsClosing q → seq_of q ≡ n + 1 → Waits dec (closings ++ q ∷ []) (waiting ++ q ∷ []) (n + 1)
waits_more dec closings waiting n q w c e = record {
  done = w.done;
  whole = ap (λ l. l ++ q ∷ []) w.whole ∙ append_assoc w.done waiting (q ∷ []);
  decided = w.decided;
  undecided = all_push (λ r. dec r ≡ false) waiting q w.undecided (w.beyond q c (omega (arith, e)));
  closing = all_push IsClosing closings q w.closing c;
  ascends = ascends_push closings q w.ascends (weaker (λ r. seq_of r ≤ n) (λ r. seq_of r < seq_of q) (λ r h. omega (arith, h, e)) closings w.below);
  below = all_push (λ r. seq_of r ≤ n + 1) closings q (weaker (λ r. seq_of r ≤ n) (λ r. seq_of r ≤ n + 1) (λ r h. omega (arith, h)) closings w.below) (omega (arith, e));
  beyond = λ r d h. w.beyond r d (omega (arith, h));
}

-- exchanges of what waits, or of no closing under a number of their own or not
waits_sent : (dec : Request → Bool) (closings queue left : List Request) (n m : ℕ) (group : List Exchange) → Waits dec closings queue n → n ≤ m → Splits queue group left → Waits (λ q. is_decided_by group q || dec q) closings left m
waits_sent dec closings queue left n m group w le p =
    let parts : closings ≡ w.done ++ (p.done ++ left) = w.whole ∙ ap (λ l. w.done ++ l) p.whole in
    let ordered : Ascends (p.done ++ left) = ascends_back w.done (p.done ++ left) (subst Ascends parts w.ascends) in
    let closing_parts = all_split IsClosing w.done (p.done ++ left) (subst (AllByRecursion IsClosing) parts w.closing) in
    let below_parts = all_split (λ q. seq_of q ≤ n) w.done (p.done ++ left) (subst (AllByRecursion (λ q. seq_of q ≤ n)) parts w.below) in
    let open_parts = all_split (λ q. dec q ≡ false) p.done left (subst (AllByRecursion (λ q. dec q ≡ false)) p.whole w.undecided) in
    let below_done = (all_split (λ q. seq_of q ≤ n) p.done left below_parts.1).0 in
    record {
      done = w.done ++ p.done;
      whole = parts ∙ sym (append_assoc w.done p.done left);
      decided = all_append (λ q. (is_decided_by group q || dec q) ≡ true) w.done p.done
          (weaker (λ q. dec q ≡ true) (λ q. (is_decided_by group q || dec q) ≡ true) (λ q e. or_second (is_decided_by group q) (dec q) e) w.done w.decided)
          (weaker (λ q. is_decided_by group q ≡ true) (λ q. (is_decided_by group q || dec q) ≡ true) (λ q e. or_first (is_decided_by group q) (dec q) e) p.done p.decided);
      undecided = all_two (λ q. IsClosing q × ComesAfter p.done q) (λ q. dec q ≡ false) (λ q. (is_decided_by group q || dec q) ≡ false) left (λ q a b. neither_so (is_decided_by group q) (dec q) (p.others q a.0 a.1) b)
          (all_two IsClosing (ComesAfter p.done) (λ q. IsClosing q × ComesAfter p.done q) left (λ q a b. (a, b)) (all_split IsClosing p.done left closing_parts.1).1 (comes_after p.done left ordered)) open_parts.1;
      closing = w.closing;
      ascends = w.ascends;
      below = weaker (λ q. seq_of q ≤ n) (λ q. seq_of q ≤ m) (λ q h. omega (arith, h, le)) closings w.below;
      beyond = λ q c h. neither_so (is_decided_by group q) (dec q) (p.others q c (weaker (λ r. seq_of r ≤ n) (λ r. seq_of r < seq_of q) (λ r i. omega (arith, i, h, le)) p.done below_done)) (w.beyond q c (omega (arith, h, le)));
    }

-- ---- over a past

abbrev WaitsIn : Source → View → List Step → Type 0
WaitsIn s v P = Waits (is_decided_in P) (closings_in s P) v.waiting v.numbers

nothing_sent : (n : ℕ) (group : List Exchange) → ComeInTurn n [] group → group ≡ []
nothing_sent n [] turns = refl
nothing_sent n (x ∷ group) turns = absurd (none_some x.request (next_in_queue n [] group x.request turns.0).1)

quiet_ask : (s : Source) (n k txn moment : ℕ) (login : List ℕ) (group : List Exchange) (b : Bool) → ComeInTurn n (if b then [] else reserve_of s k txn moment login ∷ []) group → (q : Request) → IsClosing q → is_decided_by group q ≡ false
quiet_ask s n k txn moment login group true turns q c = rw (nothing_sent n group turns) refl
quiet_ask s n k txn moment login group false turns q c = ask_none n (reserve_of s k txn moment login) group q turns (reserve_other s k txn moment login q c)

ask_waits : (s : Source) (v : View) (P : List Step) (group : List Exchange) → ((q : Request) → IsClosing q → is_decided_by group q ≡ false) → (m : ℕ) → v.numbers ≤ m → WaitsIn s v P
    → Waits (λ q. is_decided_by group q || is_decided_in P q) (closings_in s P ++ []) v.waiting m
ask_waits s v P group quiet m le w = rw append-nil (waits_sent _ _ v.waiting v.waiting v.numbers m group w le (record { done = []; whole = refl; decided = tt; others = λ q c h. quiet q c }))

close_waits : (s : Source) (n : ℕ) (v : View) (P : List Step) (txn : ℕ) (end : CloseEnd) (group : List Exchange) (o : Option HeldTransaction) → v.numbers ≡ numbers_in P → live_in P txn ≡ o
    → ComeInTurn n (queue_of s v o (Close txn end)) group → WaitsIn s v P
    → Waits (λ q. is_decided_by group q || is_decided_in P q) (closings_in s P ++ closing_under s (numbers_in P + 1) txn end (live_in P txn)) (after_close s txn end group v o).waiting (after_close s txn end group v o).numbers
close_waits s n v P txn end group None same live turns w =
    rw live (ask_waits s v P group (λ q c. rw (nothing_sent n group turns) refl) v.numbers (omega arith) w)
close_waits s n v P txn end group (Some h) same live turns w =
    let q = closing_of s (v.numbers + 1) txn end h in
    let (closing, number) = closing_is s (v.numbers + 1) txn end h in
    let more = waits_more (is_decided_in P) (closings_in s P) v.waiting v.numbers q w closing number in
    let queue_closing = (all_split IsClosing more.done (v.waiting ++ q ∷ []) (subst (AllByRecursion IsClosing) more.whole more.closing)).1 in
    rw (live, ← same) (waits_sent (is_decided_in P) (closings_in s P ++ q ∷ []) (v.waiting ++ q ∷ []) (drop (decisions group) (v.waiting ++ q ∷ [])) (v.numbers + 1) (v.numbers + 1) group more (omega arith) (splits n (v.waiting ++ q ∷ []) group queue_closing turns))

waits_step : (s : Source) (n : ℕ) (v : View) (P : List Step) (a : Action) (group : List Exchange) (k : Bool) → v.numbers ≡ numbers_in P → ((t : ℕ) → held_by (v.standing t) ≡ live_in P t)
    → ComeInTurn n (queue_of s v (held_for v a) a) group → WaitsIn s v P → WaitsIn s (after s v a group) (record { action = a; group = group; quiet = k } ∷ P)
waits_step s n v P (Ask txn moment login) [] k same live turns w = ask_waits s v P [] (λ q c. refl) v.numbers (omega arith) w
waits_step s n v P (Ask txn moment login) (x ∷ group) k same live turns w = ask_waits s v P (x ∷ group) (quiet_ask s n (v.numbers + 1) txn moment login (x ∷ group) _ turns) (v.numbers + 1) (omega arith) w
waits_step s n v P (Close txn end) group k same live turns w = close_waits s n v P txn end group (held_by (v.standing txn)) same (sym (live txn)) turns w
waits_step s n v P Drain group k same live turns w =
    let queue_closing = (all_split IsClosing w.done v.waiting (subst (AllByRecursion IsClosing) w.whole w.closing)).1 in
    rw append-nil (waits_sent (is_decided_in P) (closings_in s P) v.waiting (drop (decisions group) v.waiting) v.numbers v.numbers group w (omega arith) (splits n v.waiting group queue_closing turns))

waits : (s : Source) (n : ℕ) (P : List Step) → AreUnderway s n P → WaitsIn s (view s P) P
waits s n [] u = record { done = []; whole = refl; decided = tt; undecided = tt; closing = tt; ascends = tt; below = tt; beyond = λ q c h. refl }
waits s n (x ∷ P) u = waits_step s (tries_in n x.quiet) (view s P) P x.action x.group x.quiet (numbers_read s P) (live_read s P) u.0 (waits s n P u.1)

none_kept : (dec : Request → Bool) (qs : List Request) → AllByRecursion (λ q. dec q ≡ true) qs → filter (λ q. not (dec q)) qs ≡ []
none_kept dec [] all = refl
none_kept dec (q ∷ qs) all = rw all.0 (none_kept dec qs all.1)

all_kept : (dec : Request → Bool) (qs : List Request) → AllByRecursion (λ q. dec q ≡ false) qs → filter (λ q. not (dec q)) qs ≡ qs
all_kept dec [] all = refl
all_kept dec (q ∷ qs) all = rw all.0 (ap (λ l. q ∷ l) (all_kept dec qs all.1))

-- however a client was used
pub waiting_read : (s : Source) (n : ℕ) (P : List Step) → AreUnderway s n P → (view s P).waiting ≡ waiting_in s P
waiting_read s n P u =
    let w = waits s n P u in
    sym (ap (filter (λ q. not (is_decided_in P q))) w.whole ∙ filter-append (λ q. not (is_decided_in P q)) w.done (view s P).waiting
    ∙ ap (λ l. l ++ filter (λ q. not (is_decided_in P q)) (view s P).waiting) (none_kept (is_decided_in P) w.done w.decided) ∙ all_kept (is_decided_in P) (view s P).waiting w.undecided)
