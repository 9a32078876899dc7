-- However a client was used, few transactions are live or waiting, numbers are left to close the live ones, and a
-- step makes few exchanges.
use Rattle.std.proofs.Common.{◌≡◌, ℕ, zero, suc, ◌+◌, ◌*◌, ◌<◌, ◌≤◌, Bool, false, true, List, [], ◌∷◌, ◌++◌, length, refl, ap, subst, arith, length-append, length-drop, Option, None, Some, is_some, if◌then◌else◌}
use Rattle.mq_client.proofs.Words.{Action, AreUnderway, Ask, Close, CloseEnd, ComeInTurn, Drain, Exchange, HeldTransaction, IsBounded, Request, Source, Step, View, after, after_close, closing_of, decisions, failures, held_by, held_for, next_of, none_some, queue_of, refuses, reserve_of, slice_get, tries_in, view, with_asked}
use Rattle.std.proofs.Math.Nat.{mul-le-mul_left}
use Rattle.mq_client.proofs.Counting.{AreCounted, counted, length_closed}
use Rattle.mq_client.proofs.Keeping.{has_room}
use Rattle.mq_client.proofs.Turning.{next_in_queue}
use Rattle.mq_client.proofs.Basics.{of_either}

-- an ask with an exchange isn't refused
pub asked_free : (b : Bool) (n : ℕ) (q r : Request) (group : List Exchange) → next_of n (if b then [] else q ∷ []) group ≡ Some r → b ≡ false
asked_free false n q r group e = refl
asked_free true n q r group e = absurd (none_some r (next_in_queue n [] group r e).1)

length_asked : (o : Option HeldTransaction) (txn : ℕ) (live : List ℕ) → length (with_asked txn o live) ≡ (if is_some o then length live else length live + 1)
length_asked None txn live = omega arith
length_asked (Some h) txn live = refl

ask_bounded : (s : Source) (n : ℕ) (v : View) (txn moment : ℕ) (login : List ℕ) (x : Exchange) (group : List Exchange) → refuses (held_by (v.standing txn)) (length v.live) v.numbers (length v.waiting) moment login ≡ false → IsBounded v
    → IsBounded (after s v (Ask txn moment login) (x ∷ group))
ask_bounded s n v txn moment login x group free b =
    let room = has_room (held_by (v.standing txn)) (length v.live) v.numbers (length v.waiting) moment login free b.places b.numbers in
    let long = length_asked (held_by (v.standing txn)) txn v.live in
    record { places = room.places _ long; numbers = room.numbers _ long }

close_bounded : (s : Source) (v : View) (txn : ℕ) (end : CloseEnd) (group : List Exchange) (o : Option HeldTransaction) → held_by (v.standing txn) ≡ o → AreCounted v → IsBounded v → IsBounded (after_close s txn end group v o)
close_bounded s v txn end group None e all b = b
close_bounded s v txn end group (Some h) e all b =
    let one = length_closed v txn all (ap is_some e) in
    let q = closing_of s (v.numbers + 1) txn end h in
    record {
      places = omega (arith, b.places, one, length-drop (decisions group) (v.waiting ++ q ∷ []), length-append v.waiting (q ∷ []));
      numbers = omega (arith, b.numbers, one);
    }

bounded_step : (s : Source) (n : ℕ) (v : View) (a : Action) (group : List Exchange) → ComeInTurn n (queue_of s v (held_for v a) a) group → AreCounted v → IsBounded v → IsBounded (after s v a group)
bounded_step s n v (Ask txn moment login) [] turns all b = b
bounded_step s n v (Ask txn moment login) (x ∷ group) turns all b = ask_bounded s n v txn moment login x group (asked_free _ n (reserve_of s (v.numbers + 1) txn moment login) x.request group turns.0) b
bounded_step s n v (Close txn end) group turns all b = close_bounded s v txn end group (held_by (v.standing txn)) refl all b
bounded_step s n v Drain group turns all b = record { places = omega (arith, b.places, length-drop (decisions group) v.waiting); numbers = b.numbers }

-- however a client was used
pub bounded : (s : Source) (n : ℕ) (P : List Step) → AreUnderway s n P → IsBounded (view s P)
bounded s n [] u = record { places = omega arith; numbers = omega arith }
bounded s n (x ∷ P) u = bounded_step s (tries_in n x.quiet) (view s P) x.action x.group u.0 (counted s P) (bounded s n P u.1)

-- ---- exchanges of a step

-- so many exchanges, by the decisions among them and the failures since the last one
record IsFew (n queued made decided failed : ℕ) : Type 0 where
  few : made ≤ n * decided + failed
  room : n * decided + failed ≤ n * queued

one_more : (n l c d f : ℕ) (b : Bool) → IsFew n l c d f → f < n → d < l → IsFew n l (c + 1) (if b then d + 1 else d) (if b then 0 else f + 1)
one_more n l c d f true i h k = let m : n * (d + 1) ≤ n * l = mul-le-mul_left n (omega (arith, k)) in record { few = omega (arith, i.few, h); room = omega (arith, m) }
one_more n l c d f false i h k = let m : n * (d + 1) ≤ n * l = mul-le-mul_left n (omega (arith, k)) in record { few = omega (arith, i.few); room = omega (arith, m, h) }

in_queue : (queue : List Request) (k : ℕ) (q : Request) → slice_get queue k ≡ Some q → k < length queue
in_queue [] k q e = absurd (none_some q e)
in_queue (x ∷ queue) zero q e = omega arith
in_queue (x ∷ queue) (suc k) q e = let h = in_queue queue k q e in omega (arith, h)

few_in_turn : (n : ℕ) (queue : List Request) (group : List Exchange) → ComeInTurn n queue group → IsFew n (length queue) (length group) (decisions group) (failures group)
few_in_turn n queue [] turns = record { few = omega arith; room = omega arith }
few_in_turn n queue (x ∷ group) turns =
    let (h, e) = next_in_queue n queue group x.request turns.0 in
    let more : length group + 1 ≡ length (x ∷ group) = omega arith in
    subst (λ (c : ℕ). IsFew n (length queue) c (decisions (x ∷ group)) (failures (x ∷ group))) more (one_more n (length queue) (length group) (decisions group) (failures group) (is_some x.decided) (few_in_turn n queue group turns.2) h (in_queue queue (decisions group) x.request e))

ask_queue : (b : Bool) (q : Request) → length (if b then [] else q ∷ []) ≤ 4096
ask_queue b q = of_either (λ (l : List Request). length l ≤ 4096) b [] (q ∷ []) (omega arith) (omega arith)

queue_length : (s : Source) (v : View) (a : Action) (o : Option HeldTransaction) → held_for v a ≡ o → AreCounted v → IsBounded v → length (queue_of s v o a) ≤ 4096
queue_length s v (Ask txn moment login) o e all b = ask_queue (refuses o (length v.live) v.numbers (length v.waiting) moment login) (reserve_of s (v.numbers + 1) txn moment login)
queue_length s v (Close txn end) None e all b = omega arith
queue_length s v (Close txn end) (Some h) e all b =
    let q = closing_of s (v.numbers + 1) txn end h in
    omega (arith, b.places, length_closed v txn all (ap is_some e), length-append v.waiting (q ∷ []))
queue_length s v Drain o e all b = omega (arith, b.places)

tries_few : (n : ℕ) (k : Bool) → 4096 * tries_in n k ≤ 4096 * n
tries_few n true = omega arith
tries_few n false = omega arith

-- however a client was used, the newest step
pub few_exchanges : (s : Source) (n : ℕ) (P : List Step) (x : Step) → AreUnderway s n (x ∷ P) → length x.group ≤ 4096 * n
few_exchanges s n P x u =
    let v = view s P in
    let m = tries_in n x.quiet in
    let few = few_in_turn m (queue_of s v (held_for v x.action) x.action) x.group u.0 in
    let short : length (queue_of s v (held_for v x.action) x.action) ≤ 4096 = queue_length s v x.action (held_for v x.action) refl (counted s P) (bounded s n P u.1) in
    omega (arith, few.few, few.room, mul-le-mul_left m short, tries_few n x.quiet)
