-- What a connection carried that is kept.
use Rattle.std.proofs.Common.{◌≡◌, ℕ, suc, ◌+◌, ◌<◌, List, Option, None, Some, Result, Ok, Err, Bool, true, false, refl, sym, subst, arith}
use Rattle.std.specs.Prelude.{nat_lt, if◌then◌else◌, IfOk, OnOk, option_map}
use Rattle.std.proofs.lemmas.Bool.{ltb-true}
use Rattle.mq_link.specs.Body.{IsReceived}
use Rattle.mq_link.specs.Exchange.{IsExchange, IsSent}
use Rattle.mq_link.specs.Keeping.{Asks, again, anew, Carried, none, one_more, Carries, IsCarried, IsKept, kept_after}
use Rattle.mq_link.specs.declared.kept.KeptStream.{KeptStream}

-- a connection that may carry a further exchange is kept as one that carried so many
kept_if : {S : Type 0} (is_new : S → Type 0) (contents remaining : S → Option (List ℕ)) (b : Bool) (n : ℕ) (left : S) → (b ≡ true → n < 9998)
    → Carried is_new contents remaining (n + 1) left
    → IsKept is_new contents remaining (if b then Some (record { stream = left; exchanges = n + 1 }) else None)
kept_if is_new contents remaining false n left few carried = tt
kept_if is_new contents remaining true n left few carried = let small = few refl in (omega arith, carried)

-- after an exchange over a connection that carried so many
pub kept_one : {S : Type 0} (is_new : S → Type 0) (contents remaining : S → Option (List ℕ)) (n : ℕ) (before left : S) (frame body : List ℕ)
    → Carried is_new contents remaining n before → Carries contents remaining frame body before left → IsKept is_new contents remaining (kept_after left n)
kept_one is_new contents remaining n before left frame body carried carries =
    kept_if is_new contents remaining (nat_lt n 9998) n left (λ t. ltb-true n 9998 t) (one_more n before left frame body carried carries)

-- an exchange over a connection that carried so many
pub exchange_over : {S : Type 0} (is_new : S → Type 0) (contents remaining : S → Option (List ℕ)) (n : ℕ) (before left : S) (frame body : List ℕ)
    → Carried is_new contents remaining n before → Carries contents remaining frame body before left
    → IsExchange (Carried is_new contents remaining n) contents remaining frame body
exchange_over is_new contents remaining n before left frame body carried c = record {
  sent = c.sent;
  is_sent = record { opened = before; begun = carried; written = c.written };
  left = remaining left;
  received = c.received;
}

-- what is kept stays so by an exchange
pub kept_on : {C S : Type 0} (is_new : S → Type 0) (tried : C → Option ℕ) (contents remaining : S → Option (List ℕ)) (frame body : List ℕ)
    (before : C) (kept : Option (KeptStream S)) (after : C) (now : Option (KeptStream S)) → Asks is_new tried contents remaining frame body before kept after now
    → IsKept is_new contents remaining kept → IsKept is_new contents remaining now
kept_on is_new tried contents remaining frame body before kept after now (again k left is same carries to) was =
    let h = subst (IsKept is_new contents remaining) is was in
    subst (IsKept is_new contents remaining) (sym to) (kept_one is_new contents remaining k.exchanges k.stream left frame body h.1 carries)
kept_on is_new tried contents remaining frame body before kept after now (anew opened left new one carries to) was =
    subst (IsKept is_new contents remaining) (sym to) (kept_one is_new contents remaining 0 opened left frame body (none opened new) carries)

-- and the exchange was over a connection that carried fewer than 9,999, and nothing else
pub carried_on : {C S : Type 0} (is_new : S → Type 0) (tried : C → Option ℕ) (contents remaining : S → Option (List ℕ)) (frame body : List ℕ)
    (before : C) (kept : Option (KeptStream S)) (after : C) (now : Option (KeptStream S)) → Asks is_new tried contents remaining frame body before kept after now
    → IsKept is_new contents remaining kept → IsCarried is_new contents remaining frame body
carried_on is_new tried contents remaining frame body before kept after now (again k left is same carries to) was =
    let h = subst (IsKept is_new contents remaining) is was in
    (k.exchanges, h.0, exchange_over is_new contents remaining k.exchanges k.stream left frame body h.1 carries)
carried_on is_new tried contents remaining frame body before kept after now (anew opened left new one carries to) was =
    (0, omega arith, exchange_over is_new contents remaining 0 opened left frame body (none opened new) carries)

-- so it was over a new one
pub carried_new : {S : Type 0} (is_new : S → Type 0) (contents remaining : S → Option (List ℕ)) (frame body : List ℕ)
    → IsExchange is_new contents remaining frame body → IsCarried is_new contents remaining frame body
carried_new is_new contents remaining frame body e = (
  0,
  omega arith,
  record {
    sent = e.sent;
    is_sent = record { opened = e.is_sent.opened; begun = none e.is_sent.opened e.is_sent.begun; written = e.is_sent.written };
    left = e.left;
    received = e.received;
  },
)

-- a frame was sent over a new connection, and a body read from it
pub carried_if : {S E : Type 0} (is_new : S → Type 0) (contents remaining : S → Option (List ℕ)) (frame body : List ℕ) (sent : S) (r : Result Unit E)
    → IsSent is_new contents frame sent → OnOk r ((left : Option (List ℕ)) × IsReceived (remaining sent) left body) → OnOk r (IsCarried is_new contents remaining frame body)
carried_if is_new contents remaining frame body sent (Ok done) is read =
    carried_new is_new contents remaining frame body (record { sent = sent; is_sent = is; left = read.0; received = read.1 })
carried_if is_new contents remaining frame body sent (Err e) is read = tt

-- what an exchange over a connection leaves
abbrev pub Leaves : {S : Type 0} → (S → Option (List ℕ)) → (S → Option (List ℕ)) → List ℕ → List ℕ → KeptStream S → Option (KeptStream S) → Type 0
Leaves {S} contents remaining frame body k now =
    (left : S) × Carries contents remaining frame body k.stream left × (now ≡ kept_after left k.exchanges)

-- the exchange went over the connection that was kept
pub asks_again : {C S E : Type 0} (is_new : S → Type 0) (tried : C → Option ℕ) (contents remaining : S → Option (List ℕ)) (frame body : List ℕ)
    (before : C) (kept : Option (KeptStream S)) (after : C) (k : KeptStream S) (r : Result (Option (KeptStream S)) E) → kept ≡ Some k → tried after ≡ tried before
    → IfOk r (Leaves contents remaining frame body k) → IfOk r (Asks is_new tried contents remaining frame body before kept after)
asks_again is_new tried contents remaining frame body before kept after k (Ok now) is same leaves = again k leaves.0 is same leaves.1 leaves.2
asks_again is_new tried contents remaining frame body before kept after k (Err e) is same leaves = tt

-- it went over a new one
pub asks_anew : {C S E : Type 0} (is_new : S → Type 0) (tried : C → Option ℕ) (contents remaining : S → Option (List ℕ)) (frame body : List ℕ)
    (before : C) (kept : Option (KeptStream S)) (after : C) (opened : S) (k : KeptStream S) (r : Result (Option (KeptStream S)) E)
    → is_new opened → tried after ≡ option_map suc (tried before) → k ≡ record { stream = opened; exchanges = 0 }
    → IfOk r (Leaves contents remaining frame body k) → IfOk r (Asks is_new tried contents remaining frame body before kept after)
asks_anew is_new tried contents remaining frame body before kept after opened k (Ok now) new one is leaves =
    let (left, carries, to) = subst (λ j. Leaves contents remaining frame body j now) is leaves in anew opened left new one carries to
asks_anew is_new tried contents remaining frame body before kept after opened k (Err e) new one is leaves = tt
