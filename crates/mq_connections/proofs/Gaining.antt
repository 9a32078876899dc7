-- What histories gain, one after the other.
use Rattle.std.proofs.Common.{◌≡◌, ℕ, List, [], ◌∷◌, ◌++◌, refl, sym, ap, subst, ◌∙◌, append-nil, append_assoc, Bool, true, false, IsTrue}
use Rattle.std.specs.Prelude.{Option, Some, None, Result, Ok, Err, OnOk, OnErr, cond, filter, if◌then◌else◌}
use Rattle.std.specs.Borrow.{Bor}
use Rattle.std.specs.List.{AllByRecursion}
use Rattle.mq_lemmas.proofs.Booleans.{both_parts}
use Rattle.mq_request.specs.declared.message.Id.{Id}
use Rattle.mq_request.specs.declared.message.Reply.{Reply}
use Rattle.mq_request.specs.declared.message.Request.{Request}
use Rattle.mq_ledger.specs.Answer.{history_of, with_arrival_by, appended, known_by}
use Rattle.mq_ledger.specs.Arrivals.{id_of}
use Rattle.mq_ledger.specs.Day.{day_of}
use Rattle.mq_ledger.specs.History.{requests}
use Rattle.mq_ledger.specs.Legal.{Book, IsLegalBook}
use Rattle.mq_ledger.specs.declared.entry.Entry.{Entry}
use Rattle.mq_ledger.specs.declared.ledger.LedgerFault.{LedgerFault}
use Rattle.mq_ledger.proofs.Numbers.{legal_again, one_more}
use Rattle.mq_permits.specs.declared.peer.Peer.{Peer}
use Rattle.mq_permits.specs.declared.permits.Permits.{Permits}
use Rattle.mq_watch.specs.Allowed.{may_each_ask}
use Rattle.mq_server.specs.Delivery.{Delivery, arrivals, asked}
use Rattle.mq_server.specs.Held.{State}
use Rattle.mq_server.specs.Life.{AreAnswered, Exchange, deliveries}
use Rattle.mq_connections.specs.Asking.{ArePeers, MayEachCome, StandEach}
use Rattle.mq_connections.specs.Gained.{Gains, IsAmong, callers}
use Rattle.mq_connections.specs.Wires.{IsKnownAs}

pub gains_none : {Is : Request → Type 0} (H : List Entry) → Gains Is H H
gains_none H = record { gained = []; is = sym (append-nil H); each = tt }

both : (P : Entry → Type 0) (xs ys : List Entry) → AllByRecursion P xs → AllByRecursion P ys → AllByRecursion P (xs ++ ys)
both P [] ys a b = b
both P (x ∷ xs) ys a b = (a.0, both P xs ys a.1 b)

pub gains_more : {Is : Request → Type 0} (a b c : List Entry) → Gains Is a b → Gains Is b c → Gains Is a c
gains_more {Is} a b c g h = record {
  gained = g.gained ++ h.gained;
  is = h.is ∙ ap (λ (q : List Entry). q ++ h.gained) g.is ∙ append_assoc a g.gained h.gained;
  each = both (λ e. Is e.request) g.gained h.gained g.each h.each;
}

each_so : {Is Was : Request → Type 0} → ((r : Request) → Was r → Is r) → (xs : List Entry) → AllByRecursion (λ e. Was e.request) xs → AllByRecursion (λ e. Is e.request) xs
each_so f [] a = a
each_so f (x ∷ xs) a = (f x.request a.0, each_so f xs a.1)

pub gains_so : {Is Was : Request → Type 0} → ((r : Request) → Was r → Is r) → (a b : List Entry) → Gains Was a b → Gains Is a b
gains_so f a b g = record { gained = g.gained; is = g.is; each = each_so f g.gained g.each }

pub gains_as : {Is : Request → Type 0} (a b c : List Entry) → b ≡ c → Gains Is a b → Gains Is a c
gains_as {Is} a b c same g = subst (λ (q : List Entry). Gains Is a q) same g

added : {Is : Request → Type 0} (day : ℕ → ℕ) (default : ℕ) (H : List Entry) (r : Request) (known : Bool) → Is r → Gains Is H (if known then H else appended day default H r)
added day default H r true may = gains_none H
added day default H r false may = record { gained = _; is = refl; each = (may, tt) }

gains_by : {Is : Request → Type 0} (day : ℕ → ℕ) (default : ℕ) (H : List Entry) (r : Request) (o : Option Id) → Is r → Gains Is H (with_arrival_by day default H r o)
gains_by day default H r None may = gains_none H
gains_by day default H r (Some id) may = added day default H r (known_by H (Some id)) may

-- a history gains what arrives
after : {Is : Request → Type 0} (day : ℕ → ℕ) (default : ℕ) (A rs : List Request) → AllByRecursion Is rs → Gains Is (history_of day default A) (history_of day default (A ++ rs))
after {Is} day default A [] all = subst (λ (q : List Request). Gains Is (history_of day default A) (history_of day default q)) (sym (append-nil A)) (gains_none (history_of day default A))
after {Is} day default A (r ∷ rs) all =
    let H = history_of day default A in
    let one : Gains Is H (history_of day default (A ++ r ∷ [])) = subst (λ (q : List Entry). Gains Is H q) (sym (one_more day default A r)) (gains_by day default H r (id_of r) all.0) in
    let more = after day default (A ++ r ∷ []) rs all.1 in
    subst (λ (q : List Request). Gains Is H (history_of day default q)) (append_assoc A (r ∷ []) rs) (gains_more H _ _ one more)

-- a legal one gains what arrives
pub gains_all : {Is : Request → Type 0} (b : Book) (rs : List Request) → IsLegalBook b → AllByRecursion Is rs → Gains Is b.history (history_of (day_of b.zone) b.default (requests b.history ++ rs))
gains_all {Is} b rs legal all =
    let same : history_of (day_of b.zone) b.default (requests b.history) ≡ b.history = legal_again (day_of b.zone) b.default b.history legal.legal in
    subst (λ (q : List Entry). Gains Is q (history_of (day_of b.zone) b.default (requests b.history ++ rs))) same (after (day_of b.zone) b.default (requests b.history) rs all)

-- a request that was taken was allowed, and one that wasn't left the ledger as it was
pub gains_answered : {Is : Request → Type 0} (b : Book) (H : List Entry) (r : Request) (answer : Result Reply LedgerFault) → IsLegalBook b
    → OnOk answer (H ≡ history_of (day_of b.zone) b.default (requests b.history ++ r ∷ [])) → OnErr answer (H ≡ b.history) → OnOk answer (Is r) → Gains Is b.history H
gains_answered {Is} b H r (Ok a) legal taken lost may = subst (λ (q : List Entry). Gains Is b.history q) (sym taken) (gains_all b (r ∷ []) legal (may, tt))
gains_answered {Is} b H r (Err e) legal taken lost may = subst (λ (q : List Entry). Gains Is b.history q) (sym lost) (gains_none b.history)

-- ---- what was gained of exchanges

abbrev rest_of : List Entry → List Entry
rest_of [] = []
rest_of (x ∷ xs) = xs

same_end : (a g h : List Entry) → a ++ g ≡ a ++ h → g ≡ h
same_end [] g h is = is
same_end (x ∷ a) g h is = same_end a g h (ap rest_of is)

each_both : (P Q : Request → Type 0) (xs : List Entry) → AllByRecursion (λ e. P e.request) xs → AllByRecursion (λ e. Q e.request) xs → AllByRecursion (λ e. P e.request × Q e.request) xs
each_both P Q [] p q = tt
each_both P Q (x ∷ xs) p q = ((p.0, q.0), each_both P Q xs p.1 q.1)

gains_both : {P Q : Request → Type 0} (a b : List Entry) → Gains P a b → Gains Q a b → Gains (λ r. P r × Q r) a b
gains_both {P} {Q} a b g h = record {
  gained = g.gained;
  is = g.is;
  each = each_both P Q g.gained g.each (subst (λ (q : List Entry). AllByRecursion (λ e. Q e.request) q) (same_end a h.gained g.gained (sym h.is ∙ g.is)) h.each);
}

-- each request that was taken is one of those that came
each_front : (r : Request) (rs xs : List Request) → AllByRecursion (IsAmong rs) xs → AllByRecursion (IsAmong (r ∷ rs)) xs
each_front r rs [] all = tt
each_front r rs (x ∷ xs) all = ((r ∷ all.0.0, all.0.1, ap (λ (q : List Request). r ∷ q) all.0.2), each_front r rs xs all.1)

among_more : (d : Delivery) (ds : List Delivery) (b : Bool) → AllByRecursion (IsAmong (asked ds)) (arrivals ds) → AllByRecursion (IsAmong (d.request ∷ asked ds)) (asked (cond b (d ∷ filter (λ x. x.taken) ds) (filter (λ x. x.taken) ds)))
among_more d ds true all = (([], asked ds, refl), each_front d.request (asked ds) (arrivals ds) all)
among_more d ds false all = each_front d.request (asked ds) (arrivals ds) all

each_among : (ds : List Delivery) → AllByRecursion (IsAmong (asked ds)) (arrivals ds)
each_among [] = tt
each_among (d ∷ ds) = among_more d ds d.taken (each_among ds)

pub gains_among : {Is : Request → Type 0} (b : Book) (H : List Entry) (xs : List Exchange) → IsLegalBook b → AreAnswered b xs H → Gains Is b.history H → Gains (λ r. Is r × IsAmong (asked (deliveries xs)) r) b.history H
gains_among b H xs legal answered g = gains_both b.history H g (gains_as b.history _ H (sym answered.after) (gains_all b (arrivals (deliveries xs)) legal (each_among (deliveries xs))))

-- one of a part is one of all
asked_both : (xs ys : List Exchange) → asked (deliveries (xs ++ ys)) ≡ asked (deliveries xs) ++ asked (deliveries ys)
asked_both [] ys = refl
asked_both (x ∷ xs) ys = ap (λ (q : List Request). x.delivery.request ∷ q) (asked_both xs ys)

pub came_later : (before more all : List Exchange) → all ≡ before ++ more → (r : Request) → IsAmong (asked (deliveries before)) r → IsAmong (asked (deliveries all)) r
came_later before more all is r a =
    let rs = asked (deliveries more) in
    (a.0, a.1 ++ rs, ap (λ (q : List Exchange). asked (deliveries q)) is ∙ asked_both before more ∙ ap (λ (q : List Request). q ++ rs) a.2 ∙ append_assoc a.0 (r ∷ a.1) rs)

pub came_now : (before more all : List Exchange) → all ≡ before ++ more → (r : Request) → IsAmong (asked (deliveries more)) r → IsAmong (asked (deliveries all)) r
came_now before more all is r a =
    let rs = asked (deliveries before) in
    (rs ++ a.0, a.1, ap (λ (q : List Exchange). asked (deliveries q)) is ∙ asked_both before more ∙ ap (λ (q : List Request). rs ++ q) a.2 ∙ sym (append_assoc rs a.0 (r ∷ a.1)))

-- ---- requests that are taken together

-- each of them is one that the peer of its connection may ask
pub may_each_come : (permits : Option (Bor Permits)) (peers : ℕ → Option Peer) (connections : ℕ → Option State) (ns : List ℕ) (ps : List Peer) (rs : List Request)
    → ArePeers peers ns ps → StandEach connections ns rs → IsTrue (may_each_ask permits ps rs) → MayEachCome (callers permits peers) ns rs
may_each_come permits peers connections [] ps [] are stand may = tt
may_each_come permits peers connections (n ∷ ns) ps [] are stand may = absurd stand
may_each_come permits peers connections [] ps (r ∷ rs) are stand may = absurd stand
may_each_come permits peers connections (n ∷ ns) [] (r ∷ rs) are stand may = absurd are
may_each_come None peers connections (n ∷ ns) (p ∷ ps) (r ∷ rs) are stand may =
    ((p, are.0, refl), may_each_come None peers connections ns ps rs are.1 stand.2 refl)
may_each_come (Some permits) peers connections (n ∷ ns) (p ∷ ps) (r ∷ rs) are stand may =
    ((p, are.0, (both_parts _ _ may).0), may_each_come (Some permits) peers connections ns ps rs are.1 stand.2 (both_parts _ _ may).1)

-- the peers of connections, and that of one more
pub peers_more : (peers : ℕ → Option Peer) (ns : List ℕ) (ps : List Peer) (n : ℕ) (p : Peer) → IsKnownAs (peers n) p → ArePeers peers ns ps → ArePeers peers (ns ++ n ∷ []) (ps ++ p ∷ [])
peers_more peers [] [] n p is are = (is, tt)
peers_more peers [] (q ∷ ps) n p is are = absurd are
peers_more peers (m ∷ ns) [] n p is are = absurd are
peers_more peers (m ∷ ns) (q ∷ ps) n p is are = (are.0, peers_more peers ns ps n p is are.1)

pub ok_so : {A E P Q : Type 0} (answer : Result A E) → (P → Q) → OnOk answer P → OnOk answer Q
ok_so (Ok a) f p = f p
ok_so (Err e) f p = tt
