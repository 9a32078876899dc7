-- The sessions of a server go on as its connections are opened, served and closed.
use Rattle.std.proofs.Common.{◌≡◌, ◌≢◌, ◌⊎◌, ℕ, ◌+◌, ◌<◌, ◌≤◌, List, [], ◌∷◌, ◌++◌, length, map, refl, sym, ap, subst, ◌∙◌, append-nil, append_assoc, Bool, true, false, Option, Some, None, Result, Ok, Err, arith, inl, inr}
use Rattle.std.specs.Prelude.{IsSome, IfErr, OnOk, cond, eqb, filter, take}
use Rattle.std.specs.Option.{option_to_list}
use Rattle.std.specs.Io.KnownBytes.{Appends, Consumes, ReadConsumes}
use Rattle.std.proofs.KnownBytes.{Appends-nil, Appends-trans, Consumes-kept, Consumes-nil, Consumes-trans}
use Rattle.std.proofs.lemmas.Bool.{eq-eqb, ne_eqb}
use Rattle.std.proofs.lemmas.Bool.Decides.{eqb_tells}
use Rattle.std.proofs.lemmas.List.{map-append}
use Rattle.std.proofs.lemmas.List.Elements.{filter-append}
use Rattle.mq_lemmas.proofs.Booleans.{false_true}
use Rattle.mq_lemmas.proofs.Options.{ok_not, none_some, some_is}
use Rattle.mq_request.specs.declared.message.Request.{Request}
use Rattle.mq_ledger.specs.declared.entry.Entry.{Entry}
use Rattle.mq_ledger.specs.declared.ledger.ReportedCall.{ReportedCall}
use Rattle.mq_ledger.specs.Legal.{Book, IsLegalBook}
use Rattle.mq_lemmas.specs.Told.{Tells}
use Rattle.mq_lemmas.proofs.Telling.{Tells-none}
use Rattle.mq_server.specs.declared.connection.Progress.{Progress}
use Rattle.mq_server.specs.declared.connection.Progress.TheVariants.{Ended}
use Rattle.mq_server.specs.declared.connection.EndCause.{EndCause}
use Rattle.mq_server.specs.declared.fault.ServeFault.{ServeFault}
use Rattle.mq_server.specs.declared.fault.ServeFault.TheVariants.{Memory, Store}
use Rattle.mq_server.specs.declared.input.TheConstants.{PIECE}
use Rattle.mq_server.specs.Delivery.{HasGrown, asked, failed_call}
use Rattle.mq_server.specs.Held.{State, fresh}
use Rattle.mq_server.specs.Life.{AreAnswered, Exchange, Life, Lives, StandsNext, deliveries, told_of, unborn, with_taken}
use Rattle.mq_server.proofs.Advance.{ended_same}
use Rattle.mq_server.proofs.Telling.{Tells-all}
use Rattle.mq_connections.specs.declared.fault.RoomFault.{RoomFault}
use Rattle.mq_connections.specs.declared.fault.RoomFault.TheVariants as faults
use Rattle.mq_connections.specs.Gained.{Callers, Gains, IsAmong, MayCome}
use Rattle.mq_connections.specs.Sessions.{CameFromCaller, EndsServing, GoesOn, GoesOnOrStops, HaveServed, Outside, Placed, Session, all_of, those_of}
use Rattle.mq_connections.specs.Turns.{Closes, Offers, Turns, lived}
use Rattle.mq_connections.specs.Wires.{AreOffered, IsKnownAs, Wire}
use Rattle.mq_connections.proofs.Gaining.{came_later, came_now, gains_among, gains_more, gains_none, gains_so}
use Rattle.mq_connections.proofs.Turning.{Follow, Works, few_of, none_few, session_shuts, some_of, told_on, turned_out, worked_calls}

-- ---- exchanges of one connection after those of all

abbrev placed : ℕ → Exchange → Placed
placed n x = record { number = n; exchange = x }

-- exchanges on one connection
abbrev pub on : ℕ → List Exchange → List Placed
on n xs = map (placed n) xs

all_on : (n : ℕ) (xs : List Exchange) → all_of (on n xs) ≡ xs
all_on n [] = refl
all_on n (x ∷ xs) = ap (λ (q : List Exchange). x ∷ q) (all_on n xs)

all_more : (ps : List Placed) (n : ℕ) (xs : List Exchange) → all_of (ps ++ on n xs) ≡ all_of ps ++ xs
all_more ps n xs = map-append (λ (p : Placed). p.exchange) ps (on n xs) ∙ ap (λ (q : List Exchange). all_of ps ++ q) (all_on n xs)

abbrev those : ℕ → List Placed → List Placed
those n ps = filter (λ p. eqb p.number n) ps

own : (n : ℕ) (xs : List Exchange) → those_of n (on n xs) ≡ xs
own n [] = refl
own n (x ∷ xs) = ap (λ (b : Bool). all_of (cond b (placed n x ∷ those n (on n xs)) (those n (on n xs)))) (eq-eqb n n refl) ∙ ap (λ (q : List Exchange). x ∷ q) (own n xs)

others : (m n : ℕ) (xs : List Exchange) → m ≢ n → those_of n (on m xs) ≡ []
others m n [] not = refl
others m n (x ∷ xs) not = ap (λ (b : Bool). all_of (cond b (placed m x ∷ those n (on m xs)) (those n (on m xs)))) (ne_eqb m n not) ∙ others m n xs not

those_more : (n : ℕ) (ps qs : List Placed) → those_of n (ps ++ qs) ≡ those_of n ps ++ those_of n qs
those_more n ps qs = ap all_of (filter-append (λ (p : Placed). eqb p.number n) ps qs) ∙ map-append (λ (p : Placed). p.exchange) (those n ps) (those n qs)

own_more : (ps : List Placed) (n : ℕ) (xs : List Exchange) → those_of n (ps ++ on n xs) ≡ those_of n ps ++ xs
own_more ps n xs = those_more n ps (on n xs) ∙ ap (λ (q : List Exchange). those_of n ps ++ q) (own n xs)

others_more : (ps : List Placed) (m n : ℕ) (xs : List Exchange) → m ≢ n → those_of n (ps ++ on m xs) ≡ those_of n ps
others_more ps m n xs not = those_more n ps (on m xs) ∙ ap (λ (q : List Exchange). those_of n ps ++ q) (others m n xs not) ∙ append-nil (those_of n ps)

-- ---- sessions under other names

-- a session whose wire stays as it was, and whose exchanges are as many
abbrev session_as : (n : ℕ) (ps qs : List Placed) (old mid new : Wire) → Session n ps old mid → new ≡ mid → those_of n qs ≡ those_of n ps → Session n qs old new
session_as n ps qs old mid new s is same =
    let P : Wire → Type 0 = λ w. Consumes old.remaining w.remaining (s.life.bytes ++ s.lost) in
    let Q : Wire → Type 0 = λ w. Appends old.contents w.contents s.life.taken in
    record {
      life = s.life;
      state = s.state;
      lives = s.lives;
      placed = s.placed ∙ sym same;
      lost = s.lost;
      few = s.few;
      consumed = subst P (sym is) s.consumed;
      closed = s.closed;
      sent = subst Q (sym is) s.sent;
    }

-- that of an equal number
abbrev session_at : (m n : ℕ) (ps : List Placed) (old new : ℕ → Wire) → n ≡ m → Session m ps (old m) (new m) → Session n ps (old n) (new n)
session_at m n ps old new is s =
    let P : ℕ → Type 0 = λ k. s.life.exchanges ≡ those_of k ps in
    let Q : ℕ → Type 0 = λ k. Consumes (old k).remaining (new k).remaining (s.life.bytes ++ s.lost) in
    let R : ℕ → Type 0 = λ k. Appends (old k).contents (new k).contents s.life.taken in
    let S : ℕ → Type 0 = λ k. s.state.is_closed ≡ true → IsKnownAs (old k).remaining s.life.bytes in
    record {
      life = s.life;
      state = s.state;
      lives = s.lives;
      placed = subst P (sym is) s.placed;
      lost = s.lost;
      few = s.few;
      consumed = subst Q (sym is) s.consumed;
      closed = subst S (sym is) s.closed;
      sent = subst R (sym is) s.sent;
    }

-- one on which nothing came yet
abbrev session_new : (room n : ℕ) (ps : List Placed) (old new : Wire) → ((room : ℕ) → Lives unborn (fresh room)) → those_of n ps ≡ [] → new ≡ old → Session n ps old new
session_new room n ps old new lives none is =
    let P : Wire → Type 0 = λ w. Consumes old.remaining w.remaining [] in
    let Q : Wire → Type 0 = λ w. Appends old.contents w.contents [] in
    record {
      life = unborn;
      state = fresh room;
      lives = lives room;
      placed = sym none;
      lost = [];
      few = none_few;
      consumed = subst P (sym is) (Consumes-nil old.remaining);
      closed = λ closed. absurd (false_true closed);
      sent = subst Q (sym is) (Appends-nil old.contents);
    }

abbrev Told_apart : ℕ → ℕ → Type 0
Told_apart n m = ((eqb n m ≡ true) × (n ≡ m)) ⊎ ((eqb n m ≡ false) × (n ≢ m))

-- one session in the place of another, alongside those of other numbers
abbrev pick : (m n : ℕ) (ps qs : List Placed) (old mid new : ℕ → Wire) → ((k : ℕ) → Session k ps (old k) (mid k)) → Session m qs (old m) (new m)
    → ((k : ℕ) → k ≢ m → (new k ≡ mid k) × (those_of k qs ≡ those_of k ps)) → Told_apart n m → Session n qs (old n) (new n)
pick m n ps qs old mid new each mine same (inl (t, is)) = session_at m n qs old new is mine
pick m n ps qs old mid new each mine same (inr (f, not)) = session_as n ps qs (old n) (mid n) (new n) (each n) (same n not).0 (same n not).1

abbrev picks : (m : ℕ) (ps qs : List Placed) (old mid new : ℕ → Wire) → ((k : ℕ) → Session k ps (old k) (mid k)) → Session m qs (old m) (new m)
    → ((k : ℕ) → k ≢ m → (new k ≡ mid k) × (those_of k qs ≡ those_of k ps)) → (n : ℕ) → Session n qs (old n) (new n)
picks m ps qs old mid new each mine same n = pick m n ps qs old mid new each mine same (eqb_tells n m)

-- what is said of that session, or of another as it was
picked : (m n : ℕ) (ps qs : List Placed) (old mid new : ℕ → Wire) (each : (k : ℕ) → Session k ps (old k) (mid k)) (mine : Session m qs (old m) (new m))
    (same : (k : ℕ) → k ≢ m → (new k ≡ mid k) × (those_of k qs ≡ those_of k ps)) (P : State → List ℕ → Type 0) → (n ≡ m → P mine.state mine.lost) → (n ≢ m → P (each n).state (each n).lost)
    → (apart : Told_apart n m) → (let s = pick m n ps qs old mid new each mine same apart in P s.state s.lost)
picked m n ps qs old mid new each mine same P here there (inl (t, is)) = here is
picked m n ps qs old mid new each mine same P here there (inr (f, not)) = there not

-- what is said of its life, or of another's
picked_life : (m n : ℕ) (ps qs : List Placed) (old mid new : ℕ → Wire) (each : (k : ℕ) → Session k ps (old k) (mid k)) (mine : Session m qs (old m) (new m))
    (same : (k : ℕ) → k ≢ m → (new k ≡ mid k) × (those_of k qs ≡ those_of k ps)) (P : Life → Type 0) → (n ≡ m → P mine.life) → (n ≢ m → P (each n).life)
    → (apart : Told_apart n m) → P (pick m n ps qs old mid new each mine same apart).life
picked_life m n ps qs old mid new each mine same P here there (inl (t, is)) = here is
picked_life m n ps qs old mid new each mine same P here there (inr (f, not)) = there not

-- ---- the start

abbrev begun_served : {who : Callers} (o : Outside) → ((room : ℕ) → Lives unborn (fresh room)) → AreAnswered o.book [] o.book.history → HaveServed who o o None
begun_served o lives none = record {
  placed = [];
  zone = refl;
  default = refl;
  answered = none;
  gains = gains_none o.book.history;
  told = Tells-none o.told;
  each = λ n. session_new 0 n [] (o.wires n) (o.wires n) lives refl refl;
}

new_offered : (room : ℕ) (wire : Wire) → AreOffered (fresh room) wire
new_offered room wire = λ some. absurd (some refl)

pub begins : {who : Callers} (o : Outside) (last : ℕ) (held : ℕ → Option State) → ((room : ℕ) → Lives unborn (fresh room)) → AreAnswered o.book [] o.book.history → ((n : ℕ) → held n ≡ None) → GoesOn who o o last held None
begins o last held lives none empty = record {
  served = begun_served o lives none;
  beyond = λ n above. (refl, refl);
  are_held = λ n c is. absurd (none_some c (sym (empty n) ∙ is));
  offered = λ n is. new_offered 0 (o.wires n);
  at = λ some. absurd (false_true some);
}

-- ---- the same connections, and the same wires

abbrev pub with_wires : Outside → (ℕ → Wire) → Outside
with_wires o wires = record { book = o.book; told = o.told; wires = wires }

abbrev served_as : {who : Callers} (old new : Outside) (wires : ℕ → Wire) (failed : Option Request) → ((n : ℕ) → wires n ≡ new.wires n) → HaveServed who old new failed → HaveServed who old (with_wires new wires) failed
served_as old new wires failed same s = record {
  placed = s.placed;
  zone = s.zone;
  default = s.default;
  answered = s.answered;
  gains = s.gains;
  told = s.told;
  each = λ n. session_as n s.placed s.placed (old.wires n) (new.wires n) (wires n) (s.each n) (same n) refl;
}

offered_as : (c : State) (w v : Wire) → v ≡ w → AreOffered c w → AreOffered c v
offered_as c w v is offered = let P : Wire → Type 0 = λ x. AreOffered c x in subst P (sym is) offered

pub rewired : {who : Callers} (old new : Outside) (wires : ℕ → Wire) (last : ℕ) (held now : ℕ → Option State) (failed : Option Request) → ((n : ℕ) → wires n ≡ new.wires n) → ((n : ℕ) → now n ≡ held n)
    → GoesOn who old new last held failed → GoesOn who old (with_wires new wires) last now failed
rewired old new wires last held now failed same holds g = record {
  served = served_as old new wires failed same g.served;
  beyond = λ n above. ((g.beyond n above).0, same n ∙ (g.beyond n above).1);
  are_held = λ n c is. g.are_held n c (sym (holds n) ∙ is);
  offered = λ n none. offered_as (g.served.each n).state (new.wires n) (wires n) (same n) (g.offered n (sym (holds n) ∙ none));
  at = g.at;
}

-- ---- one connection more

not_above : (n last number : ℕ) → number ≡ last + 1 → n ≤ last → n ≡ number → ⊥
not_above n last number counted within is = omega (arith, counted, within, is)

-- what is said of a connection that is held
abbrev Held_so : State → ℕ → ℕ → State → List ℕ → Type 0
Held_so c n last state lost = (state ≡ c) × (lost ≡ []) × (c.end ≢ Some (Err Store)) × (n ≤ last)

new_goes : (room : ℕ) → (fresh room).end ≢ Some (Err Store)
new_goes room e = cc

-- the same connections are held, but for one of that number, on which nothing came yet
abbrev pub Opens : ℕ → (ℕ → Option State) → (ℕ → Option State) → ℕ → Type 0
Opens room was now number = (n : ℕ) → (now n ≡ was n) ⊎ ((n ≡ number) × (now n ≡ Some (fresh room)))

opened_held : {who : Callers} (room : ℕ) (old new : Outside) (wires : ℕ → Wire) (last number : ℕ) (held now : ℕ → Option State) (counted : number ≡ last + 1) (g : GoesOn who old new last held None)
    (mine : Session number g.served.placed (old.wires number) (wires number)) (kept : (k : ℕ) → k ≢ number → (wires k ≡ new.wires k) × (those_of k g.served.placed ≡ those_of k g.served.placed)) → (mine.state ≡ fresh room) → (mine.lost ≡ [])
    → (n : ℕ) (c : State) → now n ≡ Some c → (now n ≡ held n) ⊎ ((n ≡ number) × (now n ≡ Some (fresh room)))
    → (let s = picks number g.served.placed g.served.placed old.wires new.wires wires g.served.each mine kept n in Held_so c n number s.state s.lost)
opened_held room old new wires last number held now counted g mine kept is none n c here (inl same) =
    let h = g.are_held n c (sym same ∙ here) in
    picked number n g.served.placed g.served.placed old.wires new.wires wires g.served.each mine kept (Held_so c n number) (λ at. absurd (not_above n last number counted h.3 at)) (λ not. (h.0, h.1, h.2, omega (arith, h.3, counted))) (eqb_tells n number)
opened_held room old new wires last number held now counted g mine kept is none n c here (inr (at, some)) =
    let same = some_is c (fresh room) (sym here ∙ some) in
    let P : State → Type 0 = λ x. x.end ≢ Some (Err Store) in
    picked number n g.served.placed g.served.placed old.wires new.wires wires g.served.each mine kept (Held_so c n number) (λ _. (is ∙ sym same, none, subst P (sym same) (new_goes room), omega (arith, at))) (λ not. absurd (not at)) (eqb_tells n number)

opened_offered : {who : Callers} (room : ℕ) (old new : Outside) (wires : ℕ → Wire) (last number : ℕ) (held now : ℕ → Option State) (g : GoesOn who old new last held None)
    (mine : Session number g.served.placed (old.wires number) (wires number)) (kept : (k : ℕ) → k ≢ number → (wires k ≡ new.wires k) × (those_of k g.served.placed ≡ those_of k g.served.placed)) → (mine.state ≡ fresh room)
    → (n : ℕ) → now n ≡ None → (now n ≡ held n) ⊎ ((n ≡ number) × (now n ≡ Some (fresh room)))
    → (let s = picks number g.served.placed g.served.placed old.wires new.wires wires g.served.each mine kept n in AreOffered s.state (wires n))
opened_offered room old new wires last number held now g mine kept is n none (inl same) =
    let P : State → Type 0 = λ x. AreOffered x (wires n) in
    picked number n g.served.placed g.served.placed old.wires new.wires wires g.served.each mine kept (λ s _. AreOffered s (wires n)) (λ _. subst P (sym is) (new_offered room (wires n)))
    (λ not. offered_as (g.served.each n).state (new.wires n) (wires n) (kept n not).0 (g.offered n (sym same ∙ none))) (eqb_tells n number)
opened_offered room old new wires last number held now g mine kept is n none (inr (at, some)) = absurd (none_some (fresh room) (sym none ∙ some))

pub opened : {who : Callers} (room : ℕ) (old new : Outside) (wires : ℕ → Wire) (last number : ℕ) (held now : ℕ → Option State) → ((room : ℕ) → Lives unborn (fresh room)) → number ≡ last + 1 → ((n : ℕ) → wires n ≡ new.wires n) → Opens room held now number
    → GoesOn who old new last held None → GoesOn who old (with_wires new wires) number now None
opened room old new wires last number held now lives counted same opens g =
    let ps = g.served.placed in
    let above : last < number = omega (arith, counted) in
    let mine : Session number ps (old.wires number) (wires number) = session_new room number ps (old.wires number) (wires number) lives (g.beyond number above).0 (same number ∙ (g.beyond number above).1) in
    let kept : (k : ℕ) → k ≢ number → (wires k ≡ new.wires k) × (those_of k ps ≡ those_of k ps) = λ k not. (same k, refl) in
    record {
      served = record {
        placed = ps;
        zone = g.served.zone;
        default = g.served.default;
        answered = g.served.answered;
        gains = g.served.gains;
        told = g.served.told;
        each = picks number ps ps old.wires new.wires wires g.served.each mine kept;
      };
      beyond = λ n higher. let b = g.beyond n (omega (arith, counted, higher)) in (b.0, same n ∙ b.1);
      are_held = λ n c is. opened_held room old new wires last number held now counted g mine kept refl refl n c is (opens n);
      offered = λ n is. opened_offered room old new wires last number held now g mine kept refl n is (opens n);
      at = λ some. absurd (false_true some);
    }

-- ---- a turn of one

-- the session of a connection that had a turn
abbrev turned_session : (number : ℕ) (ps : List Placed) (old mid new : Wire) (b : Book) (history : List Entry) (t u : Option (List ReportedCall)) (p : Progress) (c now : State) → (s : Session number ps old mid) → s.state ≡ c → s.lost ≡ []
    → (turn : Turns b history t u p mid new c now) → Session number (ps ++ on number turn.exchanges) old new
turned_session number ps old mid new b history t u p c now s is none turn =
    let P : State → Type 0 = λ x. Lives s.life x in
    let lived_on = turn.lives s.life (subst P is s.lives) in
    let Q : List ℕ → Type 0 = λ x. Consumes old.remaining mid.remaining (s.life.bytes ++ x) in
    let R : List ℕ → Type 0 = λ x. Consumes old.remaining new.remaining x in
    let S : List ℕ → Type 0 = λ x. Consumes old.remaining mid.remaining x in
    let T : State → Type 0 = λ x. x.is_closed ≡ true → IsKnownAs old.remaining s.life.bytes in
    let before = subst Q none s.consumed in
    let all = subst R (ap (λ (q : List ℕ). q ++ (turn.read ++ turn.lost)) (append-nil s.life.bytes) ∙ sym (append_assoc s.life.bytes turn.read turn.lost))
    (Consumes-trans old.remaining mid.remaining new.remaining _ _ before turn.consumed) in
    record {
      life = lived s.life turn.read turn.exchanges lived_on.0 turn.written;
      state = now;
      lives = lived_on.1;
      placed = ap (λ (q : List Exchange). q ++ turn.exchanges) s.placed ∙ sym (own_more ps number turn.exchanges);
      lost = turn.lost;
      few = turn.few;
      consumed = all;
      closed = λ closed. session_shuts c old.remaining mid.remaining new.remaining s.life.bytes turn.read turn.lost (subst S (append-nil s.life.bytes) before) all (subst T is s.closed) (turn.closed closed);
      sent = Appends-trans old.contents mid.contents new.contents _ _ s.sent turn.sent;
    }

-- what a turn of one connection leaves outside
pub record TurnOf (who : Callers) (new now : Outside) (number : ℕ) (p : Progress) (c after : State) : Type 0 where
  pub zone : now.book.zone ≡ new.book.zone
  pub default : now.book.default ≡ new.book.default
  pub legal : IsLegalBook new.book
  pub turn : Turns new.book now.book.history new.told now.told p (new.wires number) (now.wires number) c after
  pub others_same : (n : ℕ) → n ≢ number → now.wires n ≡ new.wires n
  pub gains : Gains (MayCome who number) new.book.history now.book.history

-- what came before, and what came in the turn
came_before : (who : Callers) (ps : List Placed) (n : ℕ) (xs : List Exchange) (r : Request) → CameFromCaller who ps r → CameFromCaller who (ps ++ on n xs) r
came_before who ps n xs r came = let m = came.0 in (m, came.1, came_later (those_of m ps) (those_of m (on n xs)) (those_of m (ps ++ on n xs)) (those_more m ps (on n xs)) r came.2)

came_on : (who : Callers) (ps : List Placed) (n : ℕ) (xs : List Exchange) (r : Request) → MayCome who n r × IsAmong (asked (deliveries xs)) r → CameFromCaller who (ps ++ on n xs) r
came_on who ps n xs r may = (n, may.0, came_now (those_of n ps) xs (those_of n (ps ++ on n xs)) (own_more ps n xs) r may.1)

above_held : (n last number : ℕ) → last < n → n ≡ number → number ≤ last → ⊥
above_held n last number above is within = omega (arith, above, is, within)

module _ {who : Callers} (old new now : Outside) (number last : ℕ) (p : Progress) (c after : State) (held : ℕ → Option State) (g : GoesOn who old new last held None) (here : held number ≡ Some c) (t : TurnOf who new now number p c after) where
  abbrev ps : List Placed
  ps = g.served.placed

  abbrev xs : List Exchange
  xs = t.turn.exchanges

  abbrev qs : List Placed
  qs = ps ++ on number xs

  abbrev mine : Session number qs (old.wires number) (now.wires number)
  mine = turned_session number ps (old.wires number) (new.wires number) (now.wires number) new.book now.book.history new.told now.told p c after (g.served.each number) (g.are_held number c here).0 (g.are_held number c here).1 t.turn

  abbrev kept : (k : ℕ) → k ≢ number → (now.wires k ≡ new.wires k) × (those_of k qs ≡ those_of k ps)
  kept k not = (t.others_same k not, others_more ps number k xs (λ e. not (sym e)))

  abbrev each : (n : ℕ) → Session n qs (old.wires n) (now.wires n)
  each = picks number ps qs old.wires new.wires now.wires g.served.each mine kept

  abbrev served_turn : Follow → (failed : Option Request) → Tells new.told now.told (told_of xs ++ map failed_call (option_to_list failed)) → HaveServed who old now failed
  served_turn follow failed told =
      let P : List Exchange → Type 0 = λ q. AreAnswered old.book q now.book.history in
      let Q : List Exchange → Type 0 = λ q. Tells old.told now.told (told_of q ++ map failed_call (option_to_list failed)) in
      let R : List ReportedCall → Type 0 = λ q. Tells old.told new.told q in
      let same = sym (all_more ps number xs) in
      record {
        placed = qs;
        zone = t.zone ∙ g.served.zone;
        default = t.default ∙ g.served.default;
        answered = subst P same (follow old.book new.book (all_of ps) xs now.book.history t.legal g.served.zone g.served.default g.served.answered t.turn.answered);
        gains = gains_more old.book.history new.book.history now.book.history (gains_so (came_before who ps number xs) old.book.history new.book.history g.served.gains)
            (gains_so (came_on who ps number xs) new.book.history now.book.history (gains_among new.book now.book.history xs t.legal t.turn.answered t.gains));
        told = subst Q same (told_on old.told new.told now.told (all_of ps) xs (map failed_call (option_to_list failed)) (subst R (append-nil (told_of (all_of ps))) g.served.told) told);
        each = each;
      }

  -- after the turn the others are held as before
  abbrev Others : (ℕ → Option State) → Type 0
  Others still = (n : ℕ) → n ≢ number → still n ≡ held n

  -- and that one, if it is
  abbrev Here : (ℕ → Option State) → Type 0
  Here still = (d : State) → still number ≡ Some d → (d ≡ after) × (t.turn.lost ≡ []) × (after.end ≢ Some (Err Store))

  held_turn : (still : ℕ → Option State) → Others still → Here still → (n : ℕ) (d : State) → still n ≡ Some d → (let s = each n in Held_so d n last s.state s.lost)
  held_turn still others hold n d is =
      let P : State → Type 0 = λ x. x.end ≢ Some (Err Store) in
      let Q : ℕ → Type 0 = λ k. k ≤ last in
      picked number n ps qs old.wires new.wires now.wires g.served.each mine kept (Held_so d n last)
      (λ at. let h = hold d (ap still (sym at) ∙ is) in (sym h.0, h.1, subst P (sym h.0) h.2, subst Q (sym at) (g.are_held number c here).3))
      (λ not. g.are_held n d (sym (others n not) ∙ is)) (eqb_tells n number)

  offered_turn : (still : ℕ → Option State) → Others still → (still number ≡ None → AreOffered after (now.wires number)) → (n : ℕ) → still n ≡ None → AreOffered (each n).state (now.wires n)
  offered_turn still others gone n none =
      let P : ℕ → Type 0 = λ k. AreOffered after (now.wires k) in
      picked number n ps qs old.wires new.wires now.wires g.served.each mine kept (λ s _. AreOffered s (now.wires n)) (λ at. subst P (sym at) (gone (ap still (sym at) ∙ none)))
      (λ not. offered_as (g.served.each n).state (new.wires n) (now.wires n) (t.others_same n not) (g.offered n (sym (others n not) ∙ none))) (eqb_tells n number)

  goes_turn : Follow → (still : ℕ → Option State) (failed : Option Request) → Tells new.told now.told (told_of xs ++ map failed_call (option_to_list failed)) → Others still → Here still → (still number ≡ None → AreOffered after (now.wires number))
      → (IsSome failed → after.end ≡ Some (Err Store)) → StandsNext failed mine.life.rest → GoesOn who old now last still failed
  goes_turn follow still failed told others hold gone end stands = record {
    served = served_turn follow failed told;
    beyond = λ n above.
        let not : n ≢ number = λ is. above_held n last number above is (g.are_held number c here).3 in
        ((kept n not).1 ∙ (g.beyond n above).0, (kept n not).0 ∙ (g.beyond n above).1);
    are_held = λ n d is. held_turn still others hold n d is;
    offered = λ n none. offered_turn still others gone n none;
    at = λ some.
        let P : State → List ℕ → Type 0 = λ state lost. state.end ≡ Some (Err Store) in
        let Q : Life → Type 0 = λ life. StandsNext failed life.rest in (
          number,
          picked number number ps qs old.wires new.wires now.wires g.served.each mine kept P (λ _. end some) (λ not. absurd (not refl)) (eqb_tells number number),
          picked_life number number ps qs old.wires new.wires now.wires g.served.each mine kept Q (λ _. stands) (λ not. absurd (not refl)) (eqb_tells number number),
        );
  }

  -- the request at which the store failed stands next on that connection
  failed_stands : StandsNext t.turn.calls.failed mine.life.rest
  failed_stands =
      let s = g.served.each number in
      let P : State → Type 0 = λ x. Lives s.life x in
      (t.turn.lives s.life (subst P (g.are_held number c here).0 s.lives)).2

  -- the connection is still open
  pub goes_open : Follow → (still : ℕ → Option State) → Works p → p ≢ Ended (Err Memory) → (c.end ≢ Some (Err Store) → after.end ≢ Some (Err Store)) → Others still → still number ≡ Some after → GoesOn who old now last still None
  goes_open follow still works room stays others stands =
      goes_turn follow still None (Tells-all new.told now.told (told_of xs) (worked_calls new.told now.told c.end p xs works t.turn.calls)) others
      (λ d is. (some_is d after (sym is ∙ stands), t.turn.whole room, stays (g.are_held number c here).2)) (λ none. absurd (none_some after (sym none ∙ stands))) (λ some. absurd (false_true some)) tt

-- ---- what it comes to

-- an end that is the store's, and only such a one, is its fault
stops_so : {A F : Type 0} (store : F) (r : Result A F) (end : Result EndCause ServeFault) → OnOk r (end ≢ Err Store) → IfErr r (λ f. (f ≡ store) × (end ≡ Err Store)) → end ≡ Err Store → r ≡ Err store
stops_so store (Ok x) end ok err is = absurd (ok is)
stops_so store (Err f) end ok err is = ap Err err.0

only_so : {A F : Type 0} (store : F) (r : Result A F) (end : Result EndCause ServeFault) → IfErr r (λ f. (f ≡ store) × (end ≡ Err Store)) → r ≡ Err store → end ≡ Err Store
only_so store (Ok x) end err is = absurd (ok_not x store is)
only_so store (Err f) end err is = err.1

-- a connection has ended, and was closed
pub closed_turn : {A F : Type 0} {who : Callers} (old new now : Outside) (number last : ℕ) (p : Progress) (c after : State) (held still : ℕ → Option State) (store : F) (r : Result A F) (end : Result EndCause ServeFault) → GoesOn who old new last held None → held number ≡ Some c → TurnOf who new now number p c after → Follow
    → p ≡ Ended end → (p ≡ Ended (Err Store) → after.end ≡ Some (Err Store)) → OnOk r (end ≢ Err Store) → IfErr r (λ f. (f ≡ store) × (end ≡ Err Store)) → ((n : ℕ) → n ≢ number → still n ≡ held n) → still number ≡ None → AreOffered after (now.wires number)
    → GoesOnOrStops who old now last still store r
closed_turn old new now number last p c after held still store r end g here t follow is at_end ok err others gone offered =
    let calls = t.turn.calls in record {
      failed = calls.failed;
      goes = goes_turn old new now number last p c after held g here t follow still calls.failed calls.told others (λ d some. absurd (none_some d (sym gone ∙ some))) (λ _. offered) (λ some. at_end (calls.ends some)) (failed_stands old new now number last p c after held g here t);
      stops = λ some. stops_so store r end ok err (ended_same end (Err Store) (sym is ∙ calls.ends some));
      only = λ fault. calls.only (g.are_held number c here).2 (is ∙ ap Ended (only_so store r end err fault));
    }

pub goes_so : {A E : Type 0} {who : Callers} (old new : Outside) (last : ℕ) (held : ℕ → Option State) (store : E) (result : Result A E) → (result ≡ Err store → ⊥) → GoesOn who old new last held None → GoesOnOrStops who old new last held store result
goes_so old new last held store result not g = record {
  failed = None;
  goes = g;
  stops = λ some. absurd (false_true some);
  only = λ is. absurd (not is);
}

-- it goes on where it says so
went : {who : Callers} (old new : Outside) (last : ℕ) (held : ℕ → Option State) (failed : Option Request) → (IsSome failed → ⊥) → GoesOn who old new last held failed → GoesOn who old new last held None
went old new last held None not g = g
went old new last held (Some r) not g = absurd (not (some_of r))

pub goes_on : {A E : Type 0} {who : Callers} (old new : Outside) (last : ℕ) (held : ℕ → Option State) (store : E) (result : Result A E) (x : A) → result ≡ Ok x → GoesOnOrStops who old new last held store result → GoesOn who old new last held None
goes_on old new last held store result x is g = went old new last held g.failed (λ some. ok_not x store (sym is ∙ g.stops some)) g.goes

-- no connection is open any more
pub ends_so : {A E : Type 0} {who : Callers} (old new now : Outside) (last : ℕ) (held still : ℕ → Option State) (store : E) (result : Result A E) → ((n : ℕ) → still n ≡ None)
    → ((failed : Option Request) → GoesOn who old new last held failed → GoesOn who old now last still failed) → GoesOnOrStops who old new last held store result → EndsServing who old now store result
ends_so old new now last held still store result none closes g =
    let ended = closes g.failed g.goes in record {
      failed = g.failed;
      served = ended.served;
      stops = g.stops;
      only = g.only;
      at = ended.at;
      offered = λ n. ended.offered n (none n);
    }

pub nothing_served : {A E : Type 0} {who : Callers} (o : Outside) (store : E) (result : Result A E) → ((room : ℕ) → Lives unborn (fresh room)) → AreAnswered o.book [] o.book.history → (result ≡ Err store → ⊥) → EndsServing who o o store result
nothing_served o store result lives none not =
    let g = begins o 0 (λ n. None) lives none (λ n. refl) in record {
      failed = None;
      served = g.served;
      stops = λ some. absurd (false_true some);
      only = λ is. absurd (not is);
      at = g.at;
      offered = λ n. g.offered n refl;
    }

pub has_grown : {A E : Type 0} {who : Callers} (old new : Outside) (store : E) (result : Result A E) → EndsServing who old new store result → HasGrown old.book new.book
has_grown old new store result e = (deliveries (all_of e.served.placed), e.served.answered.after)

-- ---- a connection that is closed

abbrev closed_session : (n : ℕ) (ps : List Placed) (old mid new : Wire) (c d : State) (bs written : List ℕ) → length bs ≤ PIECE → Consumes mid.remaining new.remaining bs → Appends mid.contents new.contents written → ((l : Life) → Lives l c → Lives (with_taken l written) d)
    → d.is_closed ≡ c.is_closed → (s : Session n ps old mid) → s.state ≡ c → s.lost ≡ [] → Session n ps old new
closed_session n ps old mid new c d bs written few read sent lives same s is none =
    let P : State → Type 0 = λ x. Lives s.life x in
    let Q : List ℕ → Type 0 = λ x. Consumes old.remaining mid.remaining x in
    record {
      life = with_taken s.life written;
      state = d;
      lives = lives s.life (subst P is s.lives);
      placed = s.placed;
      lost = bs;
      few = few;
      consumed = Consumes-trans old.remaining mid.remaining new.remaining _ _ (subst Q (ap (λ (q : List ℕ). s.life.bytes ++ q) none ∙ append-nil s.life.bytes) s.consumed) read;
      closed = λ closed. s.closed (ap (λ (x : State). x.is_closed) is ∙ sym same ∙ closed);
      sent = Appends-trans old.contents mid.contents new.contents _ _ s.sent sent;
    }

pub shut : {who : Callers} (old new : Outside) (wires : ℕ → Wire) (number last : ℕ) (c d : State) (held still : ℕ → Option State) (failed : Option Request) (bs written : List ℕ) → held number ≡ Some c → length bs ≤ PIECE → Consumes (new.wires number).remaining (wires number).remaining bs
    → Appends (new.wires number).contents (wires number).contents written → ((l : Life) → Lives l c → Lives (with_taken l written) d) → d.is_closed ≡ c.is_closed → AreOffered d (wires number) → still number ≡ None → ((n : ℕ) → n ≢ number → (still n ≡ held n) × (wires n ≡ new.wires n))
    → GoesOn who old new last held failed → GoesOn who old (with_wires new wires) last still failed
shut old new wires number last c d held still failed bs written here few read sent lives same off gone others g =
    let ps = g.served.placed in
    let h = g.are_held number c here in
    let mine : Session number ps (old.wires number) (wires number) = closed_session number ps (old.wires number) (new.wires number) (wires number) c d bs written few read sent lives same (g.served.each number) h.0 h.1 in
    let kept : (k : ℕ) → k ≢ number → (wires k ≡ new.wires k) × (those_of k ps ≡ those_of k ps) = λ k not. ((others k not).1, refl) in
    let P : ℕ → Type 0 = λ k. AreOffered d (wires k) in
    record {
      served = record {
        placed = ps;
        zone = g.served.zone;
        default = g.served.default;
        answered = g.served.answered;
        gains = g.served.gains;
        told = g.served.told;
        each = picks number ps ps old.wires new.wires wires g.served.each mine kept;
      };
      beyond = λ n above. let b = g.beyond n above in (b.0, (others n (λ is. above_held n last number above is h.3)).1 ∙ b.1);
      are_held = λ n e is.
          let not : n ≢ number = λ at. none_some e (sym gone ∙ ap still (sym at) ∙ is) in
          picked number n ps ps old.wires new.wires wires g.served.each mine kept (Held_so e n last) (λ at. absurd (not at)) (λ _. g.are_held n e (sym (others n not).0 ∙ is)) (eqb_tells n number);
      offered = λ n none.
          picked number n ps ps old.wires new.wires wires g.served.each mine kept (λ s _. AreOffered s (wires n)) (λ at. subst P (sym at) off)
          (λ not. offered_as (g.served.each n).state (new.wires n) (wires n) (others n not).1 (g.offered n (sym (others n not).0 ∙ none))) (eqb_tells n number);
      at = λ some.
          let (m, is, stands) = g.at some in
          let Q : ℕ → Type 0 = λ k. (g.served.each k).state.end ≡ Some (Err Store) in
          let R : State → Type 0 = λ x. x.end ≡ Some (Err Store) in
          let S : State → List ℕ → Type 0 = λ state lost. state.end ≡ Some (Err Store) in
          let T : Life → Type 0 = λ life. StandsNext failed life.rest in (
            m,
            picked number m ps ps old.wires new.wires wires g.served.each mine kept S (λ at. absurd (h.2 (subst R h.0 (subst Q at is)))) (λ not. is) (eqb_tells m number),
            picked_life number m ps ps old.wires new.wires wires g.served.each mine kept T (λ at. absurd (h.2 (subst R h.0 (subst Q at is)))) (λ not. stands) (eqb_tells m number),
          );
    }

still_there : (wires was : ℕ → Wire) (held still : ℕ → Option State) (number n : ℕ) → (wires number ≡ was number) → (still number ≡ held number) → ((n : ℕ) → n ≢ number → (still n ≡ held n) × (wires n ≡ was n)) → Told_apart n number → (wires n ≡ was n) × (still n ≡ held n)
still_there wires was held still number n same stays others (inl (t, is)) = (ap wires is ∙ same ∙ ap was (sym is), ap still is ∙ stays ∙ ap held (sym is))
still_there wires was held still number n same stays others (inr (f, not)) = ((others n not).1, (others n not).0)

closes_at : {who : Callers} (old new : Outside) (wires : ℕ → Wire) (number last : ℕ) (held still : ℕ → Option State) (failed : Option Request) (o : Option State) → held number ≡ o → Closes held still new.wires wires number
    → GoesOn who old new last held failed → GoesOn who old (with_wires new wires) last still failed
closes_at old new wires number last held still failed None is e g =
    let all : (n : ℕ) → (wires n ≡ new.wires n) × (still n ≡ held n) = λ n. still_there wires new.wires held still number n (e.absent is) (e.gone ∙ sym is) e.others (eqb_tells n number) in
    rewired old new wires last held still failed (λ n. (all n).0) (λ n. (all n).1) g
closes_at old new wires number last held still failed (Some c) is e g =
    let o = e.offers c is in
    let P : Option (List ℕ) → Type 0 = λ w. Consumes (new.wires number).remaining w [] in
    shut old new wires number last c o.now held still failed [] o.written is none_few (subst P (sym o.remaining) (Consumes-nil (new.wires number).remaining)) o.sent o.lives o.closed o.offered e.gone e.others g

pub closes : {who : Callers} (old new : Outside) (wires : ℕ → Wire) (number last : ℕ) (held still : ℕ → Option State) (failed : Option Request) → Closes held still new.wires wires number → GoesOn who old new last held failed → GoesOn who old (with_wires new wires) last still failed
closes old new wires number last held still failed e g = closes_at old new wires number last held still failed (held number) refl e g

-- a turn, and then it was closed
pub turn_closed : {who : Callers} (old mid : Outside) (wires : ℕ → Wire) (number : ℕ) (p : Progress) (c after : State) (t : TurnOf who old mid number p c after) (o : Offers after (mid.wires number) (wires number)) → ((n : ℕ) → n ≢ number → wires n ≡ mid.wires n)
    → TurnOf who old (with_wires mid wires) number p c o.now
turn_closed old mid wires number p c after t o others = record {
  zone = t.zone;
  default = t.default;
  legal = t.legal;
  turn = turned_out old.book mid.book.history old.told mid.told p (old.wires number) (mid.wires number) (wires number) c after t.turn o;
  others_same = λ n not. others n not ∙ t.others_same n not;
  gains = t.gains;
}

-- what a read gave
pub read_bytes : {E : Type 0} (a b : Option (List ℕ)) (r : Result ℕ E) (buf : List ℕ) → length buf ≤ PIECE → ReadConsumes a b r buf → (bs : List ℕ) × Consumes a b bs × (length bs ≤ PIECE)
read_bytes a b (Ok n) buf few h = (take n buf, h.0, few_of n buf few)
read_bytes a b (Err e) buf few h = ([], Consumes-kept a a b [] (Consumes-nil a) h, none_few)

-- its replies were offered, and what came is read and of no use
pub read_after : {E : Type 0} {who : Callers} (old new : Outside) (mid read now : ℕ → Wire) (number last : ℕ) (c : State) (held still : ℕ → Option State) (failed : Option Request) (r : Result ℕ E) (buf : List ℕ) → held number ≡ Some c → Offers c (new.wires number) (mid number) → ((n : ℕ) → n ≢ number → mid n ≡ new.wires n)
    → length buf ≤ PIECE → ReadConsumes (mid number).remaining (read number).remaining r buf → (read number).contents ≡ (mid number).contents → (read number).left ≡ (mid number).left → ((n : ℕ) → n ≢ number → read n ≡ mid n) → ((n : ℕ) → now n ≡ read n)
    → still number ≡ None → ((n : ℕ) → n ≢ number → still n ≡ held n) → GoesOn who old new last held failed → GoesOn who old (with_wires new now) last still failed
read_after old new mid read now number last c held still failed r buf here o offered_others small bytes contents left others same gone stays g =
    let (bs, consumed, few) = read_bytes (mid number).remaining (read number).remaining r buf small bytes in
    let P : Option (List ℕ) → Type 0 = λ w. Consumes w (read number).remaining bs in
    let Q : Option (List ℕ) → Type 0 = λ w. Appends (new.wires number).contents w o.written in
    let R : Option (List ℕ) → Type 0 = λ w. IsKnownAs w o.now.replies in
    rewired old (with_wires new read) now last still still failed same (λ n. refl)
    (shut old new read number last c o.now held still failed bs o.written here few (subst P o.remaining consumed) (subst Q (sym contents) o.sent) o.lives o.closed (λ some. subst R (sym left) (o.offered some)) gone (λ n not. (stays n not, others n not ∙ offered_others n not)) g)

-- ---- ends under other names

pub goes_last : {who : Callers} (old new : Outside) (last number : ℕ) (held : ℕ → Option State) (failed : Option Request) → number ≡ last → GoesOn who old new last held failed → GoesOn who old new number held failed
goes_last {who} old new last number held failed is g = let P : ℕ → Type 0 = λ k. GoesOn who old new k held failed in subst P (sym is) g

pub goes_as : {A E : Type 0} {who : Callers} (old new : Outside) (last : ℕ) (held : ℕ → Option State) (store : E) (r q : Result A E) → r ≡ q → GoesOnOrStops who old new last held store r → GoesOnOrStops who old new last held store q
goes_as {A = A} {E = E} {who = who} old new last held store r q is g = let P : Result A E → Type 0 = λ x. GoesOnOrStops who old new last held store x in subst P is g

pub not_store : {A : Type 0} (r : Result A RoomFault) (y f : RoomFault) → r ≡ Err y → y ≡ f → f ≡ faults.Accept → r ≡ Err faults.Store → ⊥
not_store r y f is same accept store = cc

err_is : {A : Type 0} (r : Result A RoomFault) (y f : RoomFault) → r ≡ Err y → y ≡ f → r ≡ Err faults.Store → f ≡ faults.Store
err_is r y f is same store = cc

pub not_this : {A : Type 0} (r : Result A RoomFault) (y f : RoomFault) → r ≡ Err y → y ≡ f → f ≢ faults.Store → r ≡ Err faults.Store → ⊥
not_this r y f is same not store = not (err_is r y f is same store)

pub not_memory : {A : Type 0} (r : Result A RoomFault) (y : RoomFault) → r ≡ Err y → y ≡ faults.Memory → r ≡ Err faults.Store → ⊥
not_memory r y is memory store = cc

pub nothing_grown : (o : Outside) → AreAnswered o.book [] o.book.history → HasGrown o.book o.book
nothing_grown o none = ([], none.after)

pub goes_stop_last : {A E : Type 0} {who : Callers} (old new : Outside) (last number : ℕ) (held : ℕ → Option State) (store : E) (result : Result A E) → number ≡ last → GoesOnOrStops who old new last held store result → GoesOnOrStops who old new number held store result
goes_stop_last {who = who} old new last number held store result is g = let P : ℕ → Type 0 = λ k. GoesOnOrStops who old new k held store result in subst P (sym is) g
