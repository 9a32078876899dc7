-- The sessions go on by requests that were taken together, as each connection is given its reply.
use Rattle.std.proofs.Common.{get_or, ◌≡◌, ◌≢◌, ℕ, List, [], ◌∷◌, ◌++◌, length, refl, sym, ap, subst, ◌∙◌, append-nil, append_assoc, Bool, false, Option, Some, None, Err, arith, ◌||◌}
use Rattle.std.specs.Prelude.{All, ◌+◌, ◌<◌, drop, IfErr, OnOk, Ok, Result, nat_eq, map}
use Rattle.std.specs.List.{list_any, AllByRecursion}
use Rattle.std.proofs.KnownBytes.{Appends-nil, Consumes-nil}
use Rattle.std.proofs.lemmas.List.{drop_more}
use Rattle.std.proofs.lemmas.List.Elements.{All-map, All-push, All-from_recursion, recursion_from_All}
use Rattle.mq_lemmas.proofs.Booleans.{false_true, neither}
use Rattle.mq_request.specs.Range.{IsRequest}
use Rattle.mq_request.specs.declared.message.Reply.{Reply}
use Rattle.mq_request.specs.declared.message.Request.{Request}
use Rattle.mq_ledger.specs.Answer.{history_of, replies_after, reply, with_arrival}
use Rattle.mq_ledger.specs.Day.{day_of}
use Rattle.mq_ledger.specs.History.{requests}
use Rattle.mq_ledger.specs.Legal.{Book, IsLegalBook}
use Rattle.mq_ledger.specs.declared.entry.Entry.{Entry}
use Rattle.mq_ledger.specs.declared.ledger.ReportedCall.{ReportedCall}
use Rattle.mq_ledger.proofs.Numbers.{legal_again, legal_build, one_more}
use Rattle.mq_lemmas.specs.Told.{Tells}
use Rattle.mq_server.specs.declared.connection.EndCause.{EndCause}
use Rattle.mq_server.specs.declared.connection.Progress.{Progress}
use Rattle.mq_server.specs.declared.connection.Progress.TheVariants.{Answered, Ended}
use Rattle.mq_server.specs.declared.fault.ServeFault.{ServeFault}
use Rattle.mq_server.specs.declared.fault.ServeFault.TheVariants.{Store}
use Rattle.mq_connections.specs.declared.fault.RoomFault.{RoomFault}
use Rattle.mq_connections.specs.declared.fault.RoomFault.TheVariants as faults
use Rattle.std.specs.Option.{option_to_list}
use Rattle.mq_lemmas.proofs.Telling.{Tells-trans}
use Rattle.mq_server.specs.Delivery.{failed_call}
use Rattle.mq_server.specs.Held.{State}
use Rattle.mq_server.specs.Life.{AreAnswered, StandsNext, taken, told_of}
use Rattle.mq_server.proofs.Deliveries.{history_none}
use Rattle.mq_connections.specs.Gained.{Callers, MayCome}
use Rattle.mq_connections.specs.Asking.{Gives, GoesOnBy, Left, MayEachCome, StandEach, StandsOn, book_with, out}
use Rattle.mq_connections.specs.Sessions.{GoesOn, Outside, all_of}
use Rattle.mq_connections.specs.Turns.{Turns}
use Rattle.mq_connections.specs.Wires.{AreOffered, Wire}
use Rattle.mq_connections.proofs.Gaining.{gains_all}
use Rattle.mq_connections.proofs.Standing.{TurnOf, closed_turn, goes_on, goes_open}
use Rattle.mq_connections.proofs.Turning.{Follow, Works, answered_room, answered_works, carries_none, none_few, shuts_none, turned}

-- ---- what several arrivals come to

-- after arrivals that make the same history further ones get the same replies, and make the same history
pub alike : (day : ℕ → ℕ) (default : ℕ) (A B : List Request) (rs : List Request) → history_of day default A ≡ history_of day default B
    → (replies_after day default A rs ≡ replies_after day default B rs) × (history_of day default (A ++ rs) ≡ history_of day default (B ++ rs))
alike day default A B [] same = (refl, ap (history_of day default) (append-nil A) ∙ same ∙ sym (ap (history_of day default) (append-nil B)))
alike day default A B (r ∷ rs) same =
    let next : history_of day default (A ++ r ∷ []) ≡ history_of day default (B ++ r ∷ []) = one_more day default A r ∙ ap (λ (H : List Entry). with_arrival day default H r) same ∙ sym (one_more day default B r) in
    let rest = alike day default (A ++ r ∷ []) (B ++ r ∷ []) rs next in (
      (λ i. reply day default (same i) r ∷ rest.0 i),
      ap (history_of day default) (sym (append_assoc A (r ∷ []) rs)) ∙ rest.1 ∙ ap (history_of day default) (append_assoc B (r ∷ []) rs),
    )

in_range : (H : List Entry) → All (λ e. IsRequest e.request) H → All IsRequest (requests H)
in_range H range = All-map IsRequest (λ (e : Entry). e.request) H range

-- with one more the book is legal still
pub legal_with : (b : Book) (r : Request) → IsLegalBook b → IsRequest r → IsLegalBook (book_with b (r ∷ []))
legal_with b r legal ranged = record {
  zone = legal.zone;
  default = legal.default;
  legal = legal_build (day_of b.zone) b.default (requests b.history ++ r ∷ []) (All-push IsRequest (requests b.history) r (in_range b.history legal.legal.range) ranged);
}

same_book : (b : Book) (H : List Entry) → H ≡ b.history → record { zone = b.zone; default = b.default; history = H } ≡ b
same_book b H is = λ i. record { zone = b.zone; default = b.default; history = is i }

-- none more
pub with_none : (b : Book) → IsLegalBook b → book_with b [] ≡ b
with_none b legal = same_book b (history_of (day_of b.zone) b.default (requests b.history ++ [])) (ap (history_of (day_of b.zone) b.default) (append-nil (requests b.history)) ∙ legal_again (day_of b.zone) b.default b.history legal.legal)

-- one more, and then the others
next_same : (b : Book) (r : Request) → IsLegalBook b → IsRequest r
    → (let k = book_with b (r ∷ []) in history_of (day_of b.zone) b.default (requests k.history) ≡ history_of (day_of b.zone) b.default (requests b.history ++ r ∷ []))
next_same b r legal ranged = let k = book_with b (r ∷ []) in legal_again (day_of b.zone) b.default k.history (legal_with b r legal ranged).legal

pub with_more : (b : Book) (r : Request) (rs : List Request) → IsLegalBook b → IsRequest r → book_with (book_with b (r ∷ [])) rs ≡ book_with b (r ∷ rs)
with_more b r rs legal ranged =
    let day = day_of b.zone in
    let k = book_with b (r ∷ []) in
    let same = (alike day b.default (requests k.history) (requests b.history ++ r ∷ []) rs (next_same b r legal ranged)).1 ∙ ap (history_of day b.default) (append_assoc (requests b.history) (r ∷ []) rs) in
    λ i. record { zone = b.zone; default = b.default; history = same i }

replies_more : (b : Book) (r : Request) (rs : List Request) → IsLegalBook b → IsRequest r
    → (let k = book_with b (r ∷ []) in replies_after (day_of b.zone) b.default (requests b.history ++ r ∷ []) rs ≡ replies_after (day_of k.zone) k.default (requests k.history) rs)
replies_more b r rs legal ranged =
    let k = book_with b (r ∷ []) in
    sym (alike (day_of b.zone) b.default (requests k.history) (requests b.history ++ r ∷ []) rs (next_same b r legal ranged)).0

-- ---- one of them

one_answered : (b : Book) (r : Request) (a : Reply) → IsLegalBook b → a ≡ reply (day_of b.zone) b.default b.history r → AreAnswered b (taken r a ∷ []) (book_with b (r ∷ [])).history
one_answered b r a legal is = record {
  replies = ap (λ (q : Reply). q ∷ []) (is ∙ ap (λ (H : List Entry). reply (day_of b.zone) b.default H r) (sym (history_none b legal)));
  after = refl;
}

given_turn : (b : Book) (r : Request) (a : Reply) (wire : Wire) (c now : State) → IsLegalBook b → a ≡ reply (day_of b.zone) b.default b.history r → StandsNext (Some r) c.rest → now.is_closed ≡ c.is_closed → GoesOnBy c now a
    → Turns b (book_with b (r ∷ [])).history None None Answered wire wire c now
given_turn b r a wire c now legal is stands closed by =
    turned b (book_with b (r ∷ [])).history None None Answered wire wire c now now (taken r a ∷ []) [] [] [] (one_answered b r a legal is)
    (record { failed = None; told = tt; ends = λ some. absurd (false_true some); only = λ not end. absurd (answered_works end) })
    (λ l here. let it = by r stands l here in (it.0, it.1, tt)) (λ _. refl) none_few (λ _. refl) (Consumes-nil wire.remaining) (Appends-nil wire.contents) (shuts_none c now wire.remaining [] closed) (carries_none now)

pub one_given : {who : Callers} → Follow → (old : Outside) (b : Book) (wires : ℕ → Wire) (last number : ℕ) (r : Request) (a : Reply) (held still : ℕ → Option State) (c now : State)
    → IsLegalBook b → held number ≡ Some c → StandsNext (Some r) c.rest → a ≡ reply (day_of b.zone) b.default b.history r → now.is_closed ≡ c.is_closed → now.end ≢ Some (Err Store) → GoesOnBy c now a
    → still number ≡ Some now → ((n : ℕ) → n ≢ number → still n ≡ held n) → MayCome who number r
    → GoesOn who old (out b wires) last held None → GoesOn who old (out (book_with b (r ∷ [])) wires) last still None
one_given {who} follow old b wires last number r a held still c now legal here stands is closed works by there others may g =
    let turn : TurnOf who (out b wires) (out (book_with b (r ∷ [])) wires) number Answered c now =
    record { zone = refl; default = refl; legal = legal; turn = given_turn b r a (wires number) c now legal is stands closed by; others_same = λ n not. refl; gains = gains_all b (r ∷ []) legal (may, tt) } in
    goes_open old (out b wires) (out (book_with b (r ∷ [])) wires) number last Answered c now held g here turn follow still answered_works answered_room (λ _. works) others there

-- ---- all of them

nat_apart : (m n : ℕ) → nat_eq m n ≡ false → m ≢ n
nat_apart m n not is = grind arith

eq_sym : (m n : ℕ) → nat_eq m n ≡ false → nat_eq n m ≡ false
eq_sym m n not = grind arith

any_push : (ns : List ℕ) (m n : ℕ) → list_any (λ k. nat_eq k m) ns ≡ false → nat_eq n m ≡ false → list_any (λ k. nat_eq k m) (ns ++ n ∷ []) ≡ false
any_push [] m n none not = ap (λ (x : Bool). x || false) not
any_push (k ∷ ns) m n none not = let both = neither (nat_eq k m) (list_any (λ j. nat_eq j m) ns) none in (λ i. both.0 i || any_push ns m n both.1 not i)

-- those on other connections stand still
pub stand_beside : (was now : ℕ → Option State) (number : ℕ) (ns : List ℕ) (rs : List Request) → list_any (λ m. nat_eq m number) ns ≡ false → ((n : ℕ) → n ≢ number → now n ≡ was n) → StandEach was ns rs → StandEach now ns rs
stand_beside was now number [] [] none others e = tt
stand_beside was now number [] (r ∷ rs) none others e = absurd e
stand_beside was now number (n ∷ ns) [] none others e = absurd e
stand_beside was now number (n ∷ ns) (r ∷ rs) none others (here, unlike, rest) =
    let both = neither (nat_eq n number) (list_any (λ m. nat_eq m number) ns) none in (
      record { state = here.state; is_open = others n (nat_apart n number both.0) ∙ here.is_open; going = here.going; stands = here.stands },
      unlike,
      stand_beside was now number ns rs both.1 others rest,
    )

-- one more stands next
pub stand_more : (connections : ℕ → Option State) (ns : List ℕ) (rs : List Request) (n : ℕ) (r : Request) → list_any (λ m. nat_eq m n) ns ≡ false → StandsOn connections n r → StandEach connections ns rs → StandEach connections (ns ++ n ∷ []) (rs ++ r ∷ [])
stand_more connections [] [] n r none here e = (here, refl, tt)
stand_more connections [] (x ∷ rs) n r none here e = absurd e
stand_more connections (m ∷ ns) [] n r none here e = absurd e
stand_more connections (m ∷ ns) (x ∷ rs) n r none here (first, unlike, rest) =
    let both = neither (nat_eq m n) (list_any (λ k. nat_eq k n) ns) none in
    (first, any_push ns m n unlike (eq_sym m n both.0), stand_more connections ns rs n r both.1 here rest)

-- none is left
left_end : {who : Callers} (old : Outside) (wires : ℕ → Wire) (last : ℕ) (held : ℕ → Option State) (end b : Book) (rs : List Request) → IsLegalBook b → StandEach held [] rs → GoesOn who old (out b wires) last held None → book_with b rs ≡ end → GoesOn who old (out end wires) last held None
left_end {who} old wires last held end b [] legal e g is = subst (λ (k : Book). GoesOn who old (out k wires) last held None) (sym (with_none b legal) ∙ is) g
left_end old wires last held end b (r ∷ rs) legal e g is = absurd e

pub left_none : {who : Callers} (old : Outside) (wires : ℕ → Wire) (last : ℕ) (held : ℕ → Option State) (said : List Reply) (end : Book) → Left who old wires last held [] said end → GoesOn who old (out end wires) last held None
left_none old wires last held said end l = left_end old wires last held end l.book l.arrivals l.legal l.stand l.goes l.ends

-- a reply is there for each
short_by : (day : ℕ → ℕ) (default : ℕ) (A rs : List Request) (held : ℕ → Option State) (n : ℕ) (ns : List ℕ) → StandEach held (n ∷ ns) rs → [] ≡ replies_after day default A rs → ⊥
short_by day default A [] held n ns e is = e
short_by day default A (r ∷ rs) held n ns e is = cc

pub left_short : {who : Callers} (old : Outside) (wires : ℕ → Wire) (last : ℕ) (held : ℕ → Option State) (n : ℕ) (ns : List ℕ) (end : Book) → Left who old wires last held (n ∷ ns) [] end → ⊥
left_short old wires last held n ns end l = short_by (day_of l.book.zone) l.book.default (requests l.book.history) l.arrivals held n ns l.stand l.replies

-- the first of them is given its reply
head_is : (a b : Reply) (xs ys : List Reply) → a ∷ xs ≡ b ∷ ys → a ≡ b
head_is a b xs ys is = cc

tail_is : (a b : Reply) (xs ys : List Reply) → a ∷ xs ≡ b ∷ ys → xs ≡ ys
tail_is a b xs ys is = cc

left_by : {who : Callers} → Follow → (old : Outside) (wires : ℕ → Wire) (last n : ℕ) (held still : ℕ → Option State) (ns : List ℕ) (a : Reply) (said : List Reply) (end b : Book) (rs : List Request) → IsLegalBook b → AllByRecursion IsRequest rs → StandEach held (n ∷ ns) rs → MayEachCome who (n ∷ ns) rs
    → (a ∷ said ≡ replies_after (day_of b.zone) b.default (requests b.history) rs) → GoesOn who old (out b wires) last held None → book_with b rs ≡ end → Gives (held n) (still n) a → ((m : ℕ) → m ≢ n → still m ≡ held m) → Left who old wires last still ns said end
left_by follow old wires last n held still ns a said end b [] legal ranged e may said_is g is gives others = absurd e
left_by follow old wires last n held still ns a said end b (r ∷ rs) legal ranged (here, unlike, rest) may said_is g is gives others =
    let day = day_of b.zone in
    let (now, there, closed, works, by) = gives here.state here.is_open here.going in
    let first = head_is a _ said _ said_is ∙ ap (λ (H : List Entry). reply day b.default H r) (legal_again day b.default b.history legal.legal) in
    record {
      book = book_with b (r ∷ []);
      arrivals = rs;
      legal = legal_with b r legal ranged.0;
      ranged = All-from_recursion IsRequest rs ranged.1;
      stand = stand_beside held still n ns rs unlike others rest;
      may = may.1;
      replies = tail_is a _ said _ said_is ∙ replies_more b r rs legal ranged.0;
      goes = one_given follow old b wires last n r a held still here.state now legal here.is_open here.stands first closed works by there others may.0 g;
      ends = with_more b r rs legal ranged.0 ∙ is;
    }

pub left_more : {who : Callers} → Follow → (old : Outside) (wires : ℕ → Wire) (last n : ℕ) (held still : ℕ → Option State) (ns : List ℕ) (a : Reply) (said : List Reply) (end : Book) → Gives (held n) (still n) a → ((m : ℕ) → m ≢ n → still m ≡ held m)
    → Left who old wires last held (n ∷ ns) (a ∷ said) end → Left who old wires last still ns said end
left_more follow old wires last n held still ns a said end gives others l =
    left_by follow old wires last n held still ns a said end l.book l.arrivals l.legal (recursion_from_All IsRequest l.arrivals l.ranged) l.stand l.may l.replies l.goes l.ends gives others

-- ---- what is reported

untold_by : (t : Option (List ReportedCall)) (xs : List ReportedCall) → Tells t None xs
untold_by None xs = tt
untold_by (Some before) xs = tt

-- a ledger that reports no more
pub untold : {who : Callers} (old : Outside) (b : Book) (told : Option (List ReportedCall)) (wires : ℕ → Wire) (last : ℕ) (held : ℕ → Option State) → GoesOn who old (record { book = b; told = told; wires = wires }) last held None → GoesOn who old (out b wires) last held None
untold old b told wires last held g = record {
  served = record {
    placed = g.served.placed;
    zone = g.served.zone;
    default = g.served.default;
    answered = g.served.answered;
    gains = g.served.gains;
    told = untold_by old.told (told_of (all_of g.served.placed) ++ map failed_call (option_to_list None));
    each = g.served.each;
  };
  beyond = g.beyond;
  are_held = g.are_held;
  offered = g.offered;
  at = g.at;
}

-- or that reports nothing further
pub told_still : {who : Callers} (old : Outside) (b : Book) (t u : Option (List ReportedCall)) (wires : ℕ → Wire) (last : ℕ) (held : ℕ → Option State) → Tells t u [] → GoesOn who old (record { book = b; told = t; wires = wires }) last held None
    → GoesOn who old (record { book = b; told = u; wires = wires }) last held None
told_still old b t u wires last held still g =
    let xs = told_of (all_of g.served.placed) ++ map failed_call (option_to_list None) in
    let P : List ReportedCall → Type 0 = λ q. Tells old.told u q in
    record {
      served = record {
        placed = g.served.placed;
        zone = g.served.zone;
        default = g.served.default;
        answered = g.served.answered;
        gains = g.served.gains;
        told = subst P (append-nil xs) (Tells-trans old.told t u xs [] g.served.told still);
        each = g.served.each;
      };
      beyond = g.beyond;
      are_held = g.are_held;
      offered = g.offered;
      at = g.at;
    }

-- ---- a connection that failed at a read

pub closed_works : {who : Callers} (old new now : Outside) (number last : ℕ) (p : Progress) (c after : State) (held still : ℕ → Option State) (end : Result EndCause ServeFault) → GoesOn who old new last held None → held number ≡ Some c → TurnOf who new now number p c after → Follow
    → p ≡ Ended end → Works p → ((n : ℕ) → n ≢ number → still n ≡ held n) → still number ≡ None → AreOffered after (now.wires number) → GoesOn who old now last still None
closed_works old new now number last p c after held still end g here t follow is works others gone offered =
    let r : Result (Unit {0}) RoomFault = Ok tt in
    let ok : OnOk r (end ≢ Err Store) = λ e. works (is ∙ ap Ended e) in
    let err : IfErr r (λ f. (f ≡ faults.Store) × (end ≡ Err Store)) = tt in
    goes_on old now last still faults.Store r tt refl (closed_turn old new now number last p c after held still faults.Store r end g here t follow is (λ failed. absurd (works failed)) ok err others gone offered)

-- ---- an item of a list

pub got_drop : (xs : List Reply) (i : ℕ) (x : Reply) → i < length xs → x ≡ get_or xs i x → drop i xs ≡ x ∷ drop (i + 1) xs
got_drop xs i x low is = drop_more xs i x low ∙ ap (λ (y : Reply). y ∷ drop (i + 1) xs) (sym is)
