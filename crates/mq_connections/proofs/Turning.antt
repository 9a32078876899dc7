-- One turn after another.
use Rattle.std.proofs.Common.{◌≡◌, ◌≢◌, ◌⊎◌, ℕ, ◌<◌, inl, inr, length-append, ◌≤◌, List, [], ◌++◌, length, map, take, drop, arith, refl, sym, ap, subst, ◌∙◌, append-nil, append_assoc, Option, Some, None, Result, Ok, Err, true}
use Rattle.std.specs.Prelude.{IsSome}
use Rattle.std.specs.Option.{option_to_list}
use Rattle.std.specs.Io.KnownBytes.{Appends, Consumes, IsAtEnd, Keeps, ReadConsumes, WriteAppends}
use Rattle.std.proofs.KnownBytes.{Appends-nil, Appends-trans, Consumes-nil, Consumes-trans}
use Rattle.std.proofs.lemmas.List.{length-take, nil_from_length}
use Rattle.mq_lemmas.proofs.Booleans.{false_true}
use Rattle.mq_lemmas.proofs.Streams.{appends_kept}
use Rattle.mq_request.specs.declared.message.Request.{Request}
use Rattle.mq_ledger.specs.declared.entry.Entry.{Entry}
use Rattle.mq_ledger.specs.declared.ledger.ReportedCall.{ReportedCall}
use Rattle.mq_ledger.specs.Legal.{Book, IsLegalBook}
use Rattle.mq_lemmas.specs.Told.{Tells}
use Rattle.mq_lemmas.proofs.Telling.{Tells-none, Tells-trans}
use Rattle.mq_server.specs.declared.connection.Progress.{Progress}
use Rattle.mq_server.specs.declared.connection.Progress.TheVariants.{Answered, Waits, Ended}
use Rattle.mq_server.specs.declared.connection.EndCause.{EndCause}
use Rattle.mq_server.specs.declared.fault.ServeFault.TheVariants.{Memory, Store}
use Rattle.mq_server.specs.declared.fault.ServeFault.{ServeFault}
use Rattle.mq_server.specs.declared.input.TheConstants.{PIECE}
use Rattle.mq_server.specs.Delivery.{failed_call}
use Rattle.mq_server.specs.Held.{State}
use Rattle.mq_server.specs.Life.{AreAnswered, Exchange, Life, Lives, MakesCalls, StandsNext, told_of, with_bytes, with_exchanges, with_taken}
use Rattle.mq_server.proofs.Advance.{Extended, told_both, same_life, ended_same}
use Rattle.mq_connections.specs.Turns.{ClosesAtEnd, Offers, Turns, lived}
use Rattle.mq_connections.specs.Wires.{AreOffered, IsKnownAs, Wire}

-- ---- what a ledger reports

pub some_of : (r : Request) → IsSome (Some r)
some_of r = refl

-- it isn't the store that failed
abbrev pub Works : Progress → Type 0
Works p = p ≡ Ended (Err Store) → ⊥

abbrev pub no_calls : (t : Option (List ReportedCall)) (was : Option (Result EndCause ServeFault)) (p : Progress) → Works p → MakesCalls was p t t []
no_calls t was p works = record { failed = None; told = Tells-none t; ends = λ some. absurd (false_true some); only = λ not is. absurd (works is) }

abbrev pub calls_as : (t u : Option (List ReportedCall)) (was : Option (Result EndCause ServeFault)) (p q : Progress) (xs : List Exchange) → Works p → Works q → MakesCalls was p t u xs → MakesCalls was q t u xs
calls_as t u was p q xs works still calls = record { failed = calls.failed; told = calls.told; ends = λ some. absurd (works (calls.ends some)); only = λ not is. absurd (still is) }

-- where the store worked, the calls are those of the exchanges
worked : (t u : Option (List ReportedCall)) (xs : List Exchange) (failed : Option Request) → (IsSome failed → ⊥) → Tells t u (told_of xs ++ map failed_call (option_to_list failed)) → Tells t u (told_of xs)
worked t u xs None none told = let P : List ReportedCall → Type 0 = λ q. Tells t u q in subst P (append-nil (told_of xs)) told
worked t u xs (Some r) none told = absurd (none (some_of r))

pub worked_calls : (t u : Option (List ReportedCall)) (was : Option (Result EndCause ServeFault)) (p : Progress) (xs : List Exchange) → Works p → MakesCalls was p t u xs → Tells t u (told_of xs)
worked_calls t u was p xs works calls = worked t u xs calls.failed (λ some. works (calls.ends some)) calls.told

pub told_on : (t u v : Option (List ReportedCall)) (xs ys : List Exchange) (more : List ReportedCall) → Tells t u (told_of xs) → Tells u v (told_of ys ++ more) → Tells t v (told_of (xs ++ ys) ++ more)
told_on t u v xs ys more before after =
    let P : List ReportedCall → Type 0 = λ q. Tells t v q in
    subst P (sym (append_assoc (told_of xs) (told_of ys) more) ∙ ap (λ (q : List ReportedCall). q ++ more) (sym (told_both xs ys))) (Tells-trans t u v (told_of xs) (told_of ys ++ more) before after)

abbrev calls_both : (t u v : Option (List ReportedCall)) (was mid : Option (Result EndCause ServeFault)) (p q : Progress) (xs ys : List Exchange) → Works p → (was ≢ Some (Err Store) → mid ≢ Some (Err Store)) → MakesCalls was p t u xs → MakesCalls mid q u v ys → MakesCalls was q t v (xs ++ ys)
calls_both t u v was mid p q xs ys works still first second = record {
  failed = second.failed;
  told = told_on t u v xs ys (map failed_call (option_to_list second.failed)) (worked_calls t u was p xs works first) second.told;
  ends = second.ends;
  only = λ not is. second.only (still not) is;
}

-- ---- lives under two names

abbrev named : Life → List ℕ → List Exchange → List ℕ → List ℕ → Life
named l bytes exchanges rest taken = record { bytes = bytes; exchanges = exchanges; rest = rest; taken = taken }

-- a life with more bytes in and more bytes out
abbrev pub carried : Life → List ℕ → List ℕ → Life
carried l read written = named l (l.bytes ++ read) l.exchanges (l.rest ++ read) (l.taken ++ written)

pub carried_out : (l : Life) (w : List ℕ) → with_taken l w ≡ carried l [] w
carried_out l w = λ i. named l (sym (append-nil l.bytes) i) l.exchanges (sym (append-nil l.rest) i) (l.taken ++ w)

pub carried_in : (l : Life) (r : List ℕ) → with_bytes l r ≡ carried l r []
carried_in l r = λ i. named l (l.bytes ++ r) l.exchanges (l.rest ++ r) (sym (append-nil l.taken) i)

carried_none : (l : Life) → l ≡ carried l [] []
carried_none l = λ i. named l (sym (append-nil l.bytes) i) l.exchanges (sym (append-nil l.rest) i) (sym (append-nil l.taken) i)

lived_both : (l : Life) (r s : List ℕ) (xs ys : List Exchange) (rest rest' w v : List ℕ) → lived (lived l r xs rest w) s ys rest' v ≡ lived l (r ++ s) (xs ++ ys) rest' (w ++ v)
lived_both l r s xs ys rest rest' w v = λ i. named l (append_assoc l.bytes r s i) (append_assoc l.exchanges xs ys i) rest' (append_assoc l.taken w v i)

-- each life of a connection goes on by bytes in and bytes out
abbrev pub Carries : State → State → List ℕ → List ℕ → Type 0
Carries c now read written = (l : Life) → Lives l c → Lives (carried l read written) now

pub extends_none : (c : State) → Extended c c [] None
extends_none c = λ l here. (l.rest, (let P : Life → Type 0 = λ q. Lives q c in subst P (same_life l) here), tt)

pub carries_none : (c : State) → Carries c c [] []
carries_none c = λ l here. let P : Life → Type 0 = λ q. Lives q c in subst P (carried_none l) here

pub carries_out : (c now : State) (w : List ℕ) → ((l : Life) → Lives l c → Lives (with_taken l w) now) → Carries c now [] w
carries_out c now w f = λ l here. let P : Life → Type 0 = λ q. Lives q now in subst P (carried_out l w) (f l here)

pub carries_in : (c now : State) (r : List ℕ) → ((l : Life) → Lives l c → Lives (with_bytes l r) now) → Carries c now r []
carries_in c now r f = λ l here. let P : Life → Type 0 = λ q. Lives q now in subst P (carried_in l r) (f l here)

-- ---- a turn

pub none_few : length {A = ℕ} [] ≤ PIECE
none_few = omega arith

pub few_of : (n : ℕ) (bytes : List ℕ) → length bytes ≤ PIECE → length (take n bytes) ≤ PIECE
few_of n bytes few = let h = length-take n bytes in omega (arith, h, few)

-- a wire whose part stays as it was
pub still_in : (a b : Option (List ℕ)) → b ≡ a → Consumes a b []
still_in a b is = let P : Option (List ℕ) → Type 0 = λ q. Consumes a q [] in subst P (sym is) (Consumes-nil a)

pub still_out : (a b : Option (List ℕ)) → b ≡ a → Appends a b []
still_out a b is = let P : Option (List ℕ) → Type 0 = λ q. Appends a q [] in subst P (sym is) (Appends-nil a)

-- ---- a wire of which all came

-- no more came after all that was known
none_after : (bytes more lost left : List ℕ) → bytes ≡ ((bytes ++ more) ++ lost) ++ left → length more ≡ 0
none_after bytes more lost left is = omega (arith, ap length is, length-append ((bytes ++ more) ++ lost) left, length-append (bytes ++ more) lost, length-append bytes more)

pub known_more : (a b : Option (List ℕ)) (bytes more lost : List ℕ) → IsKnownAs a bytes → Consumes a b ((bytes ++ more) ++ lost) → IsKnownAs a (bytes ++ more)
known_more None b bytes more lost is consumed = tt
known_more (Some x) None bytes more lost is consumed = absurd consumed
known_more (Some x) (Some y) bytes more lost is consumed =
    is ∙ sym (append-nil bytes) ∙ ap (λ (q : List ℕ). bytes ++ q) (sym (nil_from_length more (none_after bytes more lost y (sym is ∙ consumed))))

-- all that is left comes after what came
pub known_after : (a b : Option (List ℕ)) (bytes more : List ℕ) → Consumes a b bytes → IsKnownAs b more → IsKnownAs a (bytes ++ more)
known_after None b bytes more consumed is = tt
known_after (Some x) None bytes more consumed is = absurd consumed
known_after (Some x) (Some y) bytes more consumed is = consumed ∙ ap (λ (q : List ℕ). bytes ++ q) is

-- at the end nothing is left
known_end : (a b : Option (List ℕ)) → Consumes a b [] → IsAtEnd b → IsKnownAs a []
known_end None b consumed end = tt
known_end (Some x) None consumed end = absurd consumed
known_end (Some x) (Some y) consumed end = consumed ∙ end

shuts_more : (c : State) (a e : Option (List ℕ)) (r s lost : List ℕ) → Consumes a e ((r ++ s) ++ lost) → (c.is_closed ≡ true) ⊎ IsKnownAs a r → (c.is_closed ≡ true) ⊎ IsKnownAs a (r ++ s)
shuts_more c a e r s lost all (inl closed) = inl closed
shuts_more c a e r s lost all (inr is) = inr (known_more a e r s lost is all)

shuts_then : (c d : State) (a b e : Option (List ℕ)) (r s lost : List ℕ) → Consumes a b r → Consumes a e ((r ++ s) ++ lost) → ClosesAtEnd c d a r → (d.is_closed ≡ true) ⊎ IsKnownAs b s → (c.is_closed ≡ true) ⊎ IsKnownAs a (r ++ s)
shuts_then c d a b e r s lost first all before (inl closed) = shuts_more c a e r s lost all (before closed)
shuts_then c d a b e r s lost first all before (inr is) = inr (known_after a b r s first is)

shuts_as : (c d : State) (a : Option (List ℕ)) (r : List ℕ) → d.is_closed ≡ c.is_closed → (d.is_closed ≡ true) ⊎ IsKnownAs a r → (c.is_closed ≡ true) ⊎ IsKnownAs a r
shuts_as c d a r same (inl closed) = inl (sym same ∙ closed)
shuts_as c d a r same (inr is) = inr is

-- what was closed before is closed
pub shuts_before : (c d now : State) (a : Option (List ℕ)) (r : List ℕ) → d.is_closed ≡ c.is_closed → ClosesAtEnd d now a r → ClosesAtEnd c now a r
shuts_before c d now a r same shuts = λ closed. shuts_as c d a r same (shuts closed)

-- and nothing else
pub shuts_none : (c now : State) (a : Option (List ℕ)) (r : List ℕ) → now.is_closed ≡ c.is_closed → ClosesAtEnd c now a r
shuts_none c now a r same = λ closed. inl (sym same ∙ closed)

-- all bytes of a session that is closed came
pub session_shuts : (c : State) (a b e : Option (List ℕ)) (bytes read lost : List ℕ) → Consumes a b bytes → Consumes a e ((bytes ++ read) ++ lost) → (c.is_closed ≡ true → IsKnownAs a bytes) → (c.is_closed ≡ true) ⊎ IsKnownAs b read → IsKnownAs a (bytes ++ read)
session_shuts c a b e bytes read lost first all before (inl closed) = known_more a e bytes read lost (before closed) all
session_shuts c a b e bytes read lost first all before (inr is) = known_after a b bytes read first is

-- where the store failed nothing was read after it
stands_on : (failed : Option Request) (rest read : List ℕ) → (IsSome failed → read ≡ []) → StandsNext failed rest → StandsNext failed (rest ++ read)
stands_on None rest read none stands = tt
stands_on (Some r) rest read none stands = let P : List ℕ → Type 0 = λ q. StandsNext (Some r) q in subst P (sym (append-nil rest) ∙ ap (λ (q : List ℕ). rest ++ q) (sym (none (some_of r)))) stands

-- answers, and then bytes in or out
pub turned : (b : Book) (history : List Entry) (t u : Option (List ReportedCall)) (p : Progress) (old new : Wire) (c d now : State) (xs : List Exchange) (read lost written : List ℕ)
    → AreAnswered b xs history → (calls : MakesCalls c.end p t u xs) → Extended c d xs calls.failed → (IsSome calls.failed → read ≡ []) → length lost ≤ PIECE → (p ≢ Ended (Err Memory) → lost ≡ []) → Consumes old.remaining new.remaining (read ++ lost) → Appends old.contents new.contents written
    → ClosesAtEnd c now old.remaining read → Carries d now read written → Turns b history t u p old new c now
turned b history t u p old new c d now xs read lost written right calls extends none few whole consumed sent closed carries = record {
  exchanges = xs;
  answered = right;
  calls = calls;
  read = read;
  lost = lost;
  few = few;
  whole = whole;
  written = written;
  consumed = consumed;
  sent = sent;
  closed = closed;
  lives = λ l here. let (rest, then, stands) = extends l here in (rest ++ read, carries (with_exchanges l xs rest) then, stands_on calls.failed rest read none stands);
}

pub nothing_done : (b : Book) (t : Option (List ReportedCall)) (p : Progress) (wire : Wire) (c : State) → Works p → AreAnswered b [] b.history → Turns b b.history t t p wire wire c c
nothing_done b t p wire c works none =
    turned b b.history t t p wire wire c c c [] [] [] [] none (no_calls t c.end p works) (extends_none c) (λ _. refl) none_few (λ _. refl) (Consumes-nil wire.remaining) (Appends-nil wire.contents) (shuts_none c c wire.remaining [] refl) (carries_none c)

-- exchanges after others, by the law of mq_server
abbrev pub Follow : Type 0
Follow = (b k : Book) (xs ys : List Exchange) (history : List Entry) → IsLegalBook k → k.zone ≡ b.zone → k.default ≡ b.default → AreAnswered b xs k.history → AreAnswered k ys history → AreAnswered b (xs ++ ys) history

all_read : (r s lost : List ℕ) → (r ++ []) ++ (s ++ lost) ≡ (r ++ s) ++ lost
all_read r s lost = ap (λ (q : List ℕ). q ++ (s ++ lost)) (append-nil r) ∙ sym (append_assoc r s lost)

pub both : Follow → (b k : Book) (history : List Entry) (t u v : Option (List ReportedCall)) (p q : Progress) (old mid new : Wire) (c d now : State) → IsLegalBook k → k.zone ≡ b.zone → k.default ≡ b.default
    → Works p → p ≢ Ended (Err Memory) → (c.end ≢ Some (Err Store) → d.end ≢ Some (Err Store))
    → Turns b k.history t u p old mid c d → Turns k history u v q mid new d now → Turns b history t v q old new c now
both follow b k history t u v p q old mid new c d now legal zone default works room still first second =
    let P : List ℕ → Type 0 = λ x. Consumes old.remaining mid.remaining (first.read ++ x) in
    let Q : List ℕ → Type 0 = λ x. Consumes old.remaining new.remaining x in
    let S : List ℕ → Type 0 = λ x. Consumes old.remaining mid.remaining x in
    let before = subst P (first.whole room) first.consumed in
    let all = subst Q (all_read first.read second.read second.lost) (Consumes-trans old.remaining mid.remaining new.remaining _ _ before second.consumed) in
    record {
      exchanges = first.exchanges ++ second.exchanges;
      answered = follow b k first.exchanges second.exchanges history legal zone default first.answered second.answered;
      calls = calls_both t u v c.end d.end p q first.exchanges second.exchanges works still first.calls second.calls;
      read = first.read ++ second.read;
      lost = second.lost;
      few = second.few;
      whole = second.whole;
      written = first.written ++ second.written;
      consumed = all;
      sent = Appends-trans old.contents mid.contents new.contents _ _ first.sent second.sent;
      closed = λ is. shuts_then c d old.remaining mid.remaining new.remaining first.read second.read second.lost (subst S (append-nil first.read) before) all first.closed (second.closed is);
      lives = λ l here.
          let (rest, then, stands) = first.lives l here in
          let (rest', after, stands') = second.lives (lived l first.read first.exchanges rest first.written) then in
          let R : Life → Type 0 = λ x. Lives x now in
          (rest', subst R (lived_both l first.read second.read first.exchanges second.exchanges rest rest' first.written second.written) after, stands');
    }

-- ---- by what it came to

pub answered_works : Works Answered
answered_works e = cc

pub answered_room : Answered ≢ Ended (Err Memory)
answered_room e = cc

pub waits_works : Works Waits
waits_works e = cc

pub turns_as : (b : Book) (history : List Entry) (t u : Option (List ReportedCall)) (p q : Progress) (old new : Wire) (c now : State) → p ≡ q → Turns b history t u p old new c now → Turns b history t u q old new c now
turns_as b history t u p q old new c now is turns = let P : Progress → Type 0 = λ x. Turns b history t u x old new c now in subst P is turns

pub calls_is : (t u : Option (List ReportedCall)) (was : Option (Result EndCause ServeFault)) (p q : Progress) (xs : List Exchange) → p ≡ q → MakesCalls was p t u xs → MakesCalls was q t u xs
calls_is t u was p q xs is calls = let P : Progress → Type 0 = λ x. MakesCalls was x t u xs in subst P is calls

-- ---- what a read or a write leaves

-- no bytes of replies were taken
pub takes_none : (c : State) (l : Life) → Lives l c → Lives (with_taken l []) c
takes_none c l here = let P : Life → Type 0 = λ q. Lives q c in subst P (λ i. named l l.bytes l.exchanges l.rest (sym (append-nil l.taken) i)) here

-- no bytes came
pub comes_none : (c : State) (l : Life) → Lives l c → Lives (with_bytes l []) c
comes_none c l here = let P : Life → Type 0 = λ q. Lives q c in subst P (λ i. named l (sym (append-nil l.bytes) i) l.exchanges (sym (append-nil l.rest) i) l.taken) here

-- an end that isn't the store's, by what an answer came to
pub still_works : (p : Progress) (e : Option (Result EndCause ServeFault)) → ((r : Result EndCause ServeFault) → p ≡ Ended r → e ≡ Some r) → (p ≡ Answered → e ≡ None) → (p ≡ Waits → e ≡ None) → Works p → e ≢ Some (Err Store)
still_works Answered e ended answered waits works is = let h = answered refl in cc
still_works Waits e ended answered waits works is = let h = waits refl in cc
still_works (Ended r) e ended answered waits works is = let h = ended r refl in works (let same : Ended r ≡ Ended (Err Store) = cc in same)

pub waits_room : Waits ≢ Ended (Err Memory)
waits_room e = cc

-- the same connection lives alike
pub lives_as : (d now : State) (l : Life) → now ≡ d → Lives l d → Lives l now
lives_as d now l is here = let P : State → Type 0 = λ q. Lives l q in subst P (sym is) here

-- what a write leaves
abbrev pub Writes : Option (List ℕ) → Option (List ℕ) → State → State → Type 0
Writes a b c now = (written : List ℕ) × Appends a b written × ((l : Life) → Lives l c → Lives (with_taken l written) now)

pub writes_none : (a b : Option (List ℕ)) (c : State) → Appends a b [] → Writes a b c c
writes_none a b c sent = ([], sent, takes_none c)

pub writes_some : (a b : Option (List ℕ)) (c d now : State) (bytes : List ℕ) (count : ℕ) → bytes ≡ c.replies → now ≡ d → Appends a b (take count bytes) → ((l : Life) → Lives l c → Lives (with_taken l (take count c.replies)) d) → Writes a b c now
writes_some a b c d now bytes count is same sent lives =
    let P : List ℕ → Type 0 = λ q. Appends a b (take count q) in
    (take count c.replies, subst P is sent, λ l here. lives_as d now (with_taken l (take count c.replies)) same (lives l here))

-- what a read leaves, where it came to this
abbrev pub Reads : Option (List ℕ) → Option (List ℕ) → State → State → Progress → Type 0
Reads a b c now p = (read : List ℕ) × (lost : List ℕ) × (length lost ≤ PIECE) × (p ≢ Ended (Err Memory) → lost ≡ []) × Consumes a b (read ++ lost) × ClosesAtEnd c now a read × ((l : Life) → Lives l c → Lives (with_bytes l read) now)

pub reads_none : (a b : Option (List ℕ)) (c now : State) (p : Progress) → Consumes a b [] → ClosesAtEnd c now a [] → ((l : Life) → Lives l c → Lives l now) → Reads a b c now p
reads_none a b c now p consumed closed lives = ([], [], none_few, (λ _. refl), consumed, closed, λ l here. comes_none now l (lives l here))

pub reads_some : (a b : Option (List ℕ)) (c d now : State) (p : Progress) (bytes front : List ℕ) → bytes ≡ front → now ≡ d → d.is_closed ≡ c.is_closed → Consumes a b front → ((l : Life) → Lives l c → Lives (with_bytes l bytes) d) → Reads a b c now p
reads_some a b c d now p bytes front is same still consumed lives =
    let P : List ℕ → Type 0 = λ q. Consumes a b q in
    (bytes, [], none_few, (λ _. refl), subst P (sym is ∙ sym (append-nil bytes)) consumed, shuts_none c now a bytes (ap (λ (x : State). x.is_closed) same ∙ still), λ l here. lives_as d now (with_bytes l bytes) same (lives l here))

pub reads_lost : (a b : Option (List ℕ)) (c now : State) (p : Progress) (bytes : List ℕ) → length bytes ≤ PIECE → p ≡ Ended (Err Memory) → now.is_closed ≡ c.is_closed → ((l : Life) → Lives l c → Lives l now) → Consumes a b bytes → Reads a b c now p
reads_lost a b c now p bytes few is same still consumed = ([], bytes, few, (λ not. absurd (not is)), consumed, shuts_none c now a [] same, λ l here. comes_none now l (still l here))

-- the calls of a progress by which the store failed alike
abbrev pub calls_either : (t u : Option (List ReportedCall)) (was : Option (Result EndCause ServeFault)) (p q : Progress) (xs : List Exchange) → (p ≡ Ended (Err Store) → q ≡ Ended (Err Store)) → (q ≡ Ended (Err Store) → p ≡ Ended (Err Store)) → MakesCalls was p t u xs → MakesCalls was q t u xs
calls_either t u was p q xs to back calls = record { failed = calls.failed; told = calls.told; ends = λ some. to (calls.ends some); only = λ not is. calls.only not (back is) }

-- what an end that was told says of the progress that it is
pub ended_to : (p q : Progress) (end : Result EndCause ServeFault) → p ≡ Ended end → (end ≡ Err Store → q ≡ Ended (Err Store)) → p ≡ Ended (Err Store) → q ≡ Ended (Err Store)
ended_to p q end is store failed = store (ended_same end (Err Store) (sym is ∙ failed))

pub ended_back : (p q : Progress) (end : Result EndCause ServeFault) → p ≡ Ended end → (q ≡ Ended (Err Store) → end ≡ Err Store) → q ≡ Ended (Err Store) → p ≡ Ended (Err Store)
ended_back p q end is other failed = is ∙ ap Ended (other failed)

-- a write that took none
pub wrote_none : {E : Type 0} (a b : Option (List ℕ)) (r : Result ℕ E) (bytes : List ℕ) → r ≡ Ok 0 → WriteAppends a b r bytes → Appends a b []
wrote_none {E = E} a b r bytes is h = let P : Result ℕ E → Type 0 = λ q. WriteAppends a b q bytes in subst P is h

-- a read that gave none
pub gave_none : {E : Type 0} (a b : Option (List ℕ)) (r : Result ℕ E) (bytes : List ℕ) → r ≡ Ok 0 → ReadConsumes a b r bytes → Consumes a b []
gave_none {E = E} a b r bytes is h = let P : Result ℕ E → Type 0 = λ q. ReadConsumes a b q bytes in (subst P is h).0

-- none but the last, which is known then
pub gave_end : {E : Type 0} (a b : Option (List ℕ)) (r : Result ℕ E) (bytes : List ℕ) → r ≡ Ok 0 → 0 < length bytes → ReadConsumes a b r bytes → IsKnownAs a []
gave_end {E = E} a b r bytes is some h =
    let P : Result ℕ E → Type 0 = λ q. ReadConsumes a b q bytes in
    let (consumed, end) = subst P is h in
    known_end a b consumed (end refl some)

-- ---- replies that are offered

no_replies : (c : State) (wire : Wire) → c.replies ≡ [] → AreOffered c wire
no_replies c wire none = λ some. absurd (some none)

pub offers_none : (c : State) (wire : Wire) → c.replies ≡ [] → Offers c wire wire
offers_none c wire none = record {
  now = c;
  end = refl;
  closed = refl;
  written = [];
  remaining = refl;
  sent = Appends-nil wire.contents;
  lives = takes_none c;
  offered = no_replies c wire none;
}

-- the peer took some
pub offers_some : (c d : State) (old new : Wire) (bytes : List ℕ) (count : ℕ) → bytes ≡ c.replies → d.end ≡ c.end → d.is_closed ≡ c.is_closed → d.replies ≡ drop count c.replies → new.remaining ≡ old.remaining → Appends old.contents new.contents (take count bytes)
    → IsKnownAs new.left (drop count bytes) → ((l : Life) → Lives l c → Lives (with_taken l (take count c.replies)) d) → Offers c old new
offers_some c d old new bytes count is end closed rest remaining sent left lives =
    let P : List ℕ → Type 0 = λ q. Appends old.contents new.contents (take count q) in
    let Q : List ℕ → Type 0 = λ q. IsKnownAs new.left q in
    record {
      now = d;
      end = end;
      closed = closed;
      written = take count c.replies;
      remaining = remaining;
      sent = subst P is sent;
      lives = lives;
      offered = λ _. subst Q (ap (λ (q : List ℕ). drop count q) is ∙ sym rest) left;
    }

-- or none
pub offers_all : (c : State) (old new : Wire) (bytes : List ℕ) → bytes ≡ c.replies → new.remaining ≡ old.remaining → Keeps old.contents new.contents → IsKnownAs new.left bytes → Offers c old new
offers_all c old new bytes is remaining kept left =
    let Q : List ℕ → Type 0 = λ q. IsKnownAs new.left q in
    record {
      now = c;
      end = refl;
      closed = refl;
      written = [];
      remaining = remaining;
      sent = appends_kept old.contents new.contents kept;
      lives = takes_none c;
      offered = λ _. subst Q is left;
    }

taken_both : (l : Life) (r : List ℕ) (xs : List Exchange) (rest w v : List ℕ) → with_taken (lived l r xs rest w) v ≡ lived l r xs rest (w ++ v)
taken_both l r xs rest w v = λ i. named l (l.bytes ++ r) (l.exchanges ++ xs) rest (append_assoc l.taken w v i)

-- a turn, and then its replies are offered
pub turned_out : (b : Book) (history : List Entry) (t u : Option (List ReportedCall)) (p : Progress) (old mid new : Wire) (c d : State) → Turns b history t u p old mid c d → (o : Offers d mid new) → Turns b history t u p old new c o.now
turned_out b history t u p old mid new c d turn o =
    let P : Option (List ℕ) → Type 0 = λ w. Consumes old.remaining w (turn.read ++ turn.lost) in
    record {
      exchanges = turn.exchanges;
      answered = turn.answered;
      calls = turn.calls;
      read = turn.read;
      lost = turn.lost;
      few = turn.few;
      whole = turn.whole;
      written = turn.written ++ o.written;
      consumed = subst P (sym o.remaining) turn.consumed;
      sent = Appends-trans old.contents mid.contents new.contents _ _ turn.sent o.sent;
      closed = λ is. turn.closed (sym o.closed ∙ is);
      lives = λ l here.
          let (rest, then, stands) = turn.lives l here in
          let Q : Life → Type 0 = λ x. Lives x o.now in
          (rest, subst Q (taken_both l turn.read turn.exchanges rest turn.written o.written) (o.lives (lived l turn.read turn.exchanges rest turn.written) then), stands);
    }
