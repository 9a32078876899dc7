-- One connection more is served.
use Rattle.std.proofs.Common.{Bool, Err, List, Ok, Option, Result, [], ap, append-nil, arith, drop, false, get_or, length, length-append, length-drop, map, refl, set, subst, suc, sym, take, true, zero, ℕ, ◌++◌, ◌+◌, ◌<◌, ◌∙◌, ◌∷◌, ◌≡◌, ◌≢◌, ◌≤◌}
use lib.Seq.{split_at}
use Rattle.mq_server.proofs.Words.{All, All-get_or, AllZip, AreServed, AreStopped, Book, ConnectionEnd, Delivery, DevicesAgree, EndCause, IsFlushed, Read, Reply, ReportedCall, ServeFault, Serves, Store, Tells, Tells-trans, Wire, Write, all_zipped_more, answer_to, calls, calls_of, calls_until, drop-drop, drop-set-lt, get_or-drop, length-take-le, result_of, served, set_split, take_more_set, wires}
use Rattle.mq_server.specs.declared.connections.ConnectionEnd.TheVariants as ends
use Rattle.mq_server.proofs.Deliveries.{Follows, behind, same_answers}
use Rattle.mq_server.proofs.Telling.{calls_more}

-- ---- the wires of sources and sinks

module _ {S W : Type 0} (left : S → Option (List ℕ)) (held : W → Option (List ℕ)) where
  abbrev wire : S → W → Wire
  wire input output = record { remaining = left input; contents = held output }

  abbrev all_wires : List S → List W → List Wire
  all_wires inputs outputs = wires (map left inputs) (map held outputs)

  length_wires : (inputs : List S) (outputs : List W) → length inputs ≡ length outputs → length (all_wires inputs outputs) ≡ length inputs
  length_wires [] outputs e = refl
  length_wires (x ∷ inputs) [] e = absurd (omega arith)
  length_wires (x ∷ inputs) (y ∷ outputs) e = ap suc (length_wires inputs outputs (omega arith))

  set_wires : (inputs : List S) (outputs : List W) (i : ℕ) (input : S) (output : W) → length inputs ≡ length outputs → set (all_wires inputs outputs) i (wire input output) ≡ all_wires (set inputs i input) (set outputs i output)
  set_wires [] outputs i input output e = refl
  set_wires (x ∷ inputs) [] i input output e = absurd (omega arith)
  set_wires (x ∷ inputs) (y ∷ outputs) zero input output e = refl
  set_wires (x ∷ inputs) (y ∷ outputs) (suc i) input output e = ap (λ (q : List Wire). wire x y ∷ q) (set_wires inputs outputs i input output (omega arith))

  wire_at : (inputs : List S) (outputs : List W) (i : ℕ) (input : S) (output : W) → length inputs ≡ length outputs → i < length inputs → input ≡ get_or inputs i input → output ≡ get_or outputs i output
      → wire input output ≡ get_or (all_wires inputs outputs) i (wire input output)
  wire_at (x ∷ inputs) (y ∷ outputs) zero input output e h p q = λ j. wire (p j) (q j)
  wire_at (x ∷ inputs) (y ∷ outputs) (suc i) input output e h p q = wire_at inputs outputs i input output (omega arith) (omega arith) p q
  wire_at inputs outputs i input output e h p q = absurd (omega (arith, e, h))

-- ---- the relation

served_here : (b : Book) (earlier seen came : List Delivery) (new x w : Wire) (result : Result EndCause ServeFault) → seen ≡ earlier → w ≡ x → Serves (behind (answer_to b) seen) came w new result → Serves (behind (answer_to b) earlier) came x new result
served_here b earlier seen came new x w result e f s = subst (λ (v : Wire). Serves (behind (answer_to b) earlier) came v new result) f (subst (λ (q : List Delivery). Serves (behind (answer_to b) q) came w new result) e s)

served_push : (b : Book) (earlier seen came : List Delivery) (olds news : List Wire) (results : List (Result EndCause ServeFault)) (w new : Wire) (result : Result EndCause ServeFault)
    → AreServed b earlier olds news results seen → length results < length news → w ≡ get_or news (length results) w → Serves (behind (answer_to b) seen) came w new result
    → AreServed b earlier olds (set news (length results) new) (results ++ result ∷ []) (seen ++ came)
served_push b earlier seen came olds [] [] w new result (all, same) h at s = absurd (omega (arith, h))
served_push b earlier seen came olds (x ∷ news) [] w new result (all, same) h at s =
    subst (λ (q : List Wire). AreServed b earlier q (new ∷ news) (result ∷ []) (seen ++ came)) same (came, served_here b earlier seen came new x w result all at s, (ap (λ (q : List Delivery). q ++ came) all, refl))
served_push b earlier seen came (o ∷ olds) (x ∷ news) (q ∷ results) w new result (first, served, told) h at s =
    (first, served, served_push b (earlier ++ first) seen came olds news results w new result told (omega arith) at s)
served_push b earlier seen came olds news (q ∷ results) w new result told h at s = absurd told

module _ {S W : Type 0} (left : S → Option (List ℕ)) (held : W → Option (List ℕ)) (b k : Book) (olds : List Wire) (inputs : List S) (outputs : List W) (i : ℕ) (input input' : S) (output output' : W) (seen : List Delivery)
    (pairs : length inputs ≡ length outputs) (here : i < length inputs) (from_input : input ≡ get_or inputs i input) (from_output : output ≡ get_or outputs i output) (f : Follows b k seen) where
  abbrev news : List Wire
  news = all_wires left held inputs outputs

  abbrev old : Wire
  old = wire left held input output

  abbrev new : Wire
  new = wire left held input' output'

  at : old ≡ get_or news i old
  at = wire_at left held inputs outputs i input output pairs here from_input from_output

  within : i < length news
  within = omega (arith, length_wires left held inputs outputs pairs, here)

  after : set news i new ≡ all_wires left held (set inputs i input') (set outputs i output')
  after = set_wires left held inputs outputs i input' output' pairs

  -- what the connection did is the same, said of the ledger that the first one found
  pub turn : (results all : List (Result EndCause ServeFault)) (result : Result EndCause ServeFault) (came : List Delivery) → length results ≡ i → AreServed b [] olds news results seen → Serves (answer_to k) came old new result
      → results ++ result ∷ [] ≡ all → AreServed b [] olds (all_wires left held (set inputs i input') (set outputs i output')) all (seen ++ came)
  turn results all result came counted told served named =
      let one = served_push b [] seen came olds news results old new result told (omega (arith, within, counted)) (at ∙ ap (λ (n : ℕ). get_or news n old) (sym counted))
      (subst (λ (a : List Delivery → Delivery → Reply). Serves a came old new result) (same_answers b k seen f) served) in
      let path : set news (length results) new ≡ all_wires left held (set inputs i input') (set outputs i output') = ap (λ (n : ℕ). set news n new) counted ∙ after in
      subst (λ (rs : List (Result EndCause ServeFault)). AreServed b [] olds (all_wires left held (set inputs i input') (set outputs i output')) rs (seen ++ came)) named
      (subst (λ (ws : List Wire). AreServed b [] olds ws (results ++ result ∷ []) (seen ++ came)) path one)

  -- the store failed at it
  pub stopped : (ends : List ConnectionEnd) (came : List Delivery) (result : Result EndCause ServeFault) → length ends ≡ i → AreServed b [] olds news (map result_of ends) seen → result ≡ Err Store → (served : Serves (answer_to k) came old new result)
      → (s : AreStopped b olds (all_wires left held (set inputs i input') (set outputs i output')) ends (seen ++ came)) × (calls_until s ≡ calls (answer_to b) seen ++ calls_of served)
  stopped ends came result counted others failed served = (
    record {
      before = seen;
      came = came;
      all = refl;
      theirs = take i news;
      behind = drop (suc i) news;
      old = old;
      new = new;
      stands = length-take-le i news (omega (arith, within)) ∙ sym counted;
      others = subst (λ (ws : List Wire). AreServed b [] olds ws (map result_of ends) seen) (split_at news i old within ∙ ap (λ (w : Wire). take i news ++ w ∷ drop (suc i) news) (sym at)) others;
      left = sym after ∙ set_split news i new within;
      found = k;
      zone = f.zone;
      default = f.default;
      history = f.history;
      result = result;
      failed = failed;
      last = served;
    },
    refl,
  )

-- ---- what the ledger told

not_store : (end : ConnectionEnd) → result_of end ≡ Err Store → ⊥
not_store ends.Read is = cc
not_store end is = cc

-- the calls of a connection at which the store didn't fail are those of its deliveries
calls_unfailed : {answer : List Delivery → Delivery → Reply} {came : List Delivery} {old new : Wire} (end : ConnectionEnd) (result : Result EndCause ServeFault) (s : Serves answer came old new result) → result_of end ≡ result → calls_of s ≡ calls answer came
calls_unfailed end (Err Store) s is = absurd (not_store end is)
calls_unfailed {answer = answer} {came = came} end (Ok e) s is = append-nil (calls answer came)
calls_unfailed {answer = answer} {came = came} end (Err fault) s is = append-nil (calls answer came)

pub told_turn : (b k : Book) (t u v : Option (List ReportedCall)) (seen came : List Delivery) {old new : Wire} (end : ConnectionEnd) (result : Result EndCause ServeFault) (s : Serves (answer_to k) came old new result)
    → Follows b k seen → result_of end ≡ result → Tells t u (calls (answer_to b) seen) → Tells u v (calls_of s) → Tells t v (calls (answer_to b) (seen ++ came))
told_turn b k t u v seen came end result s f is before tells =
    let all : calls (answer_to b) seen ++ calls (answer_to k) came ≡ calls (answer_to b) (seen ++ came) =
    ap (λ (a : List Delivery → Delivery → Reply). calls (answer_to b) seen ++ calls a came) (same_answers b k seen f) ∙ sym (calls_more (answer_to b) seen came) in
    subst (Tells t v) all (Tells-trans t u v _ _ before (subst (Tells u v) (calls_unfailed end result s is) tells))

-- ---- what holds of each end and its source or sink

one_more : {X : Type 0} (P : Result EndCause ServeFault → X → Type 0) (results : List (Result EndCause ServeFault)) (xs : List X) (i : ℕ) (x : X) (r : Result EndCause ServeFault) → length results ≡ i → i < length xs → AllZip P results (take (length results) xs) → P r x
    → AllZip P (results ++ r ∷ []) (take (length (results ++ r ∷ [])) (set xs i x))
one_more P results xs i x r counted here all p =
    let path : take (length (results ++ r ∷ [])) (set xs i x) ≡ take (length results) xs ++ x ∷ [] =
    ap (λ n. take n (set xs i x)) (length-append results (r ∷ []) ∙ ap (λ n. n + 1) counted) ∙ take_more_set xs i x here ∙ ap (λ n. take n xs ++ x ∷ []) (sym counted) in
    subst (AllZip P (results ++ r ∷ [])) (sym path) (all_zipped_more P results (take (length results) xs) r x all p)

-- the same of how the connections ended
pub each_end : {A : Type 0} {P : ConnectionEnd → A → Type 0} (Q : Result EndCause ServeFault → A → Type 0) → ((e : ConnectionEnd) (a : A) → Q (result_of e) a → P e a)
    → (es : List ConnectionEnd) (xs : List A) → length xs ≤ length es → AllZip Q (map result_of es) (take (length (map result_of es)) xs) → AllZip P es xs
each_end Q f [] [] few all = tt
each_end Q f (e ∷ es) (a ∷ xs) few all = (f e a all.0, each_end Q f es xs (omega (arith, few)) all.1)
each_end Q f [] (a ∷ xs) few all = absurd (omega (arith, few))
each_end Q f (e ∷ es) [] few all = absurd all

-- one that wasn't served yet has what all had
still : {X : Type 0} (P : X → Type 0) (xs ys : List X) (i : ℕ) (d : X) → drop i xs ≡ drop i ys → i < length xs → All P ys → P (get_or xs i d)
still {X} P xs ys i d e here all =
    let there : i < length ys = omega (arith, here, ap length e, length-drop i xs, length-drop i ys) in
    let first : (l : List X) → get_or l i d ≡ get_or (drop i l) 0 d = λ l. ap (λ n. get_or l n d) (omega arith) ∙ sym (get_or-drop i l 0 d) in
    subst P (sym (first xs ∙ ap (λ l. get_or l 0 d) e ∙ sym (first ys))) (All-get_or P ys i d there all)

pub still_next : {X : Type 0} (xs ys : List X) (i : ℕ) (x : X) → drop i xs ≡ drop i ys → drop (i + 1) (set xs i x) ≡ drop (i + 1) ys
still_next xs ys i x e = drop-set-lt (i + 1) xs i x (omega arith) ∙ sym (drop-drop 1 i xs) ∙ ap (drop 1) e ∙ drop-drop 1 i ys

-- one more was served, and its devices are as its serving says
pub agree_more : {I O : Type 0} (source_failed : I → Bool) (sink_failed : O → Bool) (has_flushed : O → Option Bool) (inputs began : List I) (outputs started : List O) (i : ℕ) (input input' : I) (output output' : O) (results all : List (Result EndCause ServeFault)) (r : Result EndCause ServeFault)
    → length results ≡ i → i < length inputs → i < length outputs → drop i inputs ≡ drop i began → drop i outputs ≡ drop i started
    → (r ≡ Err Read → source_failed input' ≡ true) → (r ≡ Err Write → sink_failed output' ≡ true) → (source_failed (get_or inputs i input) ≡ false → r ≢ Err Read → source_failed input' ≡ false)
    → (sink_failed (get_or outputs i output) ≡ false → r ≢ Err Write → sink_failed output' ≡ false) → (IsFlushed (has_flushed (get_or outputs i output)) → r ≢ Err Write → IsFlushed (has_flushed output'))
    → results ++ r ∷ [] ≡ all → DevicesAgree source_failed sink_failed has_flushed began inputs started outputs results → DevicesAgree source_failed sink_failed has_flushed began (set inputs i input') started (set outputs i output') all
agree_more source_failed sink_failed has_flushed inputs began outputs started i input input' output output' results all r counted here there inputs_left outputs_left read write source_works sink_works flushed named d =
    subst (DevicesAgree source_failed sink_failed has_flushed began (set inputs i input') started (set outputs i output')) named (record {
      read = one_more _ results inputs i input' r counted here d.read read;
      write = one_more _ results outputs i output' r counted there d.write write;
      source_works = λ all. one_more _ results inputs i input' r counted here (d.source_works all) (source_works (still (λ x. source_failed x ≡ false) inputs began i input inputs_left here all));
      sink_works = λ all. one_more _ results outputs i output' r counted there (d.sink_works all) (sink_works (still (λ x. sink_failed x ≡ false) outputs started i output outputs_left there all));
      flushed = λ all. one_more _ results outputs i output' r counted there (d.flushed all) (flushed (still (λ x. IsFlushed (has_flushed x)) outputs started i output outputs_left there all));
    })

pub read_end : (end : ConnectionEnd) → result_of end ≡ Err Read → end ≡ ends.Read
read_end ends.Read is = refl
read_end end is = cc

pub write_end : (end : ConnectionEnd) → result_of end ≡ Err Write → end ≡ ends.Write
write_end ends.Write is = refl
write_end end is = cc
