-- However a stream is cut into pieces, its frames are the same.
use Rattle.std.proofs.Common.{◌≡◌, ℕ, ◌+◌, ◌*◌, ◌/◌, ◌%◌, ◌<◌, ◌≤◌, true, false, List, [], ◌∷◌, ◌++◌, length, take, drop, refl, sym, ap, subst, ◌∙◌, append_assoc, append-nil, arith, inl, inr}
use Rattle.std.specs.Prelude.{Some, None, Ok, ◌⊎◌, nat_lt, ◌==◌}
use Rattle.std.specs.List.{All, flat_map}
use Rattle.std.proofs.lemmas.Bool.{cases_lt, ltb-true, le-ltb, lt-ltb}
use Rattle.std.proofs.lemmas.Bool.Decides.{nat_tests, Decides-eqb}
use Rattle.std.proofs.lemmas.List.{take_at, drop_at, take-append-le, drop-append-le, take-append-drop, length-append, length-take, length-drop, drop-drop, get_or_past}
use Rattle.std.proofs.lemmas.List.Elements.{All-nil, All-cons, All-head, All-tail}
use Rattle.mq_lemmas.proofs.Booleans.{either}
use Rattle.mq_request.specs.Range.{IsWithin}
use Rattle.mq_frame.specs.Spelling.{in_2_bytes, frame}
use Rattle.mq_frame.specs.Feed.{Front, Nothing, Cut, EmptyHead, LongHead, Whole, front, front_behind, next_answer, left_by_next, BeginsWith, HasNoFrame, Frames, Move, Fed, Gave, Moves, fed, given}
use Rattle.mq_frame.proofs.FieldLaws.{IsBytes, IsBytes-drop}

pub whole_is : (a b c d : List ℕ) → Whole a b ≡ Whole c d → (a ≡ c) × (b ≡ d)
whole_is a b c d e = (cc, cc)

-- ---- a head and what follows it

-- a head that says n stands before a whole body
record IsWhole (limit n : ℕ) (bytes body after : List ℕ) : Type 0 where
  size : IsWithin 1 limit n
  there : n ≤ length bytes
  body_is : take n bytes ≡ body
  after_is : drop n bytes ≡ after

whole_from : (limit n : ℕ) (bytes body after : List ℕ) → front_behind limit n bytes ≡ Whole body after → IsWhole limit n bytes body after
whole_from limit n bytes body after e =
    elim (either (n == 0)) [
      | inl t ↦ (let h : EmptyHead ≡ Whole body after = rw t at e in absurd cc)
      | inr f ↦ elim (either (nat_lt limit n)) [
        | inl t ↦ (let h : LongHead ≡ Whole body after = rw (f, t) at e in absurd cc)
        | inr g ↦ elim (either (nat_lt (length bytes) n)) [
          | inl t ↦ (let h : Cut ≡ Whole body after = rw (f, g, t) at e in absurd cc)
          | inr h ↦ (let p = whole_is (take n bytes) (drop n bytes) body after (rw (f, g, h) at e) in record {
            size = record { from = grind (arith, nat_tests); to = grind (arith, nat_tests) };
            there = grind (arith, nat_tests);
            body_is = p.0;
            after_is = p.1;
          })
        ]
      ]
    ]

whole_to : (limit n : ℕ) (bytes body after : List ℕ) → IsWhole limit n bytes body after → front_behind limit n bytes ≡ Whole body after
whole_to limit n bytes body after w =
    let from = w.size.from in
    let to = w.size.to in
    let there = w.there in
    let f : (n == 0) ≡ false = grind (arith, nat_tests) in
    let g : nat_lt limit n ≡ false = le-ltb limit n to in
    let h : nat_lt (length bytes) n ≡ false = le-ltb (length bytes) n there in
    rw (f, g, h, w.body_is, w.after_is) refl

empty_from : (limit n : ℕ) (bytes : List ℕ) → front_behind limit n bytes ≡ EmptyHead → n ≡ 0
empty_from limit n bytes e =
    elim (either (n == 0)) [
      | inl t ↦ (Decides-eqb n 0).0 t
      | inr f ↦ elim (either (nat_lt limit n)) [
        | inl t ↦ (let h : LongHead ≡ EmptyHead = rw (f, t) at e in absurd cc)
        | inr g ↦ elim (either (nat_lt (length bytes) n)) [
          | inl t ↦ (let h : Cut ≡ EmptyHead = rw (f, g, t) at e in absurd cc)
          | inr t ↦ (let h : Whole (take n bytes) (drop n bytes) ≡ EmptyHead = rw (f, g, t) at e in absurd cc)
        ]
      ]
    ]

long_from : (limit n : ℕ) (bytes : List ℕ) → front_behind limit n bytes ≡ LongHead → limit < n
long_from limit n bytes e =
    elim (either (n == 0)) [
      | inl t ↦ (let h : EmptyHead ≡ LongHead = rw t at e in absurd cc)
      | inr f ↦ elim (either (nat_lt limit n)) [
        | inl t ↦ ltb-true limit n t
        | inr g ↦ elim (either (nat_lt (length bytes) n)) [
          | inl t ↦ (let h : Cut ≡ LongHead = rw (f, g, t) at e in absurd cc)
          | inr t ↦ (let h : Whole (take n bytes) (drop n bytes) ≡ LongHead = rw (f, g, t) at e in absurd cc)
        ]
      ]
    ]

long_to : (limit n : ℕ) (bytes : List ℕ) → limit < n → front_behind limit n bytes ≡ LongHead
long_to limit n bytes lt =
    let f : (n == 0) ≡ false = grind (arith, nat_tests) in
    let g : nat_lt limit n ≡ true = lt-ltb limit n lt in
    rw (f, g) refl

empty_to : (limit n : ℕ) (bytes : List ℕ) → n ≡ 0 → front_behind limit n bytes ≡ EmptyHead
empty_to limit n bytes z = rw z refl

-- ---- what comes later

pub whole_stays : (limit : ℕ) (bytes more body after : List ℕ) → front limit bytes ≡ Whole body after → front limit (bytes ++ more) ≡ Whole body (after ++ more)
whole_stays limit [] more body after e = absurd cc
whole_stays limit (a ∷ []) more body after e = absurd cc
whole_stays limit (a ∷ b ∷ bytes) more body after e =
    let n = 256 * a + b in
    let w = whole_from limit n bytes body after e in
    let there = w.there in
    whole_to limit n (bytes ++ more) body (after ++ more) (record {
      size = w.size;
      there = omega (arith, there, length-append bytes more);
      body_is = take-append-le n bytes more there ∙ w.body_is;
      after_is = drop-append-le n bytes more there ∙ ap (λ (l : List ℕ). l ++ more) w.after_is;
    })

pub empty_stays : (limit : ℕ) (bytes more : List ℕ) → front limit bytes ≡ EmptyHead → front limit (bytes ++ more) ≡ EmptyHead
empty_stays limit [] more e = absurd cc
empty_stays limit (a ∷ []) more e = absurd cc
empty_stays limit (a ∷ b ∷ bytes) more e = empty_to limit (256 * a + b) (bytes ++ more) (empty_from limit (256 * a + b) bytes e)

pub long_stays : (limit : ℕ) (bytes more : List ℕ) → front limit bytes ≡ LongHead → front limit (bytes ++ more) ≡ LongHead
long_stays limit [] more e = absurd cc
long_stays limit (a ∷ []) more e = absurd cc
long_stays limit (a ∷ b ∷ bytes) more e = long_to limit (256 * a + b) (bytes ++ more) (long_from limit (256 * a + b) bytes e)

-- a frame is two bytes and its body, which is as long as the limit allows
pub whole_size : (limit : ℕ) (bytes body after : List ℕ) → front limit bytes ≡ Whole body after → IsWithin 1 limit (length body) × (length bytes ≡ 2 + length body + length after)
whole_size limit [] body after e = absurd cc
whole_size limit (a ∷ []) body after e = absurd cc
whole_size limit (a ∷ b ∷ bytes) body after e =
    let n = 256 * a + b in
    let w = whole_from limit n bytes body after e in
    let there = w.there in
    let size : length body ≡ n = ap length (sym w.body_is) ∙ omega (arith, there, length-take n bytes) in
    let all : length bytes ≡ length body + length after = ap length (sym (take-append-drop n bytes)) ∙ length-append (take n bytes) (drop n bytes) ∙ rw (w.body_is, w.after_is) refl in
    (rw size w.size, omega (arith, all))

-- ---- the frames that bytes begin with

pub more_begins : (limit : ℕ) (bytes more : List ℕ) (bodies : List (List ℕ)) (rest : List ℕ) → BeginsWith limit bytes bodies rest → BeginsWith limit (bytes ++ more) bodies (rest ++ more)
more_begins limit bytes more [] rest e = ap (λ (l : List ℕ). l ++ more) e
more_begins limit bytes more (body ∷ bodies) rest h = (h.0 ++ more, whole_stays limit bytes more body h.0 h.1, more_begins limit h.0 more bodies rest h.2)

pub begins_then : (limit : ℕ) (bytes : List ℕ) (xs ys : List (List ℕ)) (mid rest : List ℕ) → BeginsWith limit bytes xs mid → BeginsWith limit mid ys rest → BeginsWith limit bytes (xs ++ ys) rest
begins_then limit bytes [] ys mid rest h g = let P : List ℕ → Type 0 = λ l. BeginsWith limit l ys rest in subst P (sym h) g
begins_then limit bytes (x ∷ xs) ys mid rest h g = (h.0, h.1, begins_then limit h.0 xs ys mid rest h.2 g)

pub one_more : (limit : ℕ) (bytes : List ℕ) (bodies : List (List ℕ)) (rest body after : List ℕ) → BeginsWith limit bytes bodies rest → front limit rest ≡ Whole body after → BeginsWith limit bytes (bodies ++ body ∷ []) after
one_more limit bytes bodies rest body after h e = begins_then limit bytes bodies (body ∷ []) rest after h (after, e, refl)

pub same_frames : (limit : ℕ) (bytes : List ℕ) (xs ys : List (List ℕ)) (rest rest' : List ℕ) → Frames limit bytes xs rest → Frames limit bytes ys rest' → (xs ≡ ys) × (rest ≡ rest')
same_frames limit bytes [] [] rest rest' f g = (refl, sym f.these ∙ g.these)
same_frames limit bytes [] (y ∷ ys) rest rest' f g = absurd (f.longest y g.these.0 (ap (front limit) (sym f.these) ∙ g.these.1))
same_frames limit bytes (x ∷ xs) [] rest rest' f g = absurd (g.longest x f.these.0 (ap (front limit) (sym g.these) ∙ f.these.1))
same_frames limit bytes (x ∷ xs) (y ∷ ys) rest rest' f g =
    let p = whole_is x f.these.0 y g.these.0 (sym f.these.1 ∙ g.these.1) in
    let P : List ℕ → Type 0 = λ l. BeginsWith limit l xs rest in
    let q = same_frames limit g.these.0 xs ys rest rest' (record { these = subst P p.1 f.these.2; longest = f.longest }) (record { these = g.these.2; longest = g.longest }) in
    (cc, q.1)

-- ---- the moves of a feed

moves_begin : (limit : ℕ) (rest : List ℕ) (moves : List Move) (end : List ℕ) → Moves limit rest moves end → BeginsWith limit (rest ++ fed moves) (given moves) end
moves_begin limit rest [] end h = append-nil rest ∙ h
moves_begin limit rest (Fed piece ∷ moves) end h =
    let P : List ℕ → Type 0 = λ l. BeginsWith limit l (given moves) end in
    subst P (append_assoc rest piece (fed moves)) (moves_begin limit (rest ++ piece) moves end h)
moves_begin limit rest (Gave body ∷ moves) end h = (h.0 ++ fed moves, whole_stays limit rest (fed moves) body h.0 h.1, moves_begin limit h.0 moves end h.2)

pub gives_frames : (limit : ℕ) (moves : List Move) (end : List ℕ) → Moves limit [] moves end → BeginsWith limit (fed moves) (given moves) end
gives_frames limit moves end h = moves_begin limit [] moves end h

pub any_pieces : (limit : ℕ) (xs ys : List Move) (end stop : List ℕ) → Moves limit [] xs end → Moves limit [] ys stop → fed xs ≡ fed ys → HasNoFrame limit end → HasNoFrame limit stop → (given xs ≡ given ys) × (end ≡ stop)
any_pieces limit xs ys end stop f g e none last =
    let P : List ℕ → Type 0 = λ l. BeginsWith limit l (given ys) stop in
    same_frames limit (fed xs) (given xs) (given ys) end stop (record { these = gives_frames limit xs end f; longest = none }) (record { these = subst P (sym e) (gives_frames limit ys stop g); longest = last })

-- ---- the spelling of frames

pub head_value : (n : ℕ) → n < 65536 → 256 * (n / 256 % 256) + n % 256 ≡ n
head_value n lt = omega arith

pub frame_front : (limit : ℕ) (body after : List ℕ) → limit ≤ 65535 → IsWithin 1 limit (length body) → front limit (frame body ++ after) ≡ Whole body after
frame_front limit body after small size =
    let n = length body in
    let value : 256 * (n / 256 % 256) + n % 256 ≡ n = head_value n (omega (arith, size.to)) in
    rw value (whole_to limit n (body ++ after) body after (record {
      size = size;
      there = omega (arith, length-append body after);
      body_is = take_at body after n refl;
      after_is = drop_at body after n refl;
    }))

pub front_frame : (limit : ℕ) (bytes body after : List ℕ) → IsBytes bytes → front limit bytes ≡ Whole body after → bytes ≡ frame body ++ after
front_frame limit [] body after fits e = absurd cc
front_frame limit (a ∷ []) body after fits e = absurd cc
front_frame limit (a ∷ b ∷ bytes) body after fits e =
    let n = 256 * a + b in
    let w = whole_from limit n bytes body after e in
    let there = w.there in
    let size : length body ≡ n = ap length (sym w.body_is) ∙ omega (arith, there, length-take n bytes) in
    let high : a < 256 = fits 0 in
    let low : b < 256 = fits 1 in
    let first : n / 256 % 256 ≡ a = omega arith in
    let second : n % 256 ≡ b = omega arith in
    let parts : bytes ≡ body ++ after = sym (take-append-drop n bytes) ∙ rw (w.body_is, w.after_is) refl in
    rw (size, first, second, parts) refl

IsBytes-behind : (a b : List ℕ) → IsBytes (a ++ b) → IsBytes b
IsBytes-behind a b fits = let P : List ℕ → Type 0 = IsBytes in subst P (drop_at a b (length a) refl) (IsBytes-drop (length a) (a ++ b) fits)

pub bytes_from_all : (bytes : List ℕ) → All (λ b. b < 256) bytes → IsBytes bytes
bytes_from_all bytes h i =
    elim (cases_lt i (length bytes)) [
      | inl lt ↦ h i 0 lt
      | inr le ↦ rw (get_or_past bytes i 0 le) (omega arith)
    ]

abbrev pub AreWithin : ℕ → List (List ℕ) → Type 0
AreWithin limit bodies = All (λ body. IsWithin 1 limit (length body)) bodies

-- the frames that bytes begin with are the front of the bytes
pub begins_spelled : (limit : ℕ) (bytes : List ℕ) (bodies : List (List ℕ)) (rest : List ℕ) → IsBytes bytes → BeginsWith limit bytes bodies rest → (bytes ≡ flat_map frame bodies ++ rest) × AreWithin limit bodies
begins_spelled limit bytes [] rest fits e = (e, All-nil (λ (body : List ℕ). IsWithin 1 limit (length body)))
begins_spelled limit bytes (body ∷ bodies) rest fits h =
    let parts = front_frame limit bytes body h.0 fits h.1 in
    let size = (whole_size limit bytes body h.0 h.1).0 in
    let P : List ℕ → Type 0 = IsBytes in
    let later = begins_spelled limit h.0 bodies rest (IsBytes-behind (frame body) h.0 (subst P parts fits)) h.2 in
    (parts ∙ ap (λ (l : List ℕ). frame body ++ l) later.0 ∙ sym (append_assoc (frame body) (flat_map frame bodies) rest), All-cons (λ (b : List ℕ). IsWithin 1 limit (length b)) body bodies size later.1)

pub begins_from : (limit : ℕ) (bodies : List (List ℕ)) (rest : List ℕ) → limit ≤ 65535 → AreWithin limit bodies → BeginsWith limit (flat_map frame bodies ++ rest) bodies rest
begins_from limit [] rest small h = refl
begins_from limit (body ∷ bodies) rest small h =
    let P : List ℕ → Type 0 = λ l. front limit l ≡ Whole body (flat_map frame bodies ++ rest) in (
      flat_map frame bodies ++ rest,
      subst P (sym (append_assoc (frame body) (flat_map frame bodies) rest)) (frame_front limit body (flat_map frame bodies ++ rest) small (All-head (λ (b : List ℕ). IsWithin 1 limit (length b)) body bodies h)),
      begins_from limit bodies rest small (All-tail (λ (b : List ℕ). IsWithin 1 limit (length b)) body bodies h),
    )

-- ---- no whole frame stands there

pub has_none : (limit : ℕ) (bytes : List ℕ) → (front limit bytes ≡ Nothing) ⊎ ((front limit bytes ≡ Cut) ⊎ ((front limit bytes ≡ EmptyHead) ⊎ (front limit bytes ≡ LongHead))) → HasNoFrame limit bytes
has_none limit bytes (inl h) body after e = let g : Nothing ≡ Whole body after = sym h ∙ e in absurd cc
has_none limit bytes (inr (inl h)) body after e = let g : Cut ≡ Whole body after = sym h ∙ e in absurd cc
has_none limit bytes (inr (inr (inl h))) body after e = let g : EmptyHead ≡ Whole body after = sym h ∙ e in absurd cc
has_none limit bytes (inr (inr (inr h))) body after e = let g : LongHead ≡ Whole body after = sym h ∙ e in absurd cc

pub long_head : (limit size : ℕ) (after : List ℕ) → limit < size → size ≤ 65535 → front limit (in_2_bytes size ++ after) ≡ LongHead
long_head limit size after lt small =
    let value : 256 * (size / 256 % 256) + size % 256 ≡ size = head_value size (omega (arith, small)) in
    rw value (long_to limit size after lt)

pub gives_whole : (bytes body : List ℕ) (at : Front) → next_answer at ≡ Ok (Some body) → at ≡ Whole body (left_by_next at bytes)
gives_whole bytes body Nothing e = absurd cc
gives_whole bytes body Cut e = absurd cc
gives_whole bytes body EmptyHead e = absurd cc
gives_whole bytes body LongHead e = absurd cc
gives_whole bytes body (Whole a b) e = let p : a ≡ body = cc in ap (λ (l : List ℕ). Whole l b) p

-- ---- what waits for the rest of its frame

abbrev GivesNone : Front → Type 0
GivesNone at = next_answer at ≡ Ok None

part_behind : (limit n : ℕ) (bytes : List ℕ) → GivesNone (front_behind limit n bytes) → length bytes < limit
part_behind limit n bytes e =
    elim (either (n == 0)) [
      | inl t ↦ (let h : GivesNone EmptyHead = rw t at e in absurd cc)
      | inr f ↦ elim (either (nat_lt limit n)) [
        | inl t ↦ (let h : GivesNone LongHead = rw (f, t) at e in absurd cc)
        | inr g ↦ elim (either (nat_lt (length bytes) n)) [
          | inl t ↦ grind (arith, nat_tests)
          | inr t ↦ (let h : GivesNone (Whole (take n bytes) (drop n bytes)) = rw (f, g, t) at e in absurd cc)
        ]
      ]
    ]

pub part_short : (limit : ℕ) (bytes : List ℕ) → GivesNone (front limit bytes) → length bytes ≤ limit + 1
part_short limit [] e = omega arith
part_short limit (a ∷ []) e = omega arith
part_short limit (a ∷ b ∷ bytes) e = let h = part_behind limit (256 * a + b) bytes e in omega (arith, h)

-- ---- what a look at the front shows

-- a whole frame stands at the front of these bytes: two bytes, this body, and what is left
pub record Shown (bytes body left : List ℕ) : Type 0 where
  pub there : 2 + length body ≤ length bytes
  pub body_is : take (length body) (drop 2 bytes) ≡ body
  pub left_is : drop (2 + length body) bytes ≡ left

shown_behind : (limit n a b : ℕ) (bytes body : List ℕ) → next_answer (front_behind limit n bytes) ≡ Ok (Some body) → Shown (a ∷ b ∷ bytes) body (left_by_next (front_behind limit n bytes) (a ∷ b ∷ bytes))
shown_behind limit n a b bytes body e =
    let left = left_by_next (front_behind limit n bytes) (a ∷ b ∷ bytes) in
    let w = whole_from limit n bytes body left (gives_whole (a ∷ b ∷ bytes) body (front_behind limit n bytes) e) in
    let there = w.there in
    let size : n ≡ length body = sym (ap length (sym w.body_is) ∙ omega (arith, there, length-take n bytes)) in
    record {
      there = omega (arith, there, size);
      body_is = rw (← size) w.body_is;
      left_is = rw (← size) (sym (drop-drop n 2 (a ∷ b ∷ bytes)) ∙ w.after_is);
    }

pub shown : (limit : ℕ) (bytes body : List ℕ) → next_answer (front limit bytes) ≡ Ok (Some body) → Shown bytes body (left_by_next (front limit bytes) bytes)
shown limit [] body e = absurd cc
shown limit (a ∷ []) body e = absurd cc
shown limit (a ∷ b ∷ bytes) body e = shown_behind limit (256 * a + b) a b bytes body e

-- and so in a buffer whose first bytes were taken already
pub shown_past : (limit taken : ℕ) (bytes body : List ℕ) → taken ≤ length bytes → Ok (Some body) ≡ next_answer (front limit (drop taken bytes))
    → (taken + 2 + length body ≤ length bytes)
    × (take (length body) (drop (taken + 2) bytes) ≡ body)
    × (drop (taken + 2 + length body) bytes ≡ left_by_next (front limit (drop taken bytes)) (drop taken bytes))
shown_past limit taken bytes body low e =
    let s = shown limit (drop taken bytes) body (sym e) in
    let there = s.there in
    let next : drop 2 (drop taken bytes) ≡ drop (taken + 2) bytes = drop-drop 2 taken bytes in
    let past : drop (2 + length body) (drop taken bytes) ≡ drop (taken + 2 + length body) bytes = drop-drop (2 + length body) taken bytes ∙ ap (λ n. drop n bytes) (omega arith) in (
      omega (arith, there, length-drop taken bytes, low),
      ap (take (length body)) (sym next) ∙ s.body_is,
      sym past ∙ s.left_is,
    )
