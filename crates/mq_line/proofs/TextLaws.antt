-- The lines of a text, and what a feed of it holds.
use Rattle.std.proofs.Common.{◌≡◌, ℕ, ◌<◌, Bool, true, false, cond, eqb, ltb, List, [], ◌∷◌, ◌++◌, length, refl, sym, ap, ◌∙◌, subst, arith, inl, inr, append_assoc, append-nil}
use Rattle.std.specs.Prelude.{◌⊎◌, slice_get}
use Rattle.std.specs.List.{AllByRecursion, concat, join_with_byte}
use Rattle.std.proofs.lemmas.Bool.{cases_lt, lt-ltb, le-ltb}
use Rattle.std.proofs.lemmas.List.{length-append}
use Rattle.std.proofs.ByRecursion.{All-push}
use Rattle.std.proofs.lemmas.List.Splits.{slice_split_at, slice_split_none, join_with_byte-slice_split}
use Rattle.mq_line.specs.Pieces.{pieces, Lacks}
use Rattle.mq_line.specs.Text.{IsLine, IsTooLong, text_of, lines_among, left_among, lines, left, Holds, lines_by_piece, left_by_piece}
use Rattle.mq_line.proofs.PieceLaws.{some_piece, pieces-front, pieces-lack, lacks-tests}

-- the first line of a text
line_ends : (line rest : List ℕ) → IsLine line → pieces 10 (line ++ 10 ∷ rest) ≡ line ∷ pieces 10 rest
line_ends line rest is = slice_split_at (λ b. eqb b 10) line 10 rest (lacks-tests 10 line is.one) refl

pub lines-line : (line rest : List ℕ) → IsLine line → (lines (line ++ 10 ∷ rest) ≡ line ∷ lines rest) × (left (line ++ 10 ∷ rest) ≡ left rest)
lines-line line rest is =
    let p = some_piece 10 rest in
    let cut : pieces 10 (line ++ 10 ∷ rest) ≡ line ∷ p.0 ∷ p.1 = line_ends line rest is ∙ ap (λ (l : List (List ℕ)). line ∷ l) p.2 in
    let fits : ltb 65536 (length line) ≡ false = le-ltb 65536 (length line) is.short in (
      ap lines_among cut ∙ ap (λ (t : Bool). cond t [] (line ∷ lines_among (p.0 ∷ p.1))) fits ∙ ap (λ (l : List (List ℕ)). line ∷ lines_among l) (sym p.2),
      ap left_among cut ∙ ap (λ (t : Bool). cond t (join_with_byte 10 (line ∷ p.0 ∷ p.1)) (left_among (p.0 ∷ p.1))) fits ∙ ap left_among (sym p.2),
    )

-- less than a line
pub lines-open : (held : List ℕ) → IsLine held → (lines held ≡ []) × (left held ≡ held)
lines-open held is =
    let one : pieces 10 held ≡ held ∷ [] = slice_split_none (λ b. eqb b 10) held (lacks-tests 10 held is.one) in
    (ap lines_among one, ap left_among one)

long_piece : (p : List ℕ) (more : List (List ℕ)) → 65536 < length p → (lines_among (p ∷ more) ≡ []) × (left_among (p ∷ more) ≡ join_with_byte 10 (p ∷ more))
long_piece p [] long = (refl, refl)
long_piece p (q ∷ more) long =
    let t : ltb 65536 (length p) ≡ true = lt-ltb 65536 (length p) long in (
      ap (λ (b : Bool). cond b [] (p ∷ lines_among (q ∷ more))) t,
      ap (λ (b : Bool). cond b (join_with_byte 10 (p ∷ q ∷ more)) (left_among (q ∷ more))) t,
    )

-- more than a line
pub lines-too_long : (held : List ℕ) → IsTooLong held → (lines held ≡ []) × (left held ≡ held)
lines-too_long held is =
    let p = some_piece 10 is.rest in
    let cut : pieces 10 held ≡ (is.front ++ p.0) ∷ p.1 = ap (pieces 10) is.whole ∙ pieces-front 10 is.front is.rest p.0 p.1 (lacks-tests 10 is.front is.one) p.2 in
    let long = long_piece (is.front ++ p.0) p.1 (omega (arith, length-append is.front p.0, is.long)) in (
      ap lines_among cut ∙ long.0,
      ap left_among cut ∙ long.1 ∙ ap (join_with_byte 10) (sym cut) ∙ join_with_byte-slice_split 10 held,
    )

-- a feed from its start on
pub holds-fed : (text : List ℕ) (taken : List (List ℕ)) (held piece : List ℕ) → Holds text taken held → Holds (text ++ piece) taken (held ++ piece)
holds-fed text taken held piece h = record {
  whole = ap (λ (l : List ℕ). l ++ piece) h.whole ∙ append_assoc (text_of taken) held piece;
  each = h.each;
}

pub text_of-push : (taken : List (List ℕ)) (line : List ℕ) → text_of (taken ++ line ∷ []) ≡ text_of taken ++ (line ++ 10 ∷ [])
text_of-push [] line = refl
text_of-push (l ∷ taken) line = ap (λ (t : List ℕ). l ++ 10 ∷ t) (text_of-push taken line) ∙ sym (append_assoc l (10 ∷ text_of taken) (line ++ 10 ∷ []))

pub holds-taken : (text : List ℕ) (taken : List (List ℕ)) (line rest : List ℕ) → IsLine line → Holds text taken (line ++ 10 ∷ rest) → Holds text (taken ++ line ∷ []) rest
holds-taken text taken line rest is h = record {
  whole = h.whole
      ∙ ap (λ (l : List ℕ). text_of taken ++ l) (sym (append_assoc line (10 ∷ []) rest))
      ∙ sym (append_assoc (text_of taken) (line ++ 10 ∷ []) rest)
      ∙ ap (λ (l : List ℕ). l ++ rest) (sym (text_of-push taken line));
  each = All-push IsLine taken line h.each is;
}

-- the lines of the text are those taken and those held
pub holds-lines : (text : List ℕ) (taken : List (List ℕ)) (held : List ℕ) → Holds text taken held → (lines text ≡ taken ++ lines held) × (left text ≡ left held)
holds-lines text [] held h = (ap lines h.whole, ap left h.whole)
holds-lines text (line ∷ taken) held h =
    let tail : List ℕ = text_of taken ++ held in
    let front : text ≡ line ++ 10 ∷ tail = h.whole ∙ append_assoc line (10 ∷ text_of taken) held in
    let here = lines-line line tail h.each.0 in
    let there = holds-lines tail taken held (record { whole = refl; each = h.each.1 }) in (
      ap lines front ∙ here.0 ∙ ap (λ (l : List (List ℕ)). line ∷ l) there.0,
      ap left front ∙ here.1 ∙ there.1,
    )

-- the next line of the text is the first of those held
pub slice_get-push : (taken more : List (List ℕ)) → slice_get (taken ++ more) (length taken) ≡ slice_get more 0
slice_get-push [] more = refl
slice_get-push (l ∷ taken) more = slice_get-push taken more

pub next-of : (text : List ℕ) (taken : List (List ℕ)) (held : List ℕ) (more : List (List ℕ)) → Holds text taken held → lines held ≡ more → slice_get (lines text) (length taken) ≡ slice_get more 0
next-of text taken held more h is =
    ap (λ (l : List (List ℕ)). slice_get l (length taken)) ((holds-lines text taken held h).0 ∙ ap (λ (l : List (List ℕ)). taken ++ l) is)
    ∙ slice_get-push taken more

-- what is too long stays so
pub too_long-more : (held more : List ℕ) → IsTooLong held → IsTooLong (held ++ more)
too_long-more held more is = record {
  front = is.front;
  rest = is.rest ++ more;
  whole = ap (λ (l : List ℕ). l ++ more) is.whole ∙ append_assoc is.front is.rest more;
  one = is.one;
  long = is.long;
}

-- each text has lines
among : (p : List ℕ) (ps : List (List ℕ)) → AllByRecursion (Lacks 10) (p ∷ ps) → Holds (join_with_byte 10 (p ∷ ps)) (lines_among (p ∷ ps)) (left_among (p ∷ ps)) × (IsLine (left_among (p ∷ ps)) ⊎ IsTooLong (left_among (p ∷ ps)))
among p [] h = elim (cases_lt 65536 (length p)) [
  | inl long ↦ (record { whole = refl; each = tt }, inr (record { front = p; rest = []; whole = sym (append-nil p); one = h.0; long = long }))
  | inr short ↦ (record { whole = refl; each = tt }, inl (record { one = h.0; short = short }))
]
among p (q ∷ ps) h = elim (cases_lt 65536 (length p)) [
  | inl long ↦
      (let t : ltb 65536 (length p) ≡ true = lt-ltb 65536 (length p) long in
      rw t (record { whole = refl; each = tt }, inr (record { front = p; rest = 10 ∷ join_with_byte 10 (q ∷ ps); whole = refl; one = h.0; long = long })))
  | inr short ↦
      (let t : ltb 65536 (length p) ≡ false = le-ltb 65536 (length p) short in
      let there = among q ps h.1 in
      rw t (
        record {
          whole = ap (λ (l : List ℕ). p ++ 10 ∷ l) there.0.whole ∙ sym (append_assoc p (10 ∷ text_of (lines_among (q ∷ ps))) (left_among (q ∷ ps)));
          each = (record { one = h.0; short = short }, there.0.each);
        },
        there.1,
      ))
]

pub splits : (text : List ℕ) → Holds text (lines text) (left text) × (IsLine (left text) ⊎ IsTooLong (left text))
splits text =
    let p = some_piece 10 text in
    let each : AllByRecursion (Lacks 10) (p.0 ∷ p.1) = subst (AllByRecursion (Lacks 10)) p.2 (pieces-lack 10 text) in
    let all = among p.0 p.1 each in
    let whole : join_with_byte 10 (p.0 ∷ p.1) ≡ text = ap (join_with_byte 10) (sym p.2) ∙ join_with_byte-slice_split 10 text in (
      record {
        whole = sym whole ∙ all.0.whole ∙ ap (λ (l : List (List ℕ)). text_of (lines_among l) ++ left_among l) (sym p.2);
        each = subst (λ (l : List (List ℕ)). AllByRecursion IsLine (lines_among l)) (sym p.2) all.0.each;
      },
      subst (λ (l : List (List ℕ)). IsLine (left_among l) ⊎ IsTooLong (left_among l)) (sym p.2) all.1,
    )

-- the end of a text gives no line
pub left-ends : (held : List ℕ) → IsLine held ⊎ IsTooLong held → (lines held ≡ []) × (left held ≡ held)
left-ends held (inl is) = lines-open held is
left-ends held (inr is) = lines-too_long held is

-- and it has no others
pub splits-only : (text : List ℕ) (ls : List (List ℕ)) (rest : List ℕ) → Holds text ls rest → IsLine rest ⊎ IsTooLong rest → (lines text ≡ ls) × (left text ≡ rest)
splits-only text ls rest h end =
    let whole = holds-lines text ls rest h in
    let none = left-ends rest end in
    (whole.0 ∙ ap (λ (l : List (List ℕ)). ls ++ l) none.0 ∙ append-nil ls, whole.1 ∙ none.1)

-- later bytes change no line
pub lines-append : (text more : List ℕ) → (lines (text ++ more) ≡ lines text ++ lines (left text ++ more)) × (left (text ++ more) ≡ left (left text ++ more))
lines-append text more = holds-lines (text ++ more) (lines text) (left text ++ more) (holds-fed text (lines text) (left text) more (splits text).0)

by_piece : (held : List ℕ) (ps : List (List ℕ)) → (lines held ≡ []) × (left held ≡ held) → (lines_by_piece held ps ≡ lines (held ++ concat ps)) × (left_by_piece held ps ≡ left (held ++ concat ps))
by_piece held [] end = (sym end.0 ∙ ap lines (sym (append-nil held)), sym end.1 ∙ ap left (sym (append-nil held)))
by_piece held (piece ∷ ps) end =
    let fed : List ℕ = held ++ piece in
    let later = by_piece (left fed) ps (left-ends (left fed) (splits fed).1) in
    let all = lines-append fed (concat ps) in
    let same : (held ++ piece) ++ concat ps ≡ held ++ (piece ++ concat ps) = append_assoc held piece (concat ps) in (
      ap (λ (l : List (List ℕ)). lines fed ++ l) later.0 ∙ sym all.0 ∙ ap lines same,
      later.1 ∙ sym all.1 ∙ ap left same,
    )

-- however a text is cut, its lines are the same
pub same_by_piece : (ps : List (List ℕ)) → (lines_by_piece [] ps ≡ lines (concat ps)) × (left_by_piece [] ps ≡ left (concat ps))
same_by_piece ps = by_piece [] ps (refl, refl)
