-- What a feed gives, by the bytes that weren't taken.
use Rattle.std.proofs.Common.{◌≡◌, eqb, true, ℕ, ◌+◌, ◌-◌, ◌<◌, List, [], ◌∷◌, ◌++◌, length, get_or, take, drop, refl, sym, ap, ◌∙◌, subst, arith, append_assoc, append-nil, inl, inr}
use Rattle.std.specs.Prelude.{Some, None, slice_get}
use Rattle.std.proofs.lemmas.Bool.{eqb-true}
use Rattle.std.proofs.lemmas.List.{take_rest, drop-drop, length-append, get_or_at, get_or_append_left}
use Rattle.mq_line.specs.Feed.{Feed}
use Rattle.mq_line.specs.Text.{IsLine, IsTooLong, Holds, HasNoLine, lines, left}
use Rattle.mq_line.proofs.TextLaws.{next-of, lines-line, lines-open, holds-taken, splits-only}

-- what two feeds that are one show
pub same_rest : (f g : Feed) → f ≡ g → f.rest ≡ g.rest
same_rest f g e = ap (λ (feed : Feed). feed.rest) e

pub same_held : (f g : Feed) → f ≡ g → f.held ≡ g.held
same_held f g e = ap (λ (feed : Feed). feed.held) e

pub same_room : (f g : Feed) → f ≡ g → f.room ≡ g.room
same_room f g e = ap (λ (feed : Feed). feed.room) e

-- the rest, as the code cuts it off
pub rest_is : (items all rest : List ℕ) (place : ℕ) → all ≡ items → drop place items ≡ rest → take (length all - place) (drop place all) ≡ rest
rest_is items all rest place same is = take_rest all place ∙ ap (drop place) same ∙ is

-- a line and its LF leave, and the rest stays
pub rest_stays : (items held front : List ℕ) (place n : ℕ) → front ≡ held → drop place items ≡ held → drop (n + 1) front ≡ drop (place + n + 1) items
rest_stays items held front place n same is =
    ap (drop (n + 1)) (same ∙ sym is) ∙ drop-drop (n + 1) place items ∙ ap (λ (m : ℕ). drop m items) (omega arith)

pub line_leaves : (held line rest left : List ℕ) → IsLine line → held ≡ line ++ 10 ∷ rest → rest ≡ left → (held ≡ (line ++ 10 ∷ []) ++ left) × ((text : List ℕ) (taken : List (List ℕ)) → Holds text taken held → Holds text (taken ++ line ∷ []) left)
line_leaves held line rest left is cut same =
    let here : held ≡ line ++ 10 ∷ left = cut ∙ ap (λ (l : List ℕ). line ++ 10 ∷ l) same in (
      here ∙ sym (append_assoc line (10 ∷ []) left),
      λ text taken h. holds-taken text taken line left is (subst (Holds text taken) here h),
    )

pub none_leaves : (held left : List ℕ) → held ≡ left → (text : List ℕ) (taken : List (List ℕ)) → Holds text taken held → Holds text (taken ++ []) left
none_leaves held left same text taken h =
    subst (λ (ls : List (List ℕ)). Holds text ls left) (sym (append-nil taken)) (subst (Holds text taken) same h)

-- no line is left in what may become one, nor in what is too long for one
pub open_has_no_line : (held : List ℕ) → IsLine held → HasNoLine held
open_has_no_line held is text taken h = splits-only text taken held h (inl is)

pub long_has_no_line : (held : List ℕ) → IsTooLong held → HasNoLine held
long_has_no_line held is text taken h = splits-only text taken held h (inr is)

pub line_next : (text held line rest : List ℕ) (taken : List (List ℕ)) → IsLine line → held ≡ line ++ 10 ∷ rest → Holds text taken held → Some line ≡ slice_get (lines text) (length taken)
line_next text held line rest taken is cut h = sym (next-of text taken held (line ∷ lines rest) h (ap lines cut ∙ (lines-line line rest is).0))

pub none_next : (text held : List ℕ) (taken : List (List ℕ)) → IsLine held → Holds text taken held → None ≡ slice_get (lines text) (length taken)
none_next text held taken is h = sym (next-of text taken held [] h (lines-open held is).0)

-- what may become a line isn't too long
pub open_not_long : (held : List ℕ) → IsLine held → IsTooLong held → ⊥
open_not_long held is long = absurd (omega (arith, is.short, long.long, length-append long.front long.rest, ap length long.whole))

-- nor is what a line stands in front of
pub line_not_long : (held line rest : List ℕ) → IsLine line → held ≡ line ++ 10 ∷ rest → IsTooLong held → ⊥
line_not_long held line rest is cut long =
    let inside : length line < length long.front = omega (arith, is.short, long.long) in
    let lf : get_or (long.front ++ long.rest) (length line) 0 ≡ 10 = ap (λ (l : List ℕ). get_or l (length line) 0) (sym long.whole ∙ cut) ∙ get_or_at line 10 rest 0 (length line) refl in
    long.one (length line) 0 inside (sym (get_or_append_left long.front long.rest 0 (length line) inside) ∙ lf)

pub line_some : (held line rest : List ℕ) → held ≡ line ++ 10 ∷ rest → held ≡ [] → ⊥
line_some held line rest cut none = absurd (omega (arith, length-append line (10 ∷ rest), ap length cut, ap length none))

pub nothing_has_no_line : (front held : List ℕ) → front ≡ held → eqb (length front) 0 ≡ true → HasNoLine held
nothing_has_no_line front held same none =
    let empty : length held ≡ 0 = ap length (sym same) ∙ eqb-true _ _ none in
    open_has_no_line held (record { one = λ i d lt. absurd (omega arith); short = omega arith })
