-- What stands at the front of the bytes that a feed holds.
use Rattle.std.proofs.Common.{List, Ok, Option, Result, Some, [], ap, arith, length, length-drop, sym, ℕ, ◌*◌, ◌+◌, ◌<◌, ◌∙◌, ◌∷◌, ◌≡◌, ◌≤◌}
use Rattle.mq_server.proofs.Words.{Feed, FrameFault, IsPartial, Nothing, Takes, Whole, front, front_behind, gives_whole, left_by_next, nat_tests, next, next_answer}

-- something stands at the front of a byte
some_behind_head : (limit n : ℕ) (bytes : List ℕ) → front_behind limit n bytes ≡ Nothing → ⊥
some_behind_head limit n bytes e = grind arith

pub some_behind : (limit : ℕ) (bytes : List ℕ) → 0 < length bytes → front limit bytes ≡ Nothing → ⊥
some_behind limit [] h e = omega (arith, h)
some_behind limit (a ∷ []) h e = cc
some_behind limit (a ∷ b ∷ bytes) h e = some_behind_head limit (256 * a + b) bytes e

-- less than a frame is held where none is whole
short_behind : (limit n : ℕ) (bytes : List ℕ) → IsPartial (front_behind limit n bytes) → length bytes < limit
short_behind limit n bytes e = grind (arith, nat_tests)

pub partial_short : (limit : ℕ) (bytes : List ℕ) → IsPartial (front limit bytes) → length bytes < limit + 2
partial_short limit [] e = omega arith
partial_short limit (a ∷ []) e = omega arith
partial_short limit (a ∷ b ∷ bytes) e = omega (arith, short_behind limit (256 * a + b) bytes e)

-- fewer bytes are left after a frame
left_behind : (limit n : ℕ) (bytes body after : List ℕ) → front_behind limit n bytes ≡ Whole body after → length after ≤ length bytes
left_behind limit n bytes body after e = grind (arith, length-drop)

pub left_short : (limit : ℕ) (bytes body after : List ℕ) → front limit bytes ≡ Whole body after → length after < length bytes
left_short limit (a ∷ b ∷ bytes) body after e = omega (arith, left_behind limit (256 * a + b) bytes body after e)
left_short limit bytes body after e = cc

-- ---- what a call for the next body says of the front

abbrev pub Answers : Feed → Result (Option (List ℕ)) FrameFault → Type 0
Answers feed r = r ≡ next_answer (front feed.limit feed.rest)

pub a_frame : (old new : Feed) (body : List ℕ) → old.limit ≡ 512 → Answers old (Ok (Some body)) → Takes old new → next old.rest ≡ Whole body new.rest
a_frame old new body e a left =
    gives_whole old.rest body (next old.rest) (sym (a ∙ ap (λ (n : ℕ). next_answer (front n old.rest)) e))
    ∙ ap (Whole body) (sym (left.rest ∙ ap (λ (n : ℕ). left_by_next (front n old.rest) old.rest) e))
