-- The life of a connection goes on by a request that was taken with others, whose reply is then held.
use Rattle.std.proofs.Common.{Err, List, None, Ok, Option, Result, Some, ap, append-nil, arith, refl, subst, suc, sym, true, ℕ, ◌++◌, ◌<◌, ◌∙◌, ◌∷◌, ◌≡◌, []}
use Rattle.mq_server.proofs.Words.{Delivery, EndCause, Enough, Feed, ServeFault, Takes, front, gives_whole, next_answer, Life, Lives, Memory, Reply, Request, SpellsRequest, StandsNext, State, Whole, frame, frames_of, left_by_next, next, replies_of, reply_body, with_exchanges}
use Rattle.mq_server.specs.Life.{taken}
use Rattle.mq_server.specs.State.{IsCount}
use Rattle.mq_server.proofs.Heads.{Answers}
use Rattle.mq_server.proofs.Advance.{Extended, count_one, extended_one, kept_text, text_one}

-- the whole frame that a look at a feed shows stands next
pub front_is : (feed : Feed) (body : List ℕ) → feed.limit ≡ 512 → Answers feed (Ok (Some body)) → next feed.rest ≡ Whole body (left_by_next (next feed.rest) feed.rest)
front_is feed body e a = gives_whole feed.rest body (next feed.rest) (sym (a ∙ ap (λ (n : ℕ). next_answer (front n feed.rest)) e))

-- what a feed holds after a frame was taken
pub left_is : (old new : Feed) → old.limit ≡ 512 → Takes old new → new.rest ≡ left_by_next (next old.rest) old.rest
left_is old new e takes = takes.rest ∙ ap (λ (n : ℕ). left_by_next (front n old.rest) old.rest) e

-- fewer were answered than are in all, where it hasn't ended
pub under_all : (end : Option (Result EndCause ServeFault)) (n : ℕ) → IsCount end n → end ≡ None → n < 10000
under_all end n count going = let P : Option (Result EndCause ServeFault) → Type 0 = λ e. IsCount e n in subst P going count

-- it goes on by this request and its reply, with the bytes after its frame
abbrev pub GoesOnBy : State → State → Reply → Type 0
GoesOnBy c now r = (request : Request) → StandsNext (Some request) c.rest → (l : Life) → Lives l c → (rest : List ℕ) × Lives (with_exchanges l (taken request r ∷ []) rest) now

module _ (c now : State) (r : Reply) (going : c.end ≡ None) (left : now.rest ≡ left_by_next (next c.rest) c.rest) where
  delivered : Request → Delivery
  delivered request = record { request = request; taken = true }

  stood : (body after : List ℕ) → next c.rest ≡ Whole body after → next c.rest ≡ Whole body now.rest
  stood body after stands = stands ∙ ap (λ (q : List ℕ). Whole body q) (sym (left ∙ ap (λ f. left_by_next f c.rest) stands))

  on_by : ((request : Request) (body : List ℕ) → next c.rest ≡ Whole body now.rest → SpellsRequest body request → Extended c now (taken request r ∷ []) None) → GoesOnBy c now r
  on_by f request (body, after, stands, spelled) l lives = (let it = f request body (stood body after stands) spelled l lives in (it.0, it.1))

  pub given_going : now.end ≡ None → now.answered ≡ suc c.answered → now.answered < 10000 → now.replies ≡ c.replies ++ frame (reply_body r) → GoesOnBy c now r
  given_going end count few added = on_by (λ request body stands spelled.
      extended_one c now body (record { request = request; taken = true }) r going end stands spelled
      (λ l text counted under. (text_one l c.replies now.replies (record { request = request; taken = true }) r text added, count_one l (record { request = request; taken = true }) r c.answered counted ∙ sym count, few, refl)))

  pub given_enough : now.end ≡ Some (Ok Enough) → now.answered ≡ suc c.answered → now.answered ≡ 10000 → now.replies ≡ c.replies ++ frame (reply_body r) → GoesOnBy c now r
  given_enough end count all added = on_by (λ request body stands spelled.
      extended_one c now body (record { request = request; taken = true }) r going end stands spelled
      (λ l text counted under. (
        text_one l c.replies now.replies (record { request = request; taken = true }) r text added ∙ ap frames_of (sym (append-nil (replies_of (l.exchanges ++ taken request r ∷ [])))),
        count_one l (record { request = request; taken = true }) r c.answered counted ∙ sym count ∙ all,
        tt,
      )))

  pub given_none : now.end ≡ Some (Err Memory) → now.replies ≡ c.replies → GoesOnBy c now r
  given_none end kept = on_by (λ request body stands spelled.
      extended_one c now body (record { request = request; taken = true }) r going end stands spelled
      (λ l text counted under. (l.exchanges, Some (taken request r), refl, omega (arith, counted, under), tt, kept_text l c.replies now.replies text kept)))
