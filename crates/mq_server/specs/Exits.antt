-- What is written on a connection that a fault ends.
use Rattle.std.specs.Prelude.{◌≡◌, ◌≢◌, ℕ, ◌<◌, List, ◌++◌, length, Option, Some, None, IfNone}
use Rattle.std.specs.Option.{option_to_list}
use Rattle.mq_request.specs.declared.message.Request.{Request}
use Rattle.mq_request.specs.declared.message.Reply.{Reply}
use Rattle.mq_request.specs.declared.message.Reply.TheVariants.{Bad}
use Rattle.mq_frame.specs.Feed.{Front, Nothing, Whole}
use Rattle.mq_frame.specs.Spelling.{SpellsRequest, frame, reply_body}
use Rattle.mq_server.specs.declared.connection.TheConstants.{ENOUGH}
use Rattle.mq_server.specs.Delivery.{Delivery, answers}
use Rattle.mq_server.specs.Text.{IsPartial, IsBad, frames_of}

-- the bytes begin with the part
abbrev pub IsPart : List ℕ → List ℕ → Type 0
IsPart part bytes = (more : List ℕ) × (bytes ≡ part ++ more)

-- the answer that is due: to a delivery, or Bad where there is none
abbrev pub due : (List Delivery → Delivery → Reply) → List Delivery → Option Delivery → Reply
due answer done (Some d) = answer done d
due answer done None = Bad

-- A read failed: each whole frame that was read had been answered.
pub record LeavesAtRead (answer : List Delivery → Delivery → Reply) (came : List Delivery) (behind : Front)
    (text : List ℕ) : Type 0 where
  pub few : length came < ENOUGH
  pub told : text ≡ frames_of (answers answer came)
  pub partial : IsPartial behind

-- A write or a flush failed: all answers before went out, and a part of the one that was due.
pub record LeavesAtWrite (answer : List Delivery → Delivery → Reply) (came : List Delivery) (behind : Front)
    (text : List ℕ) : Type 0 where
  pub done : List Delivery
  pub last : Option Delivery
  pub all : came ≡ done ++ option_to_list last
  pub few : length done < ENOUGH
  pub bad : IfNone last (IsBad behind)
  pub part : List ℕ
  pub begins : IsPart part (frame (reply_body (due answer done last)))
  pub told : text ≡ frames_of (answers answer done) ++ part

-- A growth was refused: all answers before went out. Where there is a last delivery the ledger has seen it, and there
-- was no room for its answer. Where there is none some bytes were read after them, and it was they that found no room,
-- or the request that they spell, or Bad.
pub record LeavesAtMemory (answer : List Delivery → Delivery → Reply) (came : List Delivery) (behind : Front)
    (text : List ℕ) : Type 0 where
  pub done : List Delivery
  pub last : Option Delivery
  pub all : came ≡ done ++ option_to_list last
  pub few : length done < ENOUGH
  pub wanted : IfNone last (behind ≢ Nothing)
  pub told : text ≡ frames_of (answers answer done)

-- The store failed at the request of the next frame: the answers before went out, and nothing for that frame.
pub record LeavesAtStore (answer : List Delivery → Delivery → Reply) (came : List Delivery) (behind : Front)
    (text : List ℕ) : Type 0 where
  pub few : length came < ENOUGH
  pub told : text ≡ frames_of (answers answer came)
  pub request : Request
  pub body : List ℕ
  pub after : List ℕ
  pub stands : behind ≡ Whole body after
  pub spelled : SpellsRequest body request
