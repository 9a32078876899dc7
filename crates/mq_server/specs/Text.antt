-- The bytes that a connection carries: requests in, replies out.
use Rattle.std.specs.Prelude.{◌≡◌, ℕ, ◌<◌, List, [], ◌∷◌, ◌++◌, length, Option, Some}
use Rattle.std.specs.List.{flat_map, AllZip}
use Rattle.std.specs.Io.KnownBytes.{IsAtEnd}
use Rattle.mq_frame.specs.declared.feed.TheConstants.{REQUEST_LIMIT}
use Rattle.mq_request.specs.declared.message.Request.{Request}
use Rattle.mq_request.specs.declared.message.Reply.{Reply}
use Rattle.mq_request.specs.declared.message.Reply.TheVariants.{Bad}
use Rattle.mq_frame.specs.Feed.{Front, Nothing, Cut, EmptyHead, LongHead, Whole, front, BeginsWith}
use Rattle.mq_frame.specs.Owned.{RequestHoldsBytes}
use Rattle.mq_frame.specs.Spelling.{SpellsRequest, frame, reply_body}
use Rattle.mq_server.specs.declared.connection.EndCause.{EndCause}
use Rattle.mq_server.specs.declared.connection.EndCause.TheVariants.{InputEnd, Enough, BadFrame, CutFrame}
use Rattle.mq_server.specs.declared.connection.TheConstants.{ENOUGH}
use Rattle.mq_server.specs.Delivery.{Delivery, asked, answers}

-- the bytes begin with the frames of these requests, and the rest follows
pub record Asks (bytes : List ℕ) (requests : List Request) (rest : List ℕ) : Type 0 where
  pub bodies : List (List ℕ)
  pub frames : BeginsWith REQUEST_LIMIT bytes bodies rest
  pub each : AllZip SpellsRequest bodies requests

-- what stands at the front of the bytes of requests
abbrev pub next : List ℕ → Front
next bytes = front REQUEST_LIMIT bytes

-- it is nothing, or a part of a frame
abbrev pub IsPartial : Front → Type 0
IsPartial Nothing = Unit {0}
IsPartial Cut = Unit {0}
IsPartial EmptyHead = ⊥
IsPartial LongHead = ⊥
IsPartial (Whole body after) = ⊥

-- no request is spelled so
abbrev pub SpellsNone : List ℕ → Type 0
SpellsNone body = (request : Request) → SpellsRequest body request → ⊥

-- some request is spelled so
abbrev pub SpellsOne : List ℕ → Type 0
SpellsOne body = (request : Request) × SpellsRequest body request

-- a request that is spelled so holds bytes of its own, so that there may be no memory for it
abbrev pub NeedsMemory : List ℕ → Type 0
NeedsMemory body = (request : Request) → SpellsRequest body request → RequestHoldsBytes request

-- what stands there is answered, and there may be no memory for it before the ledger is asked: for what a request holds,
-- or for Bad
abbrev pub MayLackMemory : Front → Type 0
MayLackMemory Nothing = ⊥
MayLackMemory Cut = ⊥
MayLackMemory EmptyHead = Unit {0}
MayLackMemory LongHead = Unit {0}
MayLackMemory (Whole body after) = NeedsMemory body

-- it is an empty head, a long head or a frame of no request: each is answered by Bad
abbrev pub IsBad : Front → Type 0
IsBad Nothing = ⊥
IsBad Cut = ⊥
IsBad EmptyHead = Unit {0}
IsBad LongHead = Unit {0}
IsBad (Whole body after) = SpellsNone body

-- how a connection ends whose frames were answered so far: by their count, by what stands after them, and by
-- what the input has left
abbrev pub IsEnd : EndCause → ℕ → Front → Option (List ℕ) → Type 0
IsEnd InputEnd count behind left = (count < ENOUGH) × (behind ≡ Nothing) × IsAtEnd left
IsEnd CutFrame count behind left = (count < ENOUGH) × (behind ≡ Cut) × IsAtEnd left
IsEnd BadFrame count behind left = (count < ENOUGH) × IsBad behind
IsEnd Enough count behind left = count ≡ ENOUGH

-- the frames of replies
abbrev pub frames_of : List Reply → List ℕ
frames_of replies = flat_map (λ r. frame (reply_body r)) replies

-- the last reply of a connection that ends so: Bad, or none
abbrev pub farewell : EndCause → List Reply
farewell BadFrame = Bad ∷ []
farewell InputEnd = []
farewell CutFrame = []
farewell Enough = []

-- what is written on a connection that ends so: the answers to its deliveries, and the farewell
abbrev pub served : (List Delivery → Delivery → Reply) → List Delivery → EndCause → List ℕ
served answer came e = frames_of (answers answer came ++ farewell e)

-- The deliveries are those of this whole input, and the connection ends so.
pub record IsServed (input : List ℕ) (came : List Delivery) (e : EndCause) : Type 0 where
  pub rest : List ℕ
  pub asks : Asks input (asked came) rest
  pub ends : IsEnd e (length came) (next rest) (Some [])

-- as far as both go, the ledger lost the same of them
abbrev pub LosesAlike : List Delivery → List Delivery → Type 0
LosesAlike [] others = Unit {0}
LosesAlike (d ∷ ds) [] = Unit {0}
LosesAlike (d ∷ ds) (other ∷ others) = (d.taken ≡ other.taken) × LosesAlike ds others
