-- What an administrator's order brings: a limit of a login, or that a host's runs are given up.
use Rattle.std.specs.Prelude.{◌≡◌, ◌⊎◌, ◌<◌, ◌+◌, ◌*◌, ℕ, zero, suc, List, Bool, true, false, Option, Result, Ok, Err, codes}
use Rattle.std.specs.Prelude.{⊤}
use Rattle.std.specs.Io.KnownBytes.{Appends, Keeps}
use Rattle.mq_request.specs.Range.{IsRequest}
use Rattle.mq_request.specs.declared.bounds.TheConstants.{LAST_RUN}
use Rattle.mq_request.specs.declared.message.Request.{Request}
use Rattle.mq_request.specs.declared.message.Request.TheVariants as asks
use Rattle.mq_request.specs.declared.message.Reply.{Reply}
use Rattle.mq_request.specs.declared.message.Reply.TheVariants as says
use Rattle.mq_request.specs.declared.message.Id.{Id}
use Rattle.mq_command.specs.Asking.{Asks, IsAnswered}
use Rattle.mq_stream.specs.Flow.{AppendsFront}
use Rattle.mq_command.specs.declared.order.OrderFault.{OrderFault}
use Rattle.mq_command.specs.declared.order.OrderFault.TheVariants.{Over, OtherLimit, OtherRequest, Retired, Unanswered}
use Rattle.mq_link.specs.declared.link.ReportedExchange.{ReportedExchange}

-- a limit whose fields are in range
abbrev pub IsLimit : Request → Type 0
IsLimit (asks.Limit id from_day cap login) = IsRequest (asks.Limit id from_day cap login)
IsLimit _ = ⊥

-- a retire whose fields are in range
abbrev pub IsRetire : Request → Type 0
IsRetire (asks.Retire id) = IsRequest (asks.Retire id)
IsRetire _ = ⊥

-- a limit or a retire, whose fields are in range
abbrev pub IsOrder : Request → Type 0
IsOrder (asks.Limit id from_day cap login) = IsRequest (asks.Limit id from_day cap login)
IsOrder (asks.Retire id) = IsRequest (asks.Retire id)
IsOrder _ = ⊥

-- the reply by which the server says that it carried an order out
abbrev pub done : Request → Id → Reply
done (asks.Retire id') id = says.Retired id
done _ id = says.LimitSet id

-- what is printed of an order that is carried out
abbrev pub word : Request → List ℕ
word (asks.Retire id) = codes "retired\n"
word _ = codes "set\n"

-- the fault where the number of an order was used with another request
abbrev pub conflict : Request → OrderFault
conflict (asks.Retire id) = OtherRequest
conflict _ = OtherLimit

-- a reply that may answer an order
abbrev pub AnswersOrder : Request → Reply → Type 0
AnswersOrder (asks.Limit id' from_day cap login) (says.LimitSet id) = ⊤
AnswersOrder (asks.Limit id' from_day cap login) (says.Over id day used) = ⊤
AnswersOrder (asks.Retire id') (says.Retired id) = ⊤
AnswersOrder request (says.Conflict id) = ⊤
AnswersOrder request (says.Old id) = ⊤
AnswersOrder _ _ = ⊥

-- What a reply says of an order.
abbrev pub Says : Request → Reply → Result (Unit {0}) OrderFault → Type 0
Says request reply (Ok _) = (id : Id) × (reply ≡ done request id)
Says request reply (Err (Over day used)) = (id : Id) × (reply ≡ says.Over id day used)
Says request reply (Err OtherLimit) = (id : Id) × (reply ≡ says.Conflict id) × (conflict request ≡ OtherLimit)
Says request reply (Err OtherRequest) = (id : Id) × (reply ≡ says.Conflict id) × (conflict request ≡ OtherRequest)
Says request reply (Err Retired) = (id : Id) × (reply ≡ says.Old id)
Says request reply (Err (Unanswered fault)) = ⊥

-- What sending an order leads to: what the reply says that answers it, or why there is none.
abbrev pub Orders : Request → Option (List ReportedExchange) → Option (List ReportedExchange) → Result (Unit {0}) OrderFault → Type 0
Orders request told told' (Err (Unanswered fault)) = Asks request told told' (Err fault)
Orders request told told' ended = (reply : Reply) × IsAnswered request reply told told' × Says request reply ended

-- the number of the run that many later
abbrev pub later_id : ℕ → Id → Id
later_id runs id = record { host = id.host; run = id.run + runs; number = id.number }

-- a limit under the number of the run that many later
abbrev pub later : ℕ → Request → Request
later runs (asks.Limit id from_day cap login) = asks.Limit (later_id runs id) from_day cap login
later runs request = request

-- the run of a limit's number
abbrev pub run_of : Request → ℕ
run_of (asks.Limit id from_day cap login) = id.run
run_of request = 0

-- whether the number of a limit was used with another request
abbrev pub is_taken : Result (Unit {0}) OrderFault → Bool
is_taken (Err OtherLimit) = true
is_taken _ = false

-- how many runs after its own a limit's number is where so many were used: 0, 1, 3, 7 and so on
abbrev pub ahead : ℕ → ℕ
ahead zero = 0
ahead (suc taken) = ahead taken * 2 + 1

-- a limit was sent under so many numbers that were used with other requests
pub data AreTaken (request : Request) (start : Option (List ReportedExchange)) : ℕ → Option (List ReportedExchange) → Type 0 where
  no_number : AreTaken request start 0 start
  number : (count : ℕ) (mid new : Option (List ReportedExchange)) (sent : Result (Unit {0}) OrderFault)
      → AreTaken request start count mid → Orders (later (ahead count) request) mid new sent → is_taken sent ≡ true
      → AreTaken request start (count + 1) new

-- What sending a limit under the first number that isn't used leads to, of 16 in all: there is none where all are used,
-- or where there is no further run. A retire has no other number: its run says which runs are given up.
pub record OrdersFresh (request : Request) (old new : Option (List ReportedExchange)) (sent : Result (Unit {0}) OrderFault) : Type 0 where
  pub count : ℕ
  pub mid : Option (List ReportedExchange)
  pub few : count < 16
  pub taken : AreTaken request old count mid
  pub last : Orders (later (ahead count) request) mid new sent
  pub fresh : is_taken sent ≡ true → (count ≡ 15) ⊎ (LAST_RUN < run_of (later (ahead count) request) + (ahead count + 1))

-- What printing a line leads to: status 0 where it is printed whole, else 1.
abbrev pub PrintsLine : List ℕ → Option (List ℕ) → Option (List ℕ) → ℕ → Type 0
PrintsLine line old new status = ((status ≡ 0) × Appends old new line) ⊎ ((status ≡ 1) × AppendsFront old new line)

-- What telling it prints: a line where all is done, and nothing where it isn't; then the status is 1.
abbrev pub Prints : {X Fault : Type 0} → (X → List ℕ) → Option (List ℕ) → Option (List ℕ) → Result X Fault → ℕ → Type 0
Prints line old new (Ok done) status = PrintsLine (line done) old new status
Prints line old new (Err fault) status = (status ≡ 1) × Keeps old new
