-- Filter runs, one ledger, and all that was ever sent and written between them.
use Rattle.std.specs.Prelude.{◌≡◌, ◌⊎◌, ℕ, List, [], ◌∷◌, ◌++◌, Bool, true, false, if◌then◌else◌, ◌&&◌, ◌==◌, slice_get}
use Rattle.std.specs.Prelude.{Option, None, Some}
use Rattle.std.specs.List.{AllByRecursion}
use Rattle.std.specs.Option.{option_map}
use Rattle.mq_line.specs.Grammar.{Meaning}
use Rattle.mq_track.specs.Sessions.{fault}
use Rattle.mq_request.specs.Range.{IsHost, IsRun}
use Rattle.mq_request.specs.Same.{same_text}
use Rattle.mq_frame.specs.Spelling.{reply_body, SpellsRequest, SpellsReply, frame, request_frame}
use Rattle.mq_request.specs.declared.message.Id.{Id}
use Rattle.mq_request.specs.declared.message.Request.{Request}
use Rattle.mq_request.specs.declared.message.Reply.{Reply}
use Rattle.mq_request.specs.declared.message.Reply.TheVariants.{Retry, Bad}
use Rattle.mq_ledger.specs.Answer.{history_of, reply}
use Rattle.mq_ledger.specs.Day.{day_of}
use Rattle.mq_ledger.specs.History.{requests}
use Rattle.mq_ledger.specs.Legal.{Book, IsLegalBook}
use Rattle.mq_client.specs.Exchanges.{Exchange, IsDecision, decides}
use Rattle.mq_client.specs.Past.{Source, Action, Drain, Step, IsPlayed}
use Rattle.mq_client.specs.Turns.{next_in}
use Rattle.mq_client.specs.Numbers.{id_in}
use Rattle.mq_client.specs.Filter.{push, action_of}
use Rattle.mq_link.specs.declared.link.ExchangeOutcome.{ExchangeOutcome}
use Rattle.mq_link.specs.declared.link.ExchangeOutcome.TheVariants.{Answered, Faulted}

-- which hosts and runs are those of filter runs, and how often each of them tries a request
pub record Site : Type 0 where
  pub is_run : Source → Bool
  pub tries : Source → ℕ

-- a run: the lines that it read and the steps that it began, of both the newest first; the request whose exchange
-- is on its way; whether its input has ended; and whether it stopped
pub record Run : Type 0 where
  pub lines : List Meaning
  pub past : List Step
  pub on_way : Option Request
  pub is_at_end : Bool
  pub is_stopped : Bool

-- the runs, the ledger, and every frame that was ever sent or written, of both the newest first
pub record World : Type 0 where
  pub runs : Source → Run
  pub ledger : Book
  pub sent : List (List ℕ)
  pub written : List (List ℕ)

-- ---- the start

-- a run that has read nothing
abbrev pub fresh : Run
fresh = record { lines = []; past = []; on_way = None; is_at_end = false; is_stopped = false }

-- the run that a request is of, by its id
abbrev pub source_of : Id → Source
source_of id = record { host = id.host; run = id.run }

-- the request has no number of a filter run
abbrev pub IsOfOthers : Site → Request → Type 0
IsOfOthers site q = (id : Id) → id_in q ≡ Some id → site.is_run (source_of id) ≡ false

-- neither has any that these bytes spell
abbrev pub IsFrameOfOthers : Site → List ℕ → Type 0
IsFrameOfOthers site bytes = (body : List ℕ) (q : Request) → bytes ≡ frame body → SpellsRequest body q
    → IsOfOthers site q

-- no reply that these bytes spell decides a request of a filter run
abbrev pub IsReplyToOthers : Site → List ℕ → Type 0
IsReplyToOthers site bytes = (body : List ℕ) (a : Reply) (q : Request) → bytes ≡ frame body → SpellsReply body a
    → decides q a ≡ true → IsOfOthers site q

-- no run has begun, each has a host and a run in range, the ledger is sound, and nobody else used their numbers
pub record IsStart (site : Site) (w : World) : Type 0 where
  pub hosts : (s : Source) → site.is_run s ≡ true → IsHost s.host × IsRun s.run
  pub runs : (s : Source) → w.runs s ≡ fresh
  pub ledger : IsLegalBook w.ledger
  pub entries : AllByRecursion (λ e. IsOfOthers site e.request) w.ledger.history
  pub sent : AllByRecursion (IsFrameOfOthers site) w.sent
  pub written : AllByRecursion (IsReplyToOthers site) w.written

-- ---- what a run does

-- a filter run that hasn't stopped
pub record IsUp (site : Site) (w : World) (s : Source) : Type 0 where
  pub is_run : site.is_run s ≡ true
  pub is_up : (w.runs s).is_stopped ≡ false

-- it reads on: its input hasn't ended, and each step that it began has come to its end
pub record ReadsOn (site : Site) (w : World) (s : Source) : Type 0 where
  pub up : IsUp site w s
  pub before_end : (w.runs s).is_at_end ≡ false
  pub none_on_way : (w.runs s).on_way ≡ None
  pub played : IsPlayed s (site.tries s) (w.runs s).past

-- a step that has no exchange yet, and may be quiet
abbrev pub begun : (quiet : Bool) → Action → Step
begun quiet action = record { action = action; group = []; quiet = quiet }

-- after a line: the step that the line asks for has begun, where it asks for one; at any line a run may hold back
abbrev pub after_line : (quiet : Bool) → Meaning → Run → Run
after_line quiet line r = record {
  lines = line ∷ r.lines;
  past = push (option_map (begun quiet) (action_of r.lines line)) r.past;
  on_way = r.on_way;
  is_at_end = r.is_at_end;
  is_stopped = r.is_stopped;
}

-- after the end of the input: what waits is to be sent
abbrev pub after_end : Run → Run
after_end r = record {
  lines = r.lines;
  past = begun false Drain ∷ r.past;
  on_way = r.on_way;
  is_at_end = true;
  is_stopped = r.is_stopped;
}

-- the request of the next exchange of the last step
abbrev pub next_request : Source → (tries : ℕ) → List Step → Option Request
next_request s tries [] = None
next_request s tries (x ∷ P) = next_in s tries P x

-- with the exchange of this request on its way, or with none
abbrev pub with_on_way : Option Request → Run → Run
with_on_way o r = record {
  lines = r.lines;
  past = r.past;
  on_way = o;
  is_at_end = r.is_at_end;
  is_stopped = r.is_stopped;
}

-- the last step has one more exchange
abbrev pub with_exchange : Exchange → List Step → List Step
with_exchange x [] = []
with_exchange x (y ∷ P) = record { action = y.action; group = x ∷ y.group; quiet = y.quiet } ∷ P

-- after the end of the exchange that was on its way
abbrev pub after_exchange : Exchange → Run → Run
after_exchange x r = record {
  lines = r.lines;
  past = with_exchange x r.past;
  on_way = None;
  is_at_end = r.is_at_end;
  is_stopped = r.is_stopped;
}

-- after it stopped, wherever it stood
abbrev pub after_stop : Run → Run
after_stop r = record {
  lines = r.lines;
  past = r.past;
  on_way = r.on_way;
  is_at_end = r.is_at_end;
  is_stopped = true;
}

-- what an exchange may bring: a link fault, Retry, Bad, or any reply that was ever written, to anyone
abbrev pub MayCome : List (List ℕ) → ExchangeOutcome → Type 0
MayCome written (Faulted fault) = Unit {0}
MayCome written (Answered body) = (body ≡ reply_body Retry) ⊎ ((body ≡ reply_body Bad)
    ⊎ ((which : ℕ) × (slice_get written which ≡ Some (frame body))))

-- ---- steps

-- the same host and the same run
abbrev pub same_source : Source → Source → Bool
same_source a b = same_text a.host b.host && (a.run == b.run)

-- each run as it was, but this one so
abbrev pub put : Source → Run → (Source → Run) → Source → Run
put s r runs u = if same_source s u then r else runs u

-- with one run as it is now
abbrev pub with_run : World → Source → Run → World
with_run w s r = record { runs = put s r w.runs; ledger = w.ledger; sent = w.sent; written = w.written }

-- with one more frame that was sent
abbrev pub with_sent : World → List ℕ → World
with_sent w bytes = record { runs = w.runs; ledger = w.ledger; sent = bytes ∷ w.sent; written = w.written }

-- the ledger after an arrival, and what it replies
abbrev pub book_after : Book → Request → Book
book_after b q = record {
  zone = b.zone;
  default = b.default;
  history = history_of (day_of b.zone) b.default (requests b.history ++ q ∷ []);
}

abbrev pub reply_from : Book → Request → Reply
reply_from b q = reply (day_of b.zone) b.default b.history q

-- a request arrives, and its reply is written
abbrev pub after_arrival : World → Request → World
after_arrival w q = record {
  runs = w.runs;
  ledger = book_after w.ledger q;
  sent = w.sent;
  written = frame (reply_body (reply_from w.ledger q)) ∷ w.written;
}

-- What may happen. A loss is a step that never comes.
pub data Next (site : Site) (w : World) : World → Type 0 where
  -- a run reads a line that its tracker doesn't refuse, and may hold back what that asks for
  Reads : (s : Source) (line : Meaning) (quiet : Bool) → ReadsOn site w s → fault (w.runs s).lines line ≡ None
      → Next site w (with_run w s (after_line quiet line (w.runs s)))
  -- its input ends
  ReadsEnd : (s : Source) → ReadsOn site w s → Next site w (with_run w s (after_end (w.runs s)))
  -- a run sends the frame of its next exchange
  Sends : (s : Source) (q : Request) → IsUp site w s → (w.runs s).on_way ≡ None
      → next_request s (site.tries s) (w.runs s).past ≡ Some q
      → Next site w (with_sent (with_run w s (with_on_way (Some q) (w.runs s))) (request_frame q))
  -- that exchange ends
  Ends : (s : Source) (x : Exchange) → IsUp site w s → (w.runs s).on_way ≡ Some x.request
      → MayCome w.written x.outcome → IsDecision x.request x.outcome x.decided
      → Next site w (with_run w s (after_exchange x (w.runs s)))
  -- the ledger takes a frame that was ever sent
  Takes : (which : ℕ) (body : List ℕ) (q : Request) → slice_get w.sent which ≡ Some (frame body)
      → SpellsRequest body q → Next site w (after_arrival w q)
  -- anyone else sends any bytes but a request of a filter run
  OthersSend : (bytes : List ℕ) → IsFrameOfOthers site bytes → Next site w (with_sent w bytes)
  -- a run stops
  Stops : (s : Source) → IsUp site w s → Next site w (with_run w s (after_stop (w.runs s)))

-- the second world follows from the first by some steps
pub data Reaches (site : Site) (start : World) : World → Type 0 where
  AtOnce : Reaches site start start
  Later : (w later : World) → Reaches site start w → Next site w later → Reaches site start later
