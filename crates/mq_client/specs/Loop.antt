-- The loop over lines: where it stands, and what each of its parts does.
use Rattle.std.specs.Prelude.{◌≡◌, ℕ, List, [], ◌∷◌, ◌++◌, Bool, true, false, Option, None, Some}
use Rattle.std.specs.List.{concat}
use Rattle.std.specs.Io.KnownBytes.{Appends}
use Rattle.mq_line.specs.Grammar.{Meaning, ReadyLine, Reads}
use Rattle.mq_line.specs.Results.{result_text}
use Rattle.mq_line.specs.Text.{IsLine, Holds}
use Rattle.mq_line.specs.declared.results.Decision.{Decision}
use Rattle.mq_track.specs.Sessions.{fault as track_fault}
use Rattle.mq_track.specs.State.{TracksAt}
use Rattle.mq_track.specs.declared.fault.TrackFault.{TrackFault}
use Rattle.mq_track.specs.declared.fault.TrackFault.TheVariants as track
use Rattle.mq_lemmas.specs.Told.{Tells}
use Rattle.mq_client.specs.Exchanges.{told_all}
use Rattle.mq_client.specs.Past.{Step, State, Makes, MakesAll, told_steps}
use Rattle.mq_client.specs.Holding.{Holding}
use Rattle.mq_client.specs.Filter.{query, Answers, answer_count}
use Rattle.mq_client.specs.Run.{Stage, BeforeReady, AfterReady, Reaches, HasText, Outside, may_ask_for_memory, IsAtWork}
use Rattle.mq_client.specs.Run.{StopsAt, is_early, is_stamped}
use Rattle.mq_client.specs.declared.fault.FilterFault.{FilterFault}
use Rattle.mq_client.specs.declared.fault.FilterFault.TheVariants as fault
use Rattle.mq_client.specs.declared.filter.EarlyLine.{EarlyLine}
use Rattle.mq_client.specs.declared.filter.EarlyLine.TheVariants as early
use Rattle.mq_client.specs.declared.filter.Filter.{Filter}
use Rattle.mq_link.specs.declared.link.ReportedExchange.{ReportedExchange}

-- the filter has come to the stage
abbrev pub IsAt : Filter → Stage → Type 0
IsAt f BeforeReady = (f.is_ready ≡ false) × TracksAt f.tracker [] × (f.answers ≡ 0)
IsAt f (AfterReady L) = (f.is_ready ≡ true) × TracksAt f.tracker L × (f.answers ≡ answer_count L)

-- a client made one step, or none
abbrev pub MakesOne : State → State → Option Step → Type 0
MakesOne old new None = new ≡ old
MakesOne old new (Some x) = Makes old new x

-- the exchanges of that step as the link reports them, the oldest first
abbrev pub told_one : Option Step → List ReportedExchange
told_one None = []
told_one (Some x) = told_all x.group

-- what was done for a line: a step, or none, and a text
pub record Does (old new : Outside) (step : Option Step) (text : List ℕ) : Type 0 where
  pub written : Appends old.sink new.sink text
  pub exchanged : Tells old.told new.told (told_one step)
  pub made : MakesOne old.client new.client step

-- so far these bytes came, of which the last aren't handled yet
pub record SoFar (o : Outside) (bytes left : List ℕ) (f : Filter) (now : Outside) : Type 0 where
  pub lines : List (List ℕ)
  pub stage : Stage
  pub steps : List Step
  pub text : List ℕ
  pub whole : Holds bytes lines left
  pub reaches : Reaches lines stage
  pub is_at : IsAt f stage
  pub spans : f.holdup.0 ≡ o.client.spans
  pub has_text : HasText o.client.spans stage steps text f.holdup.1
  pub written : Appends o.sink now.sink text
  pub exchanged : Tells o.told now.told (told_steps steps)
  pub made : MakesAll o.client now.client steps

-- once the filter is ready its sink works
abbrev pub SinkWorks : Filter → (write_failed : Bool) → Type 0
SinkWorks f write_failed = f.is_ready ≡ true → write_failed ≡ false

-- what a request of smtpd makes and is answered by
abbrev pub Replies : Holding → List Meaning → (subsystem phase session token : List ℕ) → Option Step → List ℕ → Type 0
Replies h L subsystem phase session token step text = (d : Decision)
    × Answers h (query L subsystem phase session) step d × (text ≡ result_text session token d)

-- the faults that may cut a line's work short
abbrev pub IsCut : FilterFault → (write_failed : Bool) → Type 0
IsCut fault.Write write_failed = write_failed ≡ true
IsCut fault.Memory write_failed = Unit {0}
IsCut f write_failed = ⊥

-- what a line before `config|ready` is
abbrev pub IsSorted : Meaning → EarlyLine → Type 0
IsSorted m early.Passed = is_early m ≡ true
IsSorted m early.Ready = m ≡ ReadyLine
IsSorted m early.TooEarly = is_stamped m ≡ true

-- a fault of the tracker as the filter's
abbrev pub filter_fault : TrackFault → FilterFault
filter_fault track.Auth = fault.Track track.Auth
filter_fault track.Message = fault.Track track.Message
filter_fault track.Exhausted = fault.Track track.Exhausted
filter_fault track.Memory = fault.Memory

-- why a line isn't noted
abbrev pub IsRefused : FilterFault → List Meaning → Meaning → Type 0
IsRefused (fault.Track f) L m = track_fault L m ≡ Some f
IsRefused fault.Memory L m = (track_fault L m ≡ None) × (may_ask_for_memory L m ≡ true)
IsRefused f L m = ⊥

-- a run that stopped while lines were handled: where memory ran out, only at the work of a line
abbrev pub StopsWithin : Outside → (pieces : List (List ℕ)) → (source : Option (List ℕ)) → Outside
    → (read_failed write_failed : Bool) → FilterFault → Type 0
StopsWithin o pieces source now read_failed write_failed f =
    (h : StopsAt o pieces source now read_failed write_failed f) × (f ≡ fault.Memory → IsAtWork h.stage h.left)

-- a line that says m was handled: the filter has come further
abbrev pub Carries : Meaning → (f f' : Filter) (old new : Outside) → Type 0
Carries m f f' old new = (o : Outside) (bytes line rest : List ℕ) → IsLine line → Reads line m
    → SoFar o bytes (line ++ 10 ∷ rest) f old → SoFar o bytes rest f' new

-- the filter stopped at a line that says m
abbrev pub Halts : Meaning → FilterFault → Filter → (old new : Outside) (write_failed : Bool) → Type 0
Halts m fault f old new write_failed = (o : Outside) (pieces : List (List ℕ)) (line rest : List ℕ)
    (source : Option (List ℕ)) (read_failed : Bool)
    → IsLine line → Reads line m → SoFar o (concat pieces) (line ++ 10 ∷ rest) f old
    → StopsWithin o pieces source new read_failed write_failed fault

-- some of the bytes that are held were handled
abbrev pub CarriesHeld : (held held' : List ℕ) (f f' : Filter) (old new : Outside) → Type 0
CarriesHeld held held' f f' old new = (o : Outside) (bytes : List ℕ) → SoFar o bytes held f old
    → SoFar o bytes held' f' new

-- the filter stopped among the bytes that are held
abbrev pub HaltsHeld : (held : List ℕ) → FilterFault → Filter → (old new : Outside) (write_failed : Bool) → Type 0
HaltsHeld held fault f old new write_failed =
    (o : Outside) (pieces : List (List ℕ)) (source : Option (List ℕ)) (read_failed : Bool)
    → SoFar o (concat pieces) held f old → StopsWithin o pieces source new read_failed write_failed fault
