-- A run of the filter: the bytes that it read, what it wrote, the steps that its client made, and how it ended.
use Rattle.std.specs.Prelude.{◌≡◌, ◌≢◌, ◌⊎◌, ℕ, ◌≤◌, List, [], ◌∷◌, ◌++◌, length, Bool, true, false, ◌||◌, Option, None}
use Rattle.std.specs.Prelude.{Some, is_some}
use Rattle.std.specs.List.{AllByRecursion, concat}
use Rattle.std.specs.Io.KnownBytes.{Appends, Consumes, IsAtEnd}
use Rattle.mq_line.specs.Grammar.{Meaning, ConfigLine, ReadyLine, ReportLine, FilterLine, OtherLine, Reads, fault}
use Rattle.mq_line.specs.Results.{registration}
use Rattle.mq_line.specs.Text.{IsLine, IsTooLong, Holds}
use Rattle.mq_track.specs.Events.{event}
use Rattle.mq_track.specs.Sessions.{closing, fault as track_fault}
use Rattle.mq_track.specs.Steps.{needs_memory}
use Rattle.mq_lemmas.specs.Told.{Tells}
use Rattle.mq_client.specs.Exchanges.{Exchange}
use Rattle.mq_client.specs.Past.{Step, drained, State, StandsAt, view, MakesAll, told_steps}
use Rattle.mq_client.specs.Holding.{Holding, nothing_held}
use Rattle.mq_client.specs.Filter.{Takes, at_line, push, Filters, is_filter, answer_count}
use Rattle.mq_client.specs.Reasons.{AreReasoned, IsReasoned, turns}
use Rattle.mq_client.specs.declared.spans.Spans.{Spans}
use Rattle.mq_client.specs.declared.fault.FilterFault.{FilterFault}
use Rattle.mq_client.specs.declared.fault.FilterFault.TheVariants as faults
use Rattle.mq_client.specs.declared.filter.RunEnd.{RunEnd}
use Rattle.mq_link.specs.declared.link.ReportedExchange.{ReportedExchange}

-- ---- the input

-- a source, as far as it reports them: the bytes that are still to come, and what each read gave so far
pub record Supply : Type 0 where
  pub remaining : Option (List ℕ)
  pub reads : Option (List (List ℕ))

-- the source that reports this
abbrev pub supply : Option (List ℕ) → Option (List (List ℕ)) → Supply
supply remaining reads = record { remaining = remaining; reads = reads }

-- a read takes at most 4,096 bytes
abbrev pub IsPiece : List ℕ → Type 0
IsPiece piece = length piece ≤ 4096

-- these reads were made, at most 1,099,511,627,776 of them
pub record Supplies (old new : Supply) (pieces : List (List ℕ)) : Type 0 where
  pub consumed : Consumes old.remaining new.remaining (concat pieces)
  pub told : Tells old.reads new.reads pieces
  pub each : AllByRecursion IsPiece pieces
  pub few : length pieces ≤ 1099511627776

-- reports and requests, which may not come before `config|ready`
abbrev pub is_stamped : Meaning → Bool
is_stamped (ReportLine seconds subsystem event session params) = true
is_stamped (FilterLine seconds subsystem phase session token rest) = true
is_stamped _ = false

-- what is passed over before `config|ready`
abbrev pub is_early : Meaning → Bool
is_early (ConfigLine key value) = true
is_early OtherLine = true
is_early _ = false

-- a line that is passed over before `config|ready`
abbrev pub IsEarly : List ℕ → Type 0
IsEarly line = (m : Meaning) × Reads line m × (is_early m ≡ true)

-- lines in order, and what they say, of which the newest comes first
abbrev pub AreRead : List (List ℕ) → List Meaning → Type 0
AreRead lines [] = lines ≡ []
AreRead lines (m ∷ L) = (before : List (List ℕ)) × (line : List ℕ) × (lines ≡ before ++ line ∷ []) × Reads line m
    × AreRead before L

-- the lines came to `config|ready`, and those after it say this
pub record IsReady (lines : List (List ℕ)) (L : List Meaning) : Type 0 where
  pub before : List (List ℕ)
  pub ready : List ℕ
  pub after : List (List ℕ)
  pub whole : lines ≡ before ++ ready ∷ after
  pub early : AllByRecursion IsEarly before
  pub reads_ready : Reads ready ReadyLine
  pub read : AreRead after L

-- how far the lines have come
pub data Stage : Type 0 where
  BeforeReady : Stage
  AfterReady : List Meaning → Stage

-- the lines have come so far: all of them are early, or `config|ready` is among them
abbrev pub Reaches : List (List ℕ) → Stage → Type 0
Reaches lines BeforeReady = AllByRecursion IsEarly lines
Reaches lines (AfterReady L) = IsReady lines L

-- ---- what was done for it

-- the filter's text, the registration and then the results, and what it holds back
abbrev pub HasText : Spans → Stage → List Step → List ℕ → Holding → Type 0
HasText spans BeforeReady steps text h = (steps ≡ []) × (text ≡ []) × (h ≡ nothing_held)
HasText spans (AfterReady L) steps text h = (results : List ℕ) × Filters spans L steps results h
    × (text ≡ registration ++ results)

-- each 550 with no question has its reason, also that of whatever line comes next
pub record HasReasons (spans : Spans) (h : Holding) (L : List Meaning) (steps : List Step) (text : List ℕ) : Type 0 where
  pub so_far : AreReasoned spans.hold L steps text
  pub next : (m : Meaning) (step : Option Step) (written : List ℕ) → Takes (at_line spans m h) L m step written
      → IsReasoned spans.hold (turns L steps) m step written

-- the same at a stage
abbrev pub IsReasonedAt : Spans → Holding → Stage → List Step → List ℕ → Type 0
IsReasonedAt spans h BeforeReady steps text = Unit {0}
IsReasonedAt spans h (AfterReady L) steps text = (results : List ℕ) × (text ≡ registration ++ results)
    × HasReasons spans h L steps results

-- what stands outside of the filter: what the sink holds, what the link told, and the client
pub record Outside : Type 0 where
  pub sink : Option (List ℕ)
  pub told : Option (List ReportedExchange)
  pub client : State

-- what stands outside, put together
abbrev pub around : Option (List ℕ) → Option (List ReportedExchange) → State → Outside
around sink told client = record { sink = sink; told = told; client = client }

-- ---- its end

-- all bytes were whole lines, with `config|ready` among them, and what waited was sent at the end
pub record EndsWith (o : Outside) (bytes : List ℕ) (now : Outside) (e : RunEnd) : Type 0 where
  pub lines : List (List ℕ)
  pub after_ready : List Meaning
  pub steps : List Step
  pub results : List ℕ
  pub holding : Holding
  pub group : List Exchange
  pub whole : Holds bytes lines []
  pub ready : IsReady lines after_ready
  pub filters : Filters o.client.spans after_ready steps results holding
  pub reasoned : AreReasoned o.client.spans.hold after_ready steps results
  pub written : Appends o.sink now.sink (registration ++ results)
  pub exchanged : Tells o.told now.told (told_steps (drained group steps))
  pub made : MakesAll o.client now.client (drained group steps)
  pub answers : e.answers ≡ answer_count after_ready
  pub left : (P : List Step) → StandsAt now.client P → e.left ≡ length (view now.client.source P).waiting

-- a line stands in front of the bytes that are left, with its LF
pub record StandsFirst (line left : List ℕ) : Type 0 where
  pub is_line : IsLine line
  pub rest : List ℕ
  pub whole : left ≡ line ++ 10 ∷ rest

-- all that the last read gave is left, after the beginning of a line
pub record IsFed (pieces : List (List ℕ)) (left : List ℕ) : Type 0 where
  pub before : List (List ℕ)
  pub piece : List ℕ
  pub held : List ℕ
  pub last : pieces ≡ before ++ piece ∷ []
  pub whole : left ≡ held ++ piece
  pub is_line : IsLine held
  pub some : 1 ≤ length piece

-- the lines that may ask for memory, by those before them: requests, those that close a transaction, and those of
-- which the tracker keeps something
abbrev pub may_ask_for_memory : List Meaning → Meaning → Bool
may_ask_for_memory L m = is_filter m || (is_some (closing L m) || needs_memory (event m))

-- the line in front may ask for memory: `config|ready`, or such a line after it that isn't refused
abbrev pub IsAtWork : Stage → (left : List ℕ) → Type 0
IsAtWork BeforeReady left = (line : List ℕ) × StandsFirst line left × Reads line ReadyLine
IsAtWork (AfterReady L) left = (m : Meaning) × (line : List ℕ) × StandsFirst line left × Reads line m
    × (track_fault L m ≡ None) × (may_ask_for_memory L m ≡ true)

-- what is found where a run stops, after the lines that were handled
abbrev pub IsFound : FilterFault → Stage → (pieces : List (List ℕ)) → (left : List ℕ) → (source : Option (List ℕ))
    → (read_failed write_failed : Bool) → Type 0
IsFound (faults.Line f) stage pieces left source read_failed write_failed = (line : List ℕ) × StandsFirst line left
    × (fault line ≡ Some f)
IsFound (faults.Track f) stage pieces left source read_failed write_failed = (L : List Meaning) × (m : Meaning)
    × (line : List ℕ) × (stage ≡ AfterReady L) × StandsFirst line left × Reads line m × (track_fault L m ≡ Some f)
IsFound faults.NotReady stage pieces left source read_failed write_failed = (m : Meaning) × (line : List ℕ)
    × (stage ≡ BeforeReady) × StandsFirst line left × Reads line m × (is_stamped m ≡ true)
IsFound faults.EndedEarly stage pieces left source read_failed write_failed = (stage ≡ BeforeReady) × (left ≡ [])
    × IsAtEnd source
IsFound faults.CutLine stage pieces left source read_failed write_failed = (left ≢ []) × IsLine left × IsAtEnd source
IsFound faults.TooLong stage pieces left source read_failed write_failed = IsTooLong left
IsFound faults.Read stage pieces left source read_failed write_failed = IsLine left
    × ((read_failed ≡ true) ⊎ (length pieces ≡ 1099511627776))
IsFound faults.Write stage pieces left source read_failed write_failed = write_failed ≡ true
IsFound faults.Memory stage pieces left source read_failed write_failed = IsFed pieces left ⊎ IsAtWork stage left

-- the step that the line in front makes, and what is written for it
abbrev pub Goes : Spans → Holding → Stage → (line : List ℕ) → Option Step → List ℕ → Type 0
Goes spans h BeforeReady line step next = Reads line ReadyLine × (step ≡ None) × (next ≡ registration)
Goes spans h (AfterReady L) line step next = (m : Meaning) × Reads line m × Takes (at_line spans m h) L m step next

-- at a failed write and where memory ran out the line in hand may have made its step
abbrev pub MayGo : Spans → Holding → Stage → (left : List ℕ) → Option Step → List ℕ → Type 0
MayGo spans h stage left step next = ((step ≡ None) × (next ≡ []))
    ⊎ ((line : List ℕ) × StandsFirst line left × Goes spans h stage line step next)

-- the step and the text of the line in hand: at a fault other than these two it has made none
abbrev pub IsInHand : FilterFault → Spans → Holding → Stage → (left : List ℕ) → Option Step → List ℕ → Type 0
IsInHand faults.Write spans h stage left step next = MayGo spans h stage left step next
IsInHand faults.Memory spans h stage left step next = MayGo spans h stage left step next
IsInHand f spans h stage left step next = (step ≡ None) × (next ≡ [])

-- The lines before the place where a run stopped were handled, and the rest is left: steps and exchanges were made
-- as the lines ask, and their text was written. The line in hand may have made its step, and a prefix of its text
-- may have been written.
pub record StopsAt (o : Outside) (pieces : List (List ℕ)) (source : Option (List ℕ)) (now : Outside)
    (read_failed write_failed : Bool) (f : FilterFault) : Type 0 where
  pub lines : List (List ℕ)
  pub left : List ℕ
  pub stage : Stage
  pub steps : List Step
  pub text : List ℕ
  pub holding : Holding
  pub whole : Holds (concat pieces) lines left
  pub reaches : Reaches lines stage
  pub has_text : HasText o.client.spans stage steps text holding
  pub reasoned : IsReasonedAt o.client.spans holding stage steps text
  pub found : IsFound f stage pieces left source read_failed write_failed
  pub step : Option Step
  pub front : List ℕ
  pub rest : List ℕ
  pub in_hand : IsInHand f o.client.spans holding stage left step (front ++ rest)
  pub written : Appends o.sink now.sink (text ++ front)
  pub exchanged : Tells o.told now.told (told_steps (push step steps))
  pub made : MakesAll o.client now.client (push step steps)
