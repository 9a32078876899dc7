-- A filter run on its way through worlds, as its contract says. Of lines, steps, exchanges and frames the newest
-- comes first.
use Rattle.std.specs.Prelude.{◌≡◌, ◌⊎◌, List, [], ◌∷◌, Bool, true, false, Option, None, Some}
use Rattle.mq_line.specs.Grammar.{Meaning}
use Rattle.mq_client.specs.Exchanges.{Exchange}
use Rattle.mq_frame.specs.Spelling.{request_frame}
use Rattle.mq_client.specs.Past.{Source, Action, Step, State, StandsAt}
use Rattle.mq_client.specs.Run.{Stage, BeforeReady, AfterReady}
use Rattle.mq_world.specs.World.{Site, Run, World, fresh, begun, with_sent, MayCome, Next}

-- a run that has read these lines, made these steps, and whose input has ended or not
abbrev pub ran : List Meaning → List Step → Bool → Run
ran lines steps is_at_end = record {
  lines = lines;
  past = steps;
  on_way = None;
  is_at_end = is_at_end;
  is_stopped = false;
}

-- an action with these exchanges
abbrev pub step_of : Action → (quiet : Bool) → List Exchange → Step
step_of action quiet group = record { action = action; group = group; quiet = quiet }

-- a step of which no exchange has been made yet
abbrev pub unsent : Step → Step
unsent x = begun x.quiet x.action

-- a run that reads on or has read all, and whose last step has these exchanges so far
abbrev pub amid : List Meaning → Action → (quiet : Bool) → List Exchange → List Step → Bool → Run
amid lines action quiet group steps is_at_end = ran lines (step_of action quiet group ∷ steps) is_at_end

-- the exchanges of a step, where one is made
abbrev pub exchanges_of : Option Step → List Exchange
exchanges_of None = []
exchanges_of (Some x) = x.group

-- others go on: steps of the world that leave the run s as it is
pub data OthersGoOn (site : Site) (s : Source) (w : World) : World → Type 0 where
  NobodyYet : OthersGoOn site s w w
  OneStep : (mid later : World) → OthersGoOn site s w mid → Next site mid later → later.runs s ≡ mid.runs s
      → OthersGoOn site s w later

-- What goes on around the run s while it makes these exchanges, its own lines and steps left out: the frame of each
-- is sent, others go on, what it brings may come by then, and others go on.
pub data GoesOnAround (site : Site) (s : Source) (w : World) : List Exchange → World → Type 0 where
  Before : (later : World) → OthersGoOn site s w later → GoesOnAround site s w [] later
  During : (x : Exchange) (group : List Exchange) (before ended later : World) → GoesOnAround site s w group before
      → OthersGoOn site s (with_sent before (request_frame x.request)) ended → MayCome ended.written x.outcome
      → OthersGoOn site s ended later → GoesOnAround site s w (x ∷ group) later

-- a run of the site that has read nothing in w, and whose client is new
pub record IsNew (site : Site) (w : World) (s : Source) (client : State) : Type 0 where
  pub is_run : site.is_run s ≡ true
  pub run : w.runs s ≡ fresh
  pub source : client.source ≡ s
  pub tries : client.tries ≡ site.tries s
  pub stands : StandsAt client []

-- the lines after `config|ready` that were handled
abbrev pub lines_at : Stage → List Meaning
lines_at BeforeReady = []
lines_at (AfterReady lines) = lines

-- these lines, or one more
abbrev pub IsOrOneMore : List Meaning → List Meaning → Type 0
IsOrOneMore lines handled = (lines ≡ handled) ⊎ ((line : Meaning) × (lines ≡ line ∷ handled))
