-- Why the filter answers by the limit with no question. Of lines, steps and turns the newest comes first.
use Rattle.std.specs.Prelude.{◌≡◌, ℕ, ◌+◌, ◌<◌, ◌≤◌, List, [], ◌∷◌, ◌++◌, Bool, false, Option, None, Some}
use Rattle.std.specs.List.{AllByRecursion}
use Rattle.std.specs.Option.{option_map}
use Rattle.mq_line.specs.Grammar.{Meaning, FilterLine}
use Rattle.mq_line.specs.Results.{result_text}
use Rattle.mq_line.specs.declared.results.Decision.{Decision}
use Rattle.mq_line.specs.declared.results.Decision.TheVariants.{RejectLimit}
use Rattle.mq_client.specs.Exchanges.{Exchange}
use Rattle.mq_client.specs.Past.{Action, Ask, Close, Step}
use Rattle.mq_client.specs.Reading.{has_exchange}
use Rattle.mq_client.specs.Holding.{minute_of, full_in, is_freed, seconds_in}
use Rattle.mq_client.specs.Filter.{action_of, push}

-- a line with the step that it made, where it made one
pub record Turn : Type 0 where
  pub line : Meaning
  pub step : Option Step

-- the newest step, where the newest line has one, and the steps before it
abbrev pub own_step : Option Action → List Step → Option Step
own_step None steps = None
own_step (Some action) [] = None
own_step (Some action) (x ∷ steps) = Some x

abbrev pub steps_before : Option Action → List Step → List Step
steps_before None steps = steps
steps_before (Some action) [] = []
steps_before (Some action) (x ∷ steps) = steps

-- the lines with the steps that they made: which lines make one follows from them
abbrev pub turns : List Meaning → List Step → List Turn
turns [] steps = []
turns (line ∷ L) steps = record { line = line; step = own_step (action_of L line) steps }
    ∷ turns L (steps_before (action_of L line) steps)

-- recipients of the login were given back, as a reply to the exchanges of a closing says
abbrev pub frees_by : (login : List ℕ) → Action → List Exchange → Bool
frees_by login (Close txn end) group = is_freed login group
frees_by login _ group = false

abbrev pub frees_at : (login : List ℕ) → Option Step → Bool
frees_at login None = false
frees_at login (Some x) = frees_by login x.action x.group

-- At a line less than `hold` seconds before this second the server was asked for a recipient of the login and answered
-- that its limit is reached, in a transaction that began in the minute of this moment. Since then it gave back none of the
-- login.
pub record WasFull (hold : ℕ) (login : List ℕ) (moment seconds : ℕ) (T : List Turn) : Type 0 where
  pub later : List Turn
  pub turn : Turn
  pub before : List Turn
  pub whole : T ≡ later ++ turn ∷ before
  pub since : ℕ
  pub at : seconds_in turn.line ≡ Some since
  pub begun : ℕ
  pub full : full_in turn.step ≡ Some (login, begun)
  pub minute : minute_of begun ≡ minute_of moment
  pub not_before : since ≤ seconds
  pub recent : seconds < since + hold
  pub none_freed : AllByRecursion (λ t. frees_at login t.step ≡ false) later

-- a line that made this step, and no exchange, had this reason to be answered by the limit
abbrev pub HasReason : (hold seconds : ℕ) → List Turn → Option Step → Type 0
HasReason hold seconds T None = ⊥
HasReason hold seconds T (Some x) = has_exchange x.group ≡ false → (txn moment : ℕ) × (login : List ℕ)
    × (x.action ≡ Ask txn moment login) × WasFull hold login moment seconds T

-- a request of smtpd has a result, which answers by the limit only for a reason; any other line has none
abbrev pub IsReasoned : (hold : ℕ) → List Turn → Meaning → Option Step → List ℕ → Type 0
IsReasoned hold T (FilterLine seconds subsystem phase session token rest) step text = (d : Decision)
    × (text ≡ result_text session token d) × (d ≡ RejectLimit → HasReason hold seconds T step)
IsReasoned hold T line step text = text ≡ []

-- the same of each of some lines, by those before it: the lines made these steps, and these results were written
abbrev pub AreReasoned : (hold : ℕ) → List Meaning → List Step → List ℕ → Type 0
AreReasoned hold [] steps text = (steps ≡ []) × (text ≡ [])
AreReasoned hold (line ∷ L) steps text = (step : Option Step) × (before : List Step) × (written next : List ℕ)
    × AreReasoned hold L before written × (option_map (λ x. x.action) step ≡ action_of L line)
    × IsReasoned hold (turns L before) line step next × (steps ≡ push step before) × (text ≡ written ++ next)
