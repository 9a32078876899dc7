-- What was let through, over all hosts and runs.
use Rattle.std.specs.Prelude.{◌≡◌, ℕ, List, [], ◌∷◌, Bool, false, ◌==◌, ◌&&◌, if◌then◌else◌, Option, None, Some, sum_by}
use Rattle.mq_request.specs.Same.{same_text}
use Rattle.mq_ledger.specs.Day.{day_of}
use Rattle.mq_ledger.specs.History.{Transaction}
use Rattle.mq_client.specs.Past.{Source, Action, Drain, Step, TransactionState, Never, Live, Closed, is_commit, IsPlayed}
use Rattle.mq_client.specs.Filter.{actions, actions_of}
use Rattle.mq_client.specs.Turns.{AreUnderway}
use Rattle.mq_client.specs.Reading.{standing_in}
use Rattle.mq_client.specs.declared.held_transaction.HeldTransaction.{HeldTransaction}
use Rattle.mq_world.specs.World.{Run, World}

-- the run that a transaction is of
abbrev pub run_of : Transaction → Source
run_of t = record { host = t.host; run = t.run }

-- how a transaction stands by the steps that its run began
abbrev pub standing_of : World → Transaction → TransactionState
standing_of w t = standing_in (w.runs (run_of t)).past t.txn

-- a transaction that is live, or whose last close that found it live was a commit
abbrev pub counting : TransactionState → Option HeldTransaction
counting Never = None
counting (Live h) = Some h
counting (Closed end number h) = if is_commit end then Some h else None

-- recipients that were let through, and 0 where none count
abbrev pub granted_of : Option HeldTransaction → ℕ
granted_of None = 0
granted_of (Some h) = h.granted

-- how many of its recipients were let through
abbrev pub let_by : TransactionState → ℕ
let_by st = granted_of (counting st)

-- it is known to be of that login and to have begun on that day
abbrev pub is_on : (ℕ → ℕ) → List ℕ → ℕ → Option HeldTransaction → Bool
is_on day l d None = false
is_on day l d (Some h) = same_text l h.login && (day h.moment == d)

-- the same, where it is of that login and day
abbrev pub let_on : (ℕ → ℕ) → List ℕ → ℕ → TransactionState → ℕ
let_on day l d st = if is_on day l d (counting st) then let_by st else 0

-- the sum over some transactions
abbrev pub let_together : World → List ℕ → ℕ → List Transaction → ℕ
let_together w l d ts = sum_by (λ t. let_on (day_of w.ledger.zone) l d (standing_of w t)) ts

-- ---- a run's past

-- the steps before the last one
abbrev pub earlier : List Step → List Step
earlier [] = []
earlier (x ∷ P) = P

-- what the lines of a run have its client do, and the end of its input
abbrev pub actions_in : Run → List Action
actions_in r = if r.is_at_end then Drain ∷ actions_of r.lines else actions_of r.lines

-- the past is one that the lines give: each step could come next and came to its end, but the last may be under way
pub record IsPastOf (s : Source) (tries : ℕ) (r : Run) : Type 0 where
  pub acts : actions r.past ≡ actions_in r
  pub played : IsPlayed s tries (earlier r.past)
  pub underway : AreUnderway s tries r.past
