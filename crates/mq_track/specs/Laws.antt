-- What holds of sessions and transactions after any lines.
use Rattle.std.specs.Prelude.{◌≡◌, ◌≢◌, ◌<◌, ◌≤◌, ℕ, List, [], ◌∷◌, ◌++◌, Some, ◌⊎◌}
use Rattle.std.specs.List.{AllByRecursion, cons_option}
use Rattle.mq_line.specs.Grammar.{Meaning}
use Rattle.mq_track.specs.Events.{event}
use Rattle.mq_track.specs.Sessions.{Transaction, login, open_transaction, begin_count, session_of, closing}
use Rattle.mq_track.specs.Sessions.{Sending, position}
use Rattle.mq_track.specs.declared.closing.Closing.{Closing}
use Rattle.mq_track.specs.declared.closing.CloseEnd.{CloseEnd}

-- a line that isn't of the session s leaves its login
abbrev pub LoginsAreApart : Type 0
LoginsAreApart = (line : Meaning) (past : List Meaning) (s : List ℕ) →
    session_of (event line) ≢ Some s → login (line ∷ past) s ≡ login past s

-- and its open transaction
abbrev pub TransactionsAreApart : Type 0
TransactionsAreApart = (line : Meaning) (past : List Meaning) (s : List ℕ) →
    session_of (event line) ≢ Some s → open_transaction (line ∷ past) s ≡ open_transaction past s

-- an open transaction has one of the numbers from 1 to the count of tx-begins
abbrev pub AreNumbered : Type 0
AreNumbered = (past : List Meaning) (s : List ℕ) (t : Transaction) →
    open_transaction past s ≡ Some t → (0 < t.txn) × (t.txn ≤ begin_count past)

-- no two sessions have a transaction of one number open
abbrev pub HaveOneSession : Type 0
HaveOneSession = (past : List Meaning) (s r : List ℕ) (t u : Transaction) →
    open_transaction past s ≡ Some t → open_transaction past r ≡ Some u → t.txn ≡ u.txn → s ≡ r

-- once a line closed a transaction, whatever lines follow, none that is open has its number
abbrev pub StayClosed : Type 0
StayClosed = (past : List Meaning) (line : Meaning) (closed : Closing) → closing past line ≡ Some closed →
    (later : List Meaning) (s : List ℕ) (t : Transaction) →
    open_transaction (later ++ line ∷ past) s ≡ Some t → t.txn ≢ closed.txn

-- an open transaction stays open, or the line closes it
abbrev pub NoneVanishes : Type 0
NoneVanishes = (past : List Meaning) (line : Meaning) (s : List ℕ) (t : Transaction) →
    open_transaction past s ≡ Some t →
    (open_transaction (line ∷ past) s ≡ Some t)
    ⊎ ((end : CloseEnd) × (closing past line ≡ Some (record { txn = t.txn; end = end })))

-- ---- all closings

-- the closings that lines bring, the newest first
abbrev pub closings : List Meaning → List Closing
closings [] = []
closings (line ∷ past) = cons_option (closing past line) (closings past)

-- none of them is of the transaction with this number
abbrev pub IsUnclosed : List Meaning → ℕ → Type 0
IsUnclosed past txn = AllByRecursion (λ closed. closed.txn ≢ txn) (closings past)

-- no session stands in a transaction that was closed
abbrev pub NoneStandsClosed : Type 0
NoneStandsClosed = (past : List Meaning) (s login : List ℕ) (txn moment : ℕ) →
    position past s ≡ Sending login txn moment → IsUnclosed past txn

-- a transaction is closed once
abbrev pub AreClosedOnce : Type 0
AreClosedOnce = (past : List Meaning) (line : Meaning) (closed : Closing) →
    closing past line ≡ Some closed → IsUnclosed past closed.txn

-- what is closed began: it has one of the numbers from 1 to the count of tx-begins
abbrev pub ClosedBegan : Type 0
ClosedBegan = (past : List Meaning) (line : Meaning) (closed : Closing) →
    closing past line ≡ Some closed → (0 < closed.txn) × (closed.txn ≤ begin_count past)
