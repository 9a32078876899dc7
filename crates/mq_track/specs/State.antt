-- A tracker as its callers see it: what is known of each session, and how many transactions began.
use Rattle.std.specs.Prelude.{◌≡◌, ◌<◌, ℕ, List, Option, None, unwrap_or, if◌then◌else◌}
use Rattle.std.specs.Map.{lookup}
use Rattle.std.specs.Str.{bytes_eq}
use Rattle.mq_line.specs.Grammar.{Meaning}
use Rattle.mq_track.specs.Sessions.{Transaction, Position, Unknown, LoggedIn, Sending}
use Rattle.mq_track.specs.Sessions.{login, open_transaction, begin_count}
use Rattle.mq_track.specs.declared.standing.Standing.{Standing}
use Rattle.mq_track.specs.declared.standing.Standing.TheVariants as standing

-- login and open transaction of a session
pub record Known : Type 0 where
  pub login : Option (List ℕ)
  pub transaction : Option Transaction

-- what is known of each session, and how many transactions began
pub record State : Type 0 where
  pub sessions : List (List ℕ × Known)
  pub begins : ℕ

-- neither
abbrev pub nothing : Known
nothing = record { login = None; transaction = None }

-- what is known of s: nothing where there is no record of it
abbrev pub known : List (List ℕ × Known) → List ℕ → Known
known sessions s = unwrap_or (lookup (bytes_eq s) sessions) nothing

-- this is known of s now, and what was known of each other session
abbrev pub Learns : List (List ℕ × Known) → List (List ℕ × Known) → List ℕ → Known → Type 0
Learns old new s what = (q : List ℕ) → known new q ≡ (if bytes_eq s q then what else known old q)

-- the tracker has the logins, the open transactions and the count that the past gives
pub record TracksAt (state : State) (past : List Meaning) : Type 0 where
  pub sessions : (s : List ℕ) →
      known state.sessions s ≡ record { login = login past s; transaction = open_transaction past s }
  pub begins : state.begins ≡ begin_count past

-- an answer of `standing` as a position
abbrev pub shown : Standing → Position
shown standing.Anonymous = Unknown
shown (standing.Login login) = LoggedIn login.now
shown (standing.Open login txn moment) = Sending login.now txn moment

-- numbers of transactions begin at 1
abbrev pub IsNumbered : Standing → Type 0
IsNumbered (standing.Open name txn moment) = 0 < txn
IsNumbered _ = Unit {0}
