-- What one more line makes of login and open transaction of a session.
use Rattle.std.proofs.Common.{◌≡◌, ℕ, List, [], ◌∷◌, Bool, true, false, refl, ◌∙◌}
use Rattle.std.specs.Prelude.{◌&&◌, ◌||◌, Option, None, Some, if◌then◌else◌}
use Rattle.std.specs.List.{list_any}
use Rattle.std.specs.Option.{option_or, option_and_then}
use Rattle.std.specs.Str.{bytes_eq}
use Rattle.mq_line.specs.Grammar.{Meaning}
use Rattle.mq_track.specs.Events.{Event, Passed, Began, Ended, Left, Nothing, event}
use Rattle.mq_track.specs.Sessions.{Transaction, since, leaves, begins, ends, is_named, last_name, last_begin, login, open_transaction, begin_count, opened_by, session_of}
use Rattle.mq_track.specs.Steps.{left_open}

-- ---- login

abbrev pub login_after : List ℕ → Event → Option (List ℕ) → Option (List ℕ)
login_after s (Passed session login) before = if bytes_eq session s then Some login else before
login_after s (Left session) before = if bytes_eq session s then None else before
login_after s _ before = before

or_if : {A : Type 0} (b : Bool) (x : A) (y : Option A) → option_or (if b then Some x else None) y ≡ (if b then Some x else y)
or_if true x y = refl
or_if false x y = refl

name_unless : (b : Bool) (line : Meaning) (rest : List Meaning) (s : List ℕ) → last_name s (line ∷ rest) ≡ last_name s rest → last_name s (if b then [] else line ∷ rest) ≡ (if b then None else last_name s rest)
name_unless true line rest s e = refl
name_unless false line rest s e = e

login_by : (e : Event) (line : Meaning) (rest : List Meaning) (s : List ℕ) → event line ≡ e → last_name s (if leaves s e then [] else line ∷ rest) ≡ login_after s e (last_name s rest)
login_by (Passed session login) line rest s is = rw is (or_if (bytes_eq session s) login (last_name s rest))
login_by (Began session message moment) line rest s is = rw is refl
login_by (Ended session message end) line rest s is = rw is refl
login_by (Left session) line rest s is = name_unless (bytes_eq session s) line rest s (rw is refl)
login_by Nothing line rest s is = rw is refl

-- the login after one more line
pub login-more : (line : Meaning) (past : List Meaning) (s : List ℕ) → login (line ∷ past) s ≡ login_after s (event line) (login past s)
login-more line past s = login_by (event line) line (since (λ l. leaves s (event l)) past) s refl

-- ---- open transaction

abbrev pub open_after : List ℕ → ℕ → Event → Option Transaction → Option Transaction
open_after s n (Began session message moment) before = if bytes_eq session s then Some (record { txn = n; message = message; moment = moment }) else before
open_after s n (Ended session message end) before = if bytes_eq session s then option_and_then (left_open message) before else before
open_after s n (Left session) before = if bytes_eq session s then None else before
open_after s n _ before = before

-- the open transaction, of one that began and of whether a later line ended it
abbrev still : (Transaction → Bool) → Option Transaction → Option Transaction
still ended o = option_and_then (λ t. if ended t then None else Some t) o

still-none : (o : Option Transaction) → still (λ t. false) o ≡ o
still-none None = refl
still-none (Some t) = refl

still-all : (o : Option Transaction) → still (λ t. true) o ≡ None
still-all None = refl
still-all (Some t) = refl

or_true : (b : Bool) (t : Transaction) → (if b || true then None else Some t) ≡ None
or_true true t = refl
or_true false t = refl

or_false : (b : Bool) (t : Transaction) → (if b || false then None else Some t) ≡ (if b then None else Some t)
or_false true t = refl
or_false false t = refl

or_still : (ended : Transaction → Bool) (t : Transaction) (c : Bool) → (if ended t || c then None else Some t) ≡ still ended (if c then None else Some t)
or_still ended t true = or_true (ended t) t
or_still ended t false = or_false (ended t) t

-- one more line ends it after all others
still-or : (ended earlier : Transaction → Bool) (o : Option Transaction) → still (λ t. ended t || earlier t) o ≡ still ended (still earlier o)
still-or ended earlier None = refl
still-or ended earlier (Some t) = or_still ended t (earlier t)

still-named : (b : Bool) (m : Option (List ℕ)) (o : Option Transaction) → still (λ t. b && is_named m t.message) o ≡ (if b then option_and_then (left_open m) o else o)
still-named true m o = refl
still-named false m o = still-none o

still-left : (b : Bool) (o : Option Transaction) → still (λ t. b) o ≡ (if b then None else o)
still-left true o = still-all o
still-left false o = still-none o

-- whether one of these lines ends a transaction of s
abbrev ended_in : List ℕ → List Meaning → Transaction → Bool
ended_in s lines t = list_any (λ l. ends s t.message (event l)) lines

began : (b : Bool) (line : Meaning) (rest : List Meaning) (s : List ℕ) (t : Transaction) (o : Option Transaction) → ((m : List ℕ) → ends s m (event line) ≡ false)
    → still (ended_in s (if b then [] else line ∷ rest)) (option_or (if b then Some t else None) o) ≡ (if b then Some t else still (ended_in s rest) o)
began true line rest s t o none = refl
began false line rest s t o none = simp none

open_by : (e : Event) (n : ℕ) (line : Meaning) (rest : List Meaning) (s : List ℕ) (o : Option Transaction) → event line ≡ e
    → still (ended_in s (if begins s e then [] else line ∷ rest)) (option_or (opened_by s n e) o) ≡ open_after s n e (still (ended_in s rest) o)
open_by (Passed session login) n line rest s o is = rw is refl
open_by (Began session message moment) n line rest s o is = began (bytes_eq session s) line rest s _ o (λ m. rw is refl)
open_by (Ended session message end) n line rest s o is = rw is (still-or (λ t. bytes_eq session s && is_named message t.message) (ended_in s rest) o ∙ still-named (bytes_eq session s) message (still (ended_in s rest) o))
open_by (Left session) n line rest s o is = rw is (still-or (λ t. bytes_eq session s) (ended_in s rest) o ∙ still-left (bytes_eq session s) (still (ended_in s rest) o))
open_by Nothing n line rest s o is = rw is refl

-- the open transaction after one more line
pub open-more : (line : Meaning) (past : List Meaning) (s : List ℕ) → open_transaction (line ∷ past) s ≡ open_after s (begin_count (line ∷ past)) (event line) (open_transaction past s)
open-more line past s = open_by (event line) (begin_count (line ∷ past)) line (since (λ l. begins s (event l)) past) s (last_begin s past) refl

-- ---- two sessions

login_apart : (e : Event) (session s : List ℕ) (before : Option (List ℕ)) → session_of e ≡ Some session → bytes_eq session s ≡ false → login_after s e before ≡ before
login_apart (Passed u login) session s before is n = let same : u ≡ session = cc in rw (same, n) refl
login_apart (Began u message moment) session s before is n = refl
login_apart (Ended u message end) session s before is n = refl
login_apart (Left u) session s before is n = let same : u ≡ session = cc in rw (same, n) refl
login_apart Nothing session s before is n = refl

open_apart : (e : Event) (n : ℕ) (session s : List ℕ) (before : Option Transaction) → session_of e ≡ Some session → bytes_eq session s ≡ false → open_after s n e before ≡ before
open_apart (Passed u login) n session s before is other = refl
open_apart (Began u message moment) n session s before is other = let same : u ≡ session = cc in rw (same, other) refl
open_apart (Ended u message end) n session s before is other = let same : u ≡ session = cc in rw (same, other) refl
open_apart (Left u) n session s before is other = let same : u ≡ session = cc in rw (same, other) refl
open_apart Nothing n session s before is other = refl

-- a line of one session leaves login and open transaction of every other
pub login-apart : (line : Meaning) (past : List Meaning) (session s : List ℕ) → session_of (event line) ≡ Some session → bytes_eq session s ≡ false → login (line ∷ past) s ≡ login past s
login-apart line past session s is other = login-more line past s ∙ login_apart (event line) session s (login past s) is other

pub open-apart : (line : Meaning) (past : List Meaning) (session s : List ℕ) → session_of (event line) ≡ Some session → bytes_eq session s ≡ false → open_transaction (line ∷ past) s ≡ open_transaction past s
open-apart line past session s is other = open-more line past s ∙ open_apart (event line) (begin_count (line ∷ past)) session s (open_transaction past s) is other
