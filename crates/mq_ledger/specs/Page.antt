-- A page of the logins of a day.
use Rattle.std.specs.Prelude.{◌≡◌, ℕ, ◌≤◌, List, [], ◌∷◌, length, take, filter, fold, Bool, true, false, ◌==◌}
use Rattle.std.specs.Prelude.{if◌then◌else◌, Option, Some, None, Contains, All, ◌⊎◌}
use Rattle.std.specs.List.{filter_map, AllByRecursion, list_any}
use Rattle.std.specs.Ordering.{nat_cmp, is_lt}
use Rattle.std.specs.Cmp.Lexicographic.{slice_cmp}
use Rattle.mq_request.specs.declared.message.Request.{Request}
use Rattle.mq_request.specs.declared.message.Request.TheVariants.{Reserve}
use Rattle.mq_request.specs.declared.message.Reply.{Reply}
use Rattle.mq_request.specs.declared.message.Reply.TheVariants.{Granted}
use Rattle.mq_request.specs.declared.usage.UsageRow.{UsageRow}
use Rattle.mq_request.specs.Same.{same_text}
use Rattle.mq_ledger.specs.declared.entry.Entry.{Entry}
use Rattle.mq_ledger.specs.History.{settled, reserved}
use Rattle.mq_ledger.specs.Limits.{cap}

-- the login stands before the other in byte order
abbrev pub below : List ℕ → List ℕ → Bool
below l m = is_lt (slice_cmp nat_cmp l m)

-- the login of a granted reserve of that day
abbrev pub login_on : (ℕ → ℕ) → ℕ → Request → Reply → Option (List ℕ)
login_on day d (Reserve id txn moment login count) (Granted id' used) = if day moment == d then Some login else None
login_on day d _ _ = None

-- the logins of the granted reserves of that day, in order of arrival
abbrev pub logins_on : (ℕ → ℕ) → List Entry → ℕ → List (List ℕ)
logins_on day H d = filter_map (λ e. login_on day d e.request e.reply) H

-- the login in its place among ascending ones, where it isn't there yet
abbrev pub put : List (List ℕ) → List ℕ → List (List ℕ)
put [] l = l ∷ []
put (m ∷ ms) l = if below l m then l ∷ m ∷ ms else (if below m l then m ∷ put ms l else m ∷ ms)

-- the same logins in byte order, each once
abbrev pub ascending : List (List ℕ) → List (List ℕ)
ascending ls = fold put [] ls

-- the login, or one that was found before it where that is no later
abbrev pub nearer : Option (List ℕ) → List ℕ → List ℕ
nearer None l = l
nearer (Some m) l = if below l m then l else m

-- the logins above `after` that have a granted reserve on that day, in byte order
unfoldable pub logins_above : (ℕ → ℕ) → List Entry → ℕ → List ℕ → List (List ℕ)
logins_above day H d after = ascending (filter (below after) (logins_on day H d))

-- the first hundred of them
unfoldable pub page : (ℕ → ℕ) → List Entry → ℕ → List ℕ → List (List ℕ)
page day H d after = take 100 (logins_above day H d after)

-- a login's numbers on that day
abbrev pub row : (ℕ → ℕ) → ℕ → List Entry → ℕ → List ℕ → UsageRow
row day default H d l =
    record { login = l; settled = settled day H l d; reserved = reserved day H l d; cap = cap default H l d }

-- each login is below all that follow it
abbrev pub IsAscending : List (List ℕ) → Type 0
IsAscending [] = Unit {0}
IsAscending (l ∷ ls) = AllByRecursion (λ m. below l m ≡ true) ls × IsAscending ls

-- the login is there and is that one
abbrev pub is_login : List ℕ → Option (List ℕ) → Bool
is_login l None = false
is_login l (Some m) = same_text l m

-- the login has a granted reserve on that day
abbrev pub has_reserve : (ℕ → ℕ) → List Entry → ℕ → List ℕ → Bool
has_reserve day H d l = list_any (λ e. is_login l (login_on day d e.request e.reply)) H

-- they are logins above `after` that have a granted reserve on that day, ascending, at most a
-- hundred; a login that is left out is above a hundred that are there
pub record IsLoginPage (day : ℕ → ℕ) (H : List Entry) (d : ℕ) (after : List ℕ) (ls : List (List ℕ)) : Type 0 where
  pub ascending : IsAscending ls
  pub above : All (λ l. below after l ≡ true) ls
  pub there : All (λ l. has_reserve day H d l ≡ true) ls
  pub few : length ls ≤ 100
  pub first : (l : List ℕ) → below after l ≡ true → has_reserve day H d l ≡ true →
      Contains ls l ⊎ ((length ls ≡ 100) × All (λ m. below m l ≡ true) ls)
