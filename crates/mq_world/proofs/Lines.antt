-- What the lines that a run read have it ask for is in range.
use Rattle.mq_world.proofs.Words.{Action, AreNumbered, Ask, Asks, Bool, Closing, FilterLine, IsOrdinal, List, Meaning, None, Option, Passes, Position, Refuses, Some, Step, action_of, actions, arith, asking_of, begin_count, close_of, closing, false, fault, first_so, if◌then◌else◌}
use Rattle.mq_world.proofs.Words.{is_begin, is_exhausted, is_login, is_moment, login, nat_le, nat_tests, none_some, open_transaction, option_map, option_or, position, position_of, push, query_at, refl, second_so, some_is, subst, sym, true, ℕ, ◌&&◌, ◌+◌, ◌∷◌, ◌≡◌, ◌≤◌}
use Rattle.mq_track.specs.Events.{event, unreadable}
use Rattle.mq_track.specs.Sessions.{Transaction}
use Rattle.mq_track.specs.declared.fault.TrackFault.TheVariants.{Exhausted}
use Rattle.mq_world.specs.World.{begun}
use Rattle.mq_world.proofs.Ranges.{IsAsked, within}

-- ---- how many transactions began

or_none : {A : Type 0} (o p : Option A) → option_or o p ≡ None → p ≡ None
or_none None p e = e
or_none (Some x) p e = absurd (none_some x (sym e))

not_exhausted : (b : Bool) → (if b then Some Exhausted else None) ≡ None → b ≡ false
not_exhausted true e = absurd (none_some Exhausted (sym e))
not_exhausted false e = refl

count_more : (b : Bool) (n : ℕ) → (b && nat_le 4294967295 n) ≡ false → n ≤ 4294967295 → (if b then n + 1 else n) ≤ 4294967295
count_more true n e le = grind (arith, nat_tests, e)
count_more false n e le = le

pub counted : (L : List Meaning) (line : Meaning) → fault L line ≡ None → begin_count L ≤ 4294967295 → begin_count (line ∷ L) ≤ 4294967295
counted L line e le = count_more (is_begin (event line)) (begin_count L) (not_exhausted (is_exhausted (begin_count L) (event line)) (or_none (unreadable line) _ e)) le

-- ---- what is asked for

asked_at : (b : Bool) (txn moment : ℕ) (login : List ℕ) (a : Action) → (b ≡ true → IsAsked (Ask txn moment login)) → asking_of (if b then Asks txn moment login else Refuses) ≡ Some a → IsAsked a
asked_at true txn moment login a f e = subst IsAsked (some_is (Ask txn moment login) a e) (f refl)
asked_at false txn moment login a f e = absurd (none_some a e)

asked_by : (o : Option (List ℕ)) (t : Option Transaction) (a : Action) → ((u : Transaction) → t ≡ Some u → IsOrdinal u.txn) → asking_of (query_at (position_of o t)) ≡ Some a → IsAsked a
asked_by None t a f e = absurd (none_some a e)
asked_by (Some name) None a f e = absurd (none_some a e)
asked_by (Some name) (Some u) a f e = asked_at (is_login name && is_moment u.moment) u.txn u.moment name a (λ y. (f u refl, within (second_so (is_login name) _ y), within (first_so (is_login name) _ y))) e

asked_if : (b : Bool) (p : Position) (a : Action) → (asking_of (query_at p) ≡ Some a → IsAsked a) → asking_of (if b then query_at p else Passes) ≡ Some a → IsAsked a
asked_if true p a f e = f e
asked_if false p a f e = absurd (none_some a e)

closed_by : (o : Option Closing) (a : Action) → option_map close_of o ≡ Some a → IsAsked a
closed_by None a e = absurd (none_some a e)
closed_by (Some c) a e = subst IsAsked (some_is (close_of c) a e) tt

-- an open transaction has a number in range
numbered : AreNumbered → (L : List Meaning) (session : List ℕ) → begin_count L ≤ 4294967295 → (u : Transaction) → open_transaction L session ≡ Some u → IsOrdinal u.txn
numbered N L session le u e = let n = N L session u e in record { from = (let a = n.0 in omega (arith, a)); to = (let b = n.1 in omega (arith, b, le)) }

pub line_asks : AreNumbered → (L : List Meaning) (line : Meaning) (a : Action) → begin_count L ≤ 4294967295 → action_of L line ≡ Some a → IsAsked a
line_asks N L (FilterLine seconds subsystem phase session token rest) a le e =
    asked_if _ (position L session) a (asked_by (login L session) (open_transaction L session) a (numbered N L session le)) e
line_asks N L line a le e = closed_by (closing L line) a e

-- ---- the steps' actions

pub push_actions : (quiet : Bool) (o : Option Action) (P : List Step) → actions (push (option_map (begun quiet) o) P) ≡ push o (actions P)
push_actions quiet None P = refl
push_actions quiet (Some a) P = refl
