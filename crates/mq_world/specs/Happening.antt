-- What has happened on the way from a start to a world, and that worlds are reached in which it has.
use Rattle.std.specs.Prelude.{◌≡◌, ◌<◌, ℕ, List, [], ◌∷◌, ◌++◌, count_by, is_some, slice_get, true, false, Option, None, Some}
use Rattle.std.specs.List.{list_any, AllByRecursion}
use Rattle.mq_request.specs.Same.{same_text, same_request}
use Rattle.mq_frame.specs.Spelling.{reply_body, frame, request_frame}
use Rattle.mq_request.specs.declared.message.Id.{Id}
use Rattle.mq_request.specs.declared.message.Request.{Request}
use Rattle.mq_request.specs.declared.message.Request.TheVariants.{Retire}
use Rattle.mq_request.specs.declared.message.Reply.{Reply}
use Rattle.mq_request.specs.declared.message.Reply.TheVariants.{Old, TooMany}
use Rattle.mq_ledger.specs.Day.{day_of}
use Rattle.mq_ledger.specs.History.{Transaction, requests, held, settled_in}
use Rattle.mq_ledger.specs.Legal.{Book}
use Rattle.mq_ledger.specs.Limits.{cap}
use Rattle.mq_ledger.specs.Sums.{AreDistinct}
use Rattle.mq_client.specs.Exchanges.{Exchange, decides}
use Rattle.mq_client.specs.Past.{Source, Step, drained, view}
use Rattle.mq_client.specs.Run.{Outside, EndsWith}
use Rattle.mq_client.specs.declared.filter.RunEnd.{RunEnd}
use Rattle.mq_client.specs.Numbers.{exchanges_in}
use Rattle.mq_link.specs.declared.link.LinkFault.{LinkFault}
use Rattle.mq_link.specs.declared.link.ExchangeOutcome.TheVariants.{Answered, Faulted}
use Rattle.mq_world.specs.World.{Site, World, IsStart, Next, Reaches, with_run, after_exchange, same_source, source_of}
use Rattle.mq_client.specs.declared.held_transaction.HeldTransaction.{HeldTransaction}
use Rattle.mq_world.specs.Law.{run_of, standing_of, counting, let_by, let_together}
use Rattle.mq_world.specs.Running.{ran, GoesOnAround, IsNew}
use Rattle.mq_world.specs.Forgetting.{forgotten, ReachesForgetting}
use Rattle.mq_world.specs.Together.{Together, ledgers, IsStartTogether, ReachesTogether, cap_of}
use Rattle.mq_world.specs.RunningTogether.{OthersGoOnTogether, GoesOnAmid, with_run_in}
use Rattle.mq_forget.specs.Remembered.{remembered_book}

-- ---- reaching

-- a ledger with the same zone and default that has answered nothing
abbrev pub unused : Book → Book
unused b = record { zone = b.zone; default = b.default; history = [] }

-- from a start with an unused ledger a world is reached in which it has happened
pub record IsReachable (b : Book) (Happened : Site → (start w : World) → Type 0) : Type 0 where
  pub site : Site
  pub start : World
  pub ledger : start.ledger ≡ unused b
  pub is_start : IsStart site start
  pub world : World
  pub reached : Reaches site start world
  pub happened : Happened site start world

-- ---- what was exchanged

-- the exchange of a run that ended last, where its last step has one
abbrev pub newest : List Step → Option Exchange
newest [] = None
newest (x ∷ P) = slice_get x.group 0

-- an exchange that the link failed, so that nothing decided its request
abbrev pub failed : Request → LinkFault → Exchange
failed q fault = record { request = q; outcome = Faulted fault; decided = None }

-- an exchange that brought the reply, which decided it or didn't
abbrev pub brought : Request → Reply → Option Reply → Exchange
brought q a decided = record { request = q; outcome = Answered (reply_body a); decided = decided }

-- how many times the frame of the request was sent
abbrev pub times_sent : Request → World → ℕ
times_sent q w = count_by (same_text (request_frame q)) w.sent

-- how many times the frame of the reply was written
abbrev pub times_written : Reply → World → ℕ
times_written a w = count_by (same_text (frame (reply_body a))) w.written

-- ---- what happened

-- a transaction of a filter run has let one recipient through
pub record HasLetOneThrough (site : Site) (start w : World) : Type 0 where
  pub transaction : Transaction
  pub is_run : site.is_run (run_of transaction) ≡ true
  pub is_one : let_by (standing_of w transaction) ≡ 1

-- A reply was written, and the exchange that it was for failed. Then the ledger wrote it again, and the next exchange
-- brought it: the ledger has the request once.
pub record WasAnsweredAgain (site : Site) (start w : World) : Type 0 where
  pub run : Source
  pub request : Request
  pub reply : Reply
  pub fault : LinkFault
  pub before : World
  pub reached : Reaches site start before
  pub written : times_written reply before ≡ 1
  pub lost : Next site before (with_run before run (after_exchange (failed request fault) (before.runs run)))
  pub later : Reaches site (with_run before run (after_exchange (failed request fault) (before.runs run))) w
  pub written_again : times_written reply w ≡ 2
  pub came : newest (w.runs run).past ≡ Some (brought request reply (Some reply))
  pub once : requests w.ledger.history ≡ request ∷ []

-- a frame that was sent once was taken twice and got the same reply twice: the ledger has the request once
pub record WasTakenTwice (site : Site) (start w : World) : Type 0 where
  pub request : Request
  pub reply : Reply
  pub decides_it : decides request reply ≡ true
  pub sent : times_sent request w ≡ 1
  pub written : times_written reply w ≡ 2
  pub once : requests w.ledger.history ≡ request ∷ []

-- a reply to another run, whose exchange has ended, came to a run's exchange and decided nothing
pub record CameLate (site : Site) (start w : World) : Type 0 where
  pub run : Source
  pub other : Source
  pub is_run : site.is_run run ≡ true
  pub is_other : site.is_run other ≡ true
  pub differ : same_source run other ≡ false
  pub asked : Request
  pub reply : Reply
  pub decides_it : decides asked reply ≡ true
  pub of_other : list_any (λ x. same_request x.request asked) (exchanges_in (w.runs other).past) ≡ true
  pub ended : (w.runs other).on_way ≡ None
  pub request : Request
  pub came : newest (w.runs run).past ≡ Some (brought request reply None)

-- a run stopped while an exchange of it was on its way
pub record HasStopped (site : Site) (start w : World) : Type 0 where
  pub run : Source
  pub is_run : site.is_run run ≡ true
  pub on_way : is_some (w.runs run).on_way ≡ true
  pub is_stopped : (w.runs run).is_stopped ≡ true

-- A run held what one of its transactions had let through, and someone else retired the run: that is settled. The run
-- closed the transaction then, and its closing got Old, so that it waits no longer. What was let through counts still.
pub record WasRetired (site : Site) (start w : World) : Type 0 where
  pub transaction : Transaction
  pub is_run : site.is_run (run_of transaction) ≡ true
  pub before : World
  pub reached : Reaches site start before
  pub held_before : held before.ledger.history transaction ≡ 1
  pub by : Id
  pub is_other : site.is_run (source_of by) ≡ false
  pub later : Reaches site before w
  pub retired : requests w.ledger.history ≡ requests before.ledger.history ++ Retire by ∷ []
  pub settled : settled_in w.ledger.history transaction ≡ 1
  pub closing : Request
  pub id : Id
  pub came : newest (w.runs (run_of transaction)).past ≡ Some (brought closing (Old id) (Some (Old id)))
  pub none_waits : (view (run_of transaction) (w.runs (run_of transaction)).past).waiting ≡ []
  pub is_one : let_by (standing_of w transaction) ≡ 1

-- A run held back at the line that closed a transaction: its input ended before the closing was sent, which waited.
-- Then it was sent, the ledger settled it, and none waits.
pub record WasHeldBack (site : Site) (start w : World) : Type 0 where
  pub transaction : Transaction
  pub is_run : site.is_run (run_of transaction) ≡ true
  pub closing : Request
  pub before : World
  pub reached : Reaches site start before
  pub is_at_end : (before.runs (run_of transaction)).is_at_end ≡ true
  pub unsent : times_sent closing before ≡ 0
  pub waits : (view (run_of transaction) (before.runs (run_of transaction)).past).waiting ≡ closing ∷ []
  pub later : Reaches site before w
  pub none_waits : (view (run_of transaction) (w.runs (run_of transaction)).past).waiting ≡ []
  pub settled : settled_in w.ledger.history transaction ≡ 1
  pub is_one : let_by (standing_of w transaction) ≡ 1

-- A transaction of a run let one recipient through, and the ledger forgot its day: it held one of it, and then it had
-- neither held nor settled any. The run went on, and let one through in a transaction of the first day that isn't
-- forgotten. Then the ledger took a frame of the forgotten reserve again, and applied it once more.
pub record WentOnThoughForgotten (site : Site) (start w : World) : Type 0 where
  pub earlier : Transaction
  pub is_run : site.is_run (run_of earlier) ≡ true
  pub held_before : held w.ledger.history earlier ≡ 1
  pub reserve : Request
  pub had : requests w.ledger.history ≡ reserve ∷ []
  pub day : ℕ
  pub held_no_more : held (forgotten day w).ledger.history earlier ≡ 0
  pub settled_none : settled_in (forgotten day w).ledger.history earlier ≡ 0
  pub let_still : let_by (standing_of (forgotten day w) earlier) ≡ 1
  pub now : World
  pub went_on : Reaches site (forgotten day w) now
  pub reached : ReachesForgetting site start day now
  pub transaction : Transaction
  pub same_run : run_of transaction ≡ run_of earlier
  pub asked : HeldTransaction
  pub counts : counting (standing_of now transaction) ≡ Some asked
  pub is_one : asked.granted ≡ 1
  pub is_first_day : day_of now.ledger.zone asked.moment ≡ day
  pub request : Request
  pub taken_again : requests now.ledger.history ≡ request ∷ reserve ∷ []

-- A run let one recipient through, and the ledger forgot that day. Then it let the run have the day once more: what its
-- transactions of that day let through together passes the limit.
pub record PassedOnAForgottenDay (site : Site) (start w : World) : Type 0 where
  pub day : ℕ
  pub over : ℕ
  pub is_earlier : over < day
  pub now : World
  pub went_on : Reaches site (forgotten day w) now
  pub reached : ReachesForgetting site start day now
  pub login : List ℕ
  pub transactions : List Transaction
  pub distinct : AreDistinct transactions
  pub passes : cap now.ledger.default now.ledger.history login over < let_together now login over transactions

-- A run of a filter, as its contract has it, read its input to the end: one recipient was asked for, which others took
-- and granted while the exchange was on its way, and that is written. It let one recipient through.
pub record HasRunToItsEnd (site : Site) (start w : World) : Type 0 where
  pub transaction : Transaction
  pub before : Outside
  pub bytes : List ℕ
  pub after : Outside
  pub ended : RunEnd
  pub ends : EndsWith before bytes after ended
  pub is_new : IsNew site start (run_of transaction) before.client
  pub later : World
  pub around : GoesOnAround site (run_of transaction) start (exchanges_in (drained ends.group ends.steps)) later
  pub is_then : w ≡ with_run later (run_of transaction) (ran ends.after_ready (drained ends.group ends.steps) true)
  pub answers : ended.answers ≡ 1
  pub is_one : let_by (standing_of w transaction) ≡ 1

-- ---- with two servers

-- from a start with two unused ledgers, the first at the address, worlds are reached in which it has happened
pub record IsReachableTogether (a b : Book) (Happened : Site → (start c : Together) → Type 0) : Type 0 where
  pub site : Site
  pub start : Together
  pub ledgers : ledgers start ≡ unused a ∷ unused b ∷ []
  pub is_start : IsStartTogether site start
  pub now : Together
  pub reached : ReachesTogether site start 0 now
  pub happened : Happened site start now

-- Each of the ledgers granted one recipient of a transaction of a run, which was committed then. Its settle got
-- TooMany, so that it waits no longer, and each ledger holds what it granted still.
pub record WasSplit (site : Site) (start c : Together) : Type 0 where
  pub transaction : Transaction
  pub is_run : site.is_run (run_of transaction) ≡ true
  pub asked : HeldTransaction
  pub counts : counting (standing_of c.world transaction) ≡ Some asked
  pub are_two : asked.granted ≡ 2
  pub closing : Request
  pub id : Id
  pub came : newest (c.world.runs (run_of transaction)).past ≡ Some (brought closing (TooMany id 1) (Some (TooMany id 1)))
  pub none_waits : (view (run_of transaction) (c.world.runs (run_of transaction)).past).waiting ≡ []
  pub hold : AllByRecursion (λ b. held b.history transaction ≡ 1) (ledgers c)

-- The frame of a reserve was sent once. Each of the ledgers took it and granted it, as the address moved while its
-- exchange was on its way, and both replies were written: one recipient was let through, and each ledger holds one.
pub record WasGrantedByEach (site : Site) (start c : Together) : Type 0 where
  pub transaction : Transaction
  pub is_run : site.is_run (run_of transaction) ≡ true
  pub reserve : Request
  pub reply : Reply
  pub sent : times_sent reserve c.world ≡ 1
  pub written : times_written reply c.world ≡ 2
  pub decides_it : decides reserve reply ≡ true
  pub had : AllByRecursion (λ b. requests b.history ≡ reserve ∷ []) (ledgers c)
  pub is_one : let_by (standing_of c.world transaction) ≡ 1
  pub hold : AllByRecursion (λ b. held b.history transaction ≡ 1) (ledgers c)

-- what some transactions of a login and day let through passes the limit of each ledger
pub record PassedEachLimit (site : Site) (start c : Together) : Type 0 where
  pub login : List ℕ
  pub day : ℕ
  pub transactions : List Transaction
  pub distinct : AreDistinct transactions
  pub passes : AllByRecursion (λ b. cap_of login day b < let_together c.world login day transactions) (ledgers c)

-- A run of a filter, as its contract has it, read its input to the end. While its one exchange was on its way the first
-- server granted the recipient, then it forgot the days before this one, and the address moved to the second server, which
-- had taken nothing. One recipient was let through.
pub record RanOverANight (a b : Book) (day : ℕ) : Type 0 where
  pub site : Site
  pub start : Together
  pub at_first : ledgers start ≡ unused a ∷ unused b ∷ []
  pub is_start : IsStartTogether site start
  pub transaction : Transaction
  pub before : Outside
  pub bytes : List ℕ
  pub after : Outside
  pub ended : RunEnd
  pub ends : EndsWith before bytes after ended
  pub is_new : IsNew site start.world (run_of transaction) before.client
  pub later : Together
  pub around : GoesOnAmid (OthersGoOnTogether site (run_of transaction) day) start (exchanges_in (drained ends.group ends.steps)) later
  pub granting : Book
  pub reserve : Request
  pub had : requests granting.history ≡ reserve ∷ []
  pub at_last : ledgers later ≡ unused b ∷ remembered_book day granting ∷ []
  pub now : Together
  pub is_then : now ≡ with_run_in later (run_of transaction) (ran ends.after_ready (drained ends.group ends.steps) true)
  pub reached : ReachesTogether site start day now
  pub is_one : let_by (standing_of now.world transaction) ≡ 1
