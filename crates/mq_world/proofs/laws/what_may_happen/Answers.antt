-- A world of two runs, step by step.
use Rattle.mq_world.proofs.Words.{All-from_recursion, AllByRecursion, Answered, Ask, Book, Bool, ByOffset, Close, Drain, RunEnd, EndsWith, Exchange, FilterLine, Filters, HeldTransaction, Id, IsCount, IsHost, IsHostByte, IsId, IsLegalBook, IsMoment, IsOffset, IsOrdinal, IsPlayed, IsRead, IsReady, IsReply}
use Rattle.mq_world.proofs.Words.{IsRequest, IsRun, IsStamp, IsTry, IsZone, List, MakesAll, Meaning, None, NoneYet, Outside, Reply, ReportLine, Request, Retire, SendsAll, SendsUpTo, Settle, Some, Source, SpellsReply, State, Step, TimedOut, Transaction, [], all_of, ap, arith, cap}
use Rattle.mq_world.proofs.Words.{clash, clock, codes, count_by, day_of, decides, drained, either, either_of, exchanges_in, false, fault, floor, frame, held, id_of, if◌then◌else◌, inl, inr, ledger_reply, length, list_any, nat_le, nat_lt, nat_tests, ne_eqb, nothing_held, number_is}
use Rattle.mq_world.proofs.Words.{number_itself, pos, refl, reply_body, request_body, request_frame, requests, reserve_of, same_text, settled_in, slice_get, some_is, subst, sym, told_steps, true, ℕ, ℤ, ◌*◌, ◌++◌, ◌+◌, ◌<ℤ◌, ◌<◌, ◌==◌, ◌||◌, ◌∙◌, ◌∷◌, ◌≡◌, ◌≢◌, ◌≤ℤ◌, ◌≤◌}
use Rattle.mq_ledger.proofs.Basics.{none_passes}
use Rattle.mq_ledger.proofs.Transactions.{entry}
use Rattle.mq_world.proofs.Ranges.{within}
use Rattle.std.proofs.lemmas.Int.{ints}
use Rattle.mq_line.specs.Results.{registration, result_text}
use Rattle.mq_line.specs.Text.{IsLine, text_of}
use Rattle.mq_line.specs.declared.results.Decision.TheVariants.{Proceed}
use Rattle.mq_request.specs.declared.message.Reply.TheVariants.{Granted, Old, Retired, Settled, TooMany}
use Rattle.mq_client.proofs.Making as making
use Rattle.mq_client.proofs.Looping.{makes_none, makes_push}
use Rattle.mq_client.proofs.Reasoning.{reasoned}
use Rattle.mq_client.specs.Past.{find}
use Rattle.mq_track.specs.declared.closing.CloseEnd.TheVariants as ending
use Rattle.mq_world.specs.World.{Site, World, fresh, MayCome, next_request, IsStart, after_line, after_end, with_on_way, after_exchange, after_stop, same_source, with_run, with_sent, after_arrival, reply_from, Next, Reads, ReadsEnd, Sends, Ends, Takes, OthersSend, Stops, Reaches, AtOnce, Later, IsOfOthers, IsFrameOfOthers, source_of}
use Rattle.mq_world.specs.Happening.{unused, times_written, IsReachable, failed, brought, HasLetOneThrough, WasAnsweredAgain, WasTakenTwice, CameLate, HasStopped, HasRunToItsEnd, WasRetired, WasHeldBack, WentOnThoughForgotten, PassedOnAForgottenDay, IsReachableTogether, WasGrantedByEach, WasSplit, PassedEachLimit, RanOverANight}
use Rattle.mq_world.specs.RunningTogether.{OthersGoOnTogether, StillThere, WorldSteps, AddressMoves, LedgerForgets, GoesOnAmid, OthersAlone, OneMoreExchange, with_run_in, with_world}
use Rattle.mq_world.specs.Law.{let_together}
use Rattle.mq_world.specs.Running.{ran, step_of, OthersGoOn, NobodyYet, OneStep, GoesOnAround, Before, During, IsNew}
use Rattle.mq_world.specs.Forgetting.{forgotten, ReachesForgetting, FromStart, Forgets}
use Rattle.mq_world.specs.Together.{Together, with_ledger, IsStartTogether, ReachesTogether}
use Rattle.mq_world.specs.Together as servers
use Rattle.mq_world.proofs.Ways.{joined, with_steps, with_steps_together}
use Rattle.mq_world.proofs.Worlds.{source_is}
use Rattle.mq_world.proofs.laws.what_may_happen.Goals as goal

-- ---- the site: a run of each of two hosts

abbrev pub here : Source
here = record { host = codes "a"; run = 1 }

abbrev pub there : Source
there = record { host = codes "b"; run = 1 }

abbrev pub site : Site
site = record { is_run = λ s. same_source here s || same_source there s; tries = λ s. 3 }

-- ---- the mail: a login, the beginning of a transaction, a recipient

abbrev pub noon : ℕ
noon = 1700000000

-- two days after noon
abbrev pub afterwards : ℕ
afterwards = 1700172800

abbrev pub login_line : List ℕ → ℕ → Meaning
login_line session moment = ReportLine moment (codes "smtp-in") (codes "link-auth") session (codes "pass|u")

abbrev pub begin_line : (session message : List ℕ) → ℕ → Meaning
begin_line session message moment = ReportLine moment (codes "smtp-in") (codes "tx-begin") session message

abbrev pub recipient_line : List ℕ → ℕ → Meaning
recipient_line session moment = FilterLine moment (codes "smtp-in") (codes "rcpt-to") session (codes "t") (codes "r")

abbrev pub commit_line : Meaning
commit_line = ReportLine noon (codes "smtp-in") (codes "tx-commit") (codes "s") (codes "m")

-- all lines of a session up to its recipient, the newest first
abbrev pub mail_lines : (session message : List ℕ) → ℕ → List Meaning
mail_lines session message moment = recipient_line session moment ∷ begin_line session message moment ∷ login_line session moment ∷ []

-- the transactions of the first run
abbrev pub mail : ℕ → Transaction
mail txn = record { host = codes "a"; run = 1; txn = txn }

-- ---- what is sent and replied

abbrev pub request : Source → Request
request s = reserve_of s 1 1 noon (codes "u")

-- one recipient more, under the second number of the first run
abbrev pub second_request : (txn moment : ℕ) → Request
second_request txn moment = reserve_of here 2 txn moment (codes "u")

-- one recipient was granted under this number
abbrev pub granting : ℕ → Reply
granting number = Granted (id_of here number) 1

abbrev pub reply : Reply
reply = granting 1

-- the commit of the first transaction with so many recipients
abbrev pub settle : (number count : ℕ) → Request
settle number count = Settle (id_of here number) 1 noon (codes "u") count

-- the retire of the first run, under a number of another one of its host
abbrev pub retire_id : Id
retire_id = record { host = codes "a"; run = 2; number = 1 }

-- an exchange that the reply decided
abbrev pub decided : Request → Reply → Exchange
decided q a = brought q a (Some a)

abbrev pub lost : Exchange
lost = failed (request here) TimedOut

abbrev pub answered : Exchange
answered = decided (request here) reply

abbrev pub late : Exchange
late = brought (request there) reply None

-- ---- the worlds

abbrev pub reads : World → Source → (quiet : Bool) → Meaning → World
reads w s quiet line = with_run w s (after_line quiet line (w.runs s))

abbrev pub asks : World → Source → (session message : List ℕ) → ℕ → World
asks w s session message moment = reads (reads (reads w s false (login_line session moment)) s false (begin_line session message moment)) s false (recipient_line session moment)

abbrev pub sends : World → Source → Request → World
sends w s q = with_sent (with_run w s (with_on_way (Some q) (w.runs s))) (request_frame q)

abbrev pub ends : World → Source → Exchange → World
ends w s x = with_run w s (after_exchange x (w.runs s))

-- the first run sends the request, the ledger takes it, and the reply decides it
abbrev pub exchanged : World → Request → Reply → World
exchanged w q a = ends (after_arrival (sends w here q) q) here (decided q a)

abbrev pub takes : World → World
takes w = after_arrival w (request here)

abbrev pub start : Book → World
start b = record { runs = λ s. fresh; ledger = unused b; sent = []; written = [] }

-- the first run's frame is on its way, and taken
abbrev pub asked : Book → World
asked b = sends (asks (start b) here (codes "s") (codes "m") noon) here (request here)

abbrev pub taken : Book → World
taken b = takes (asked b)

-- its reply is lost, and the frame is sent and taken again
abbrev pub granted : Book → World
granted b = exchanged (ends (taken b) here lost) (request here) reply

-- the other run asks, and gets that reply
abbrev pub asked_there : Book → World
asked_there b = sends (asks (granted b) there (codes "s") (codes "m") noon) there (request there)

-- someone retires the first run, which closes its transaction then
abbrev pub retired : Book → World
retired b = after_arrival (with_sent (granted b) (request_frame (Retire retire_id))) (Retire retire_id)

abbrev pub given_up : Book → World
given_up b = exchanged (reads (retired b) here false commit_line) (settle 2 1) (Old (id_of here 2))

-- the first run holds back at the commit, and sends the closing at the end of its input
abbrev pub held_back : Book → World
held_back b = reads (granted b) here true commit_line

abbrev pub at_end : Book → World
at_end b = with_run (held_back b) here (after_end ((held_back b).runs here))

abbrev pub settled_at_end : Book → World
settled_at_end b = exchanged (at_end b) (settle 2 1) (Settled (id_of here 2) 1)

-- the ledger has no answer, once all that it has is forgotten, and a second session of the first run asks
abbrev pub cleared : Book → World
cleared b = with_ledger (unused b) (granted b)

abbrev pub granted_at : ℕ → Book → World
granted_at moment b = exchanged (asks (cleared b) here (codes "v") (codes "n") moment) (second_request 2 moment) (granting 2)

-- the address moves to a second server, which grants a second recipient, and finds too little at the commit
abbrev pub granted_more : Book → Book → World
granted_more a b = exchanged (reads (with_ledger (unused b) (granted a)) here false (recipient_line (codes "s") noon)) (second_request 1 noon) (granting 2)

abbrev pub split : Book → Book → World
split a b = exchanged (reads (granted_more a b) here false commit_line) (settle 3 2) (TooMany (id_of here 3) 1)

-- it moves while an exchange is on its way, whose frame that server takes too
abbrev pub granted_there : Book → Book → World
granted_there a b = ends (takes (with_ledger (unused b) (taken a))) here answered

-- ---- in range

-- a run of the site, whose host is one letter
host_of : (letter : ℕ) → IsHostByte letter → (s : Source) → same_source (record { host = letter ∷ []; run = 1 }) s ≡ true → IsHost s.host × IsRun s.run
host_of letter is s e = subst (λ u. IsHost u.host × IsRun u.run) (source_is (record { host = letter ∷ []; run = 1 }) s e) (
  record { size = within refl; bytes = All-from_recursion IsHostByte (letter ∷ []) (is, tt) },
  within refl,
)

here_range : (s : Source) → same_source here s ≡ true → IsHost s.host × IsRun s.run
here_range s e = host_of 97 (inr (inr (inl (within refl)))) s e

hosts : (s : Source) → site.is_run s ≡ true → IsHost s.host × IsRun s.run
hosts s e = elim (either_of (same_source here s) (same_source there s) e) [
  | inl h ↦ here_range s h
  | inr t ↦ host_of 98 (inr (inr (inl (within refl)))) s t
]

id_range : (number : ℕ) → IsOrdinal number → IsId (id_of here number)
id_range number is = let h = here_range here refl in record { host = h.0; run = h.1; number = is }

reserve_range : (number txn moment : ℕ) → IsOrdinal number → IsOrdinal txn → IsMoment moment → IsRequest (reserve_of here number txn moment (codes "u"))
reserve_range number txn moment is txn_is moment_is = (id_range number is, txn_is, moment_is, within refl, within refl)

settle_range : (number count : ℕ) → IsOrdinal number → IsCount count → IsRequest (settle number count)
settle_range number count is count_is = (id_range number is, within refl, within refl, within refl, count_is)

granting_range : (number : ℕ) → IsOrdinal number → IsReply (granting number)
granting_range number is = (id_range number is, within refl)

request_range : IsRequest (request here)
request_range = reserve_range 1 1 noon (within refl) (within refl) (within refl)

retire_range : IsRequest (Retire retire_id)
retire_range = record { host = (here_range here refl).0; run = within refl; number = within refl }

is_start : (b : Book) → IsLegalBook (unused b) → IsStart site (start b)
is_start b legal = record { hosts = hosts; runs = λ s. refl; ledger = legal; entries = tt; sent = tt; written = tt }

-- ---- the ledger's replies, and what it has then

-- an unused ledger grants one recipient where its default is at least one
grants : (number txn moment : ℕ) (b : Book) → 1 ≤ b.default → reply_from (unused b) (reserve_of here number txn moment (codes "u")) ≡ granting number
unfolding floor
grants number txn moment b le = let enough : nat_lt b.default 1 ≡ false = grind (arith, nat_tests, le) in rw enough refl

-- of the first run's request it has the entry once, however often that is taken
first_entry : (b : Book) → 1 ≤ b.default → (granted b).ledger.history ≡ entry (request here) reply ∷ []
unfolding floor
first_entry b le = ap (λ a. entry (request here) a ∷ []) (grants 1 1 noon b le)

given_up_entries : (b : Book) → 1 ≤ b.default → (given_up b).ledger.history ≡ entry (request here) reply ∷ entry (Retire retire_id) (Retired retire_id) ∷ []
unfolding floor
given_up_entries b le = ap (λ a. entry (request here) a ∷ entry (Retire retire_id) (Retired retire_id) ∷ []) (grants 1 1 noon b le)

settled_reply : (b : Book) → 1 ≤ b.default → reply_from (granted b).ledger (settle 2 1) ≡ Settled (id_of here 2) 1
unfolding floor
settled_reply b le = ap (λ H. ledger_reply (day_of b.zone) b.default H (settle 2 1)) (first_entry b le)

settled_entries : (b : Book) → 1 ≤ b.default → (settled_at_end b).ledger.history ≡ entry (request here) reply ∷ entry (settle 2 1) (Settled (id_of here 2) 1) ∷ []
unfolding floor
settled_entries b le = λ i. entry (request here) (grants 1 1 noon b le i) ∷ entry (settle 2 1) (settled_reply b le i) ∷ []

too_many : (a b : Book) → 1 ≤ b.default → reply_from (granted_more a b).ledger (settle 3 2) ≡ TooMany (id_of here 3) 1
unfolding floor
too_many a b le = ap (λ x. ledger_reply (day_of b.zone) b.default (entry (second_request 1 noon) x ∷ []) (settle 3 2)) (grants 2 1 noon b le)

split_entries : (a b : Book) → 1 ≤ b.default → (split a b).ledger.history ≡ entry (second_request 1 noon) (granting 2) ∷ entry (settle 3 2) (TooMany (id_of here 3) 1) ∷ []
unfolding floor
split_entries a b le = λ i. entry (second_request 1 noon) (grants 2 1 noon b le i) ∷ entry (settle 3 2) (too_many a b le i) ∷ []

-- the frame of its reply is written for each frame that it takes
each_written : (a b : Reply) → a ≡ reply → b ≡ reply → count_by (same_text (frame (reply_body reply))) (frame (reply_body a) ∷ frame (reply_body b) ∷ []) ≡ 2
each_written a b e f = λ i. count_by (same_text (frame (reply_body reply))) (frame (reply_body (e i)) ∷ frame (reply_body (f i)) ∷ [])

written_twice : (b : Book) → 1 ≤ b.default → times_written reply (takes (taken b)) ≡ 2
unfolding floor
written_twice b le = let e = grants 1 1 noon b le in each_written _ _ e e

-- ---- one step more

reading : {first w : World} → (s : Source) (quiet : Bool) (line : Meaning) → Reaches site first w → site.is_run s ≡ true → (w.runs s).is_stopped ≡ false → (w.runs s).is_at_end ≡ false → (w.runs s).on_way ≡ None
    → fault (w.runs s).lines line ≡ None → IsPlayed s 3 (w.runs s).past → Reaches site first (reads w s quiet line)
reading s quiet line r run up before none ok played = Later _ _ r (Reads s line quiet (record { up = record { is_run = run; is_up = up }; before_end = before; none_on_way = none; played = played }) ok)

sending : {first w : World} → (s : Source) (q : Request) → Reaches site first w → site.is_run s ≡ true → (w.runs s).is_stopped ≡ false → (w.runs s).on_way ≡ None → next_request s 3 (w.runs s).past ≡ Some q → Reaches site first (sends w s q)
sending s q r run up none turn = Later _ _ r (Sends s q (record { is_run = run; is_up = up }) none turn)

taking : {first w : World} → (which : ℕ) (q : Request) → Reaches site first w → slice_get w.sent which ≡ Some (request_frame q) → IsRequest q → Reaches site first (after_arrival w q)
taking which q r was_sent range = Later _ _ r (Takes which (request_body q) q was_sent (record { bytes = refl; in_range = range }))

-- what the ledger replied to a request, as the last reply that was written
newest_written : (w : World) (q : Request) (a : Reply) → reply_from w.ledger q ≡ a → MayCome (after_arrival w q).written (Answered (reply_body a))
newest_written w q a is = inr (inr (0, ap (λ x. Some (frame (reply_body x))) is))

-- the end of an exchange of the first run, once the ledger took its request, and a whole exchange
answering : {first : World} → (w : World) (q : Request) (a : Reply) → Reaches site first (after_arrival w q) → (w.runs here).is_stopped ≡ false → (w.runs here).on_way ≡ Some q → reply_from w.ledger q ≡ a → IsReply a → decides q a ≡ true
    → Reaches site first (ends (after_arrival w q) here (decided q a))
answering w q a r up on replied range decide = Later _ _ r (Ends here (decided q a) (record { is_run = refl; is_up = up }) on (newest_written w q a replied) (record { bytes = refl; in_range = range }, decide))

exchanging : {first w : World} → (q : Request) (a : Reply) → Reaches site first w → (w.runs here).is_stopped ≡ false → (w.runs here).on_way ≡ None → next_request here 3 (w.runs here).past ≡ Some q → IsRequest q → reply_from w.ledger q ≡ a → IsReply a
    → decides q a ≡ true → Reaches site first (exchanged w q a)
exchanging {w = w} q a r up none turn range replied fits decide = answering (sends w here q) q a (taking 0 q (sending here q r refl up none turn) refl range) up refl replied fits decide

-- ---- the ways to these worlds

-- of a reply's spelling there is one reply
abbrev pub OneReply : Type 0
OneReply = (body : List ℕ) (a c : Reply) → SpellsReply body a → SpellsReply body c → a ≡ c

to_asked : (b : Book) → Reaches site (start b) (asked b)
to_asked b =
    let login = reading here false (login_line (codes "s") noon) AtOnce refl refl refl refl refl tt in
    let begin = reading here false (begin_line (codes "s") (codes "m") noon) login refl refl refl refl refl tt in
    sending here (request here) (reading here false (recipient_line (codes "s") noon) begin refl refl refl refl refl tt) refl refl refl refl

to_taken : (b : Book) → Reaches site (start b) (taken b)
to_taken b = taking 0 (request here) (to_asked b) refl request_range

loses : (b : Book) → Next site (taken b) (ends (taken b) here lost)
loses b = Ends here lost (record { is_run = refl; is_up = refl }) refl tt (λ a brings. absurd brings)

from_lost : (b : Book) → 1 ≤ b.default → Reaches site (ends (taken b) here lost) (granted b)
unfolding floor
from_lost b le = exchanging (request here) reply AtOnce refl refl refl request_range (grants 1 1 noon b le) (granting_range 1 (within refl)) refl

to_granted : (b : Book) → 1 ≤ b.default → Reaches site (start b) (granted b)
to_granted b le = joined (Later (taken b) (ends (taken b) here lost) (to_taken b) (loses b)) (from_lost b le)

to_asked_there : (b : Book) → 1 ≤ b.default → Reaches site (start b) (asked_there b)
to_asked_there b le =
    let login = reading there false (login_line (codes "s") noon) (to_granted b le) refl refl refl refl refl tt in
    let begin = reading there false (begin_line (codes "s") (codes "m") noon) login refl refl refl refl refl tt in
    sending there (request there) (reading there false (recipient_line (codes "s") noon) begin refl refl refl refl refl tt) refl refl refl refl

to_late : OneReply → (b : Book) → 1 ≤ b.default → Reaches site (start b) (ends (asked_there b) there late)
unfolding floor
to_late one_reply b le =
    Later _ _ (to_asked_there b le) (Ends there late (record { is_run = refl; is_up = refl }) refl (inr (inr (0, ap (λ a. Some (frame (reply_body a))) (grants 1 1 noon b le))))
    (λ a spells. (let same : reply ≡ a = one_reply (reply_body reply) reply a (record { bytes = refl; in_range = granting_range 1 (within refl) }) spells in
    subst (λ x. decides (request there) x ≡ false) same refl)))

-- of a request's frame there is one request
abbrev pub OneRequest : Type 0
OneRequest = (q r : Request) → IsRequest q → IsRequest r → frame (request_body q) ≡ frame (request_body r) → q ≡ r

frame_of_others : OneRequest → IsFrameOfOthers site (request_frame (Retire retire_id))
frame_of_others one_request = λ body q e spells.
    let F : List ℕ → Type 0 = λ x. frame (request_body (Retire retire_id)) ≡ frame x in
    let is : Retire retire_id ≡ q = one_request (Retire retire_id) q retire_range spells.in_range (subst F spells.bytes e) in
    subst (IsOfOthers site) is (λ id same. ap (λ (i : Id). site.is_run (source_of i)) (sym (some_is retire_id id same)))

-- an exchange that the reply decided is a try of its request
decides_it : (q : Request) (a : Reply) → IsReply a → decides q a ≡ true → IsTry q (decided q a) (Some a)
decides_it q a range decide = record { request_is = refl; decision = (record { bytes = refl; in_range = range }, decide); decided_is = refl }

-- the step of the recipient came to its end: its first exchange failed, and the second one decided
abbrev pub asked_steps : List Step
asked_steps = step_of (Ask 1 noon (codes "u")) false (answered ∷ lost ∷ []) ∷ []

asked_once : IsPlayed here 3 asked_steps
asked_once =
    let first : IsTry (request here) lost None = record { request_is = refl; decision = λ a brings. absurd brings; decided_is = refl } in
    ((Some reply, (decides_it (request here) reply (granting_range 1 (within refl)) refl, (first, tt), omega arith)), tt)

to_given_up : OneRequest → (b : Book) → 1 ≤ b.default → Reaches site (granted b) (given_up b)
unfolding floor
to_given_up one_request b le =
    let sent : Reaches site (granted b) (with_sent (granted b) (request_frame (Retire retire_id))) = Later _ _ AtOnce (OthersSend (request_frame (Retire retire_id)) (frame_of_others one_request)) in
    let read = reading here false commit_line (taking 0 (Retire retire_id) sent refl retire_range) refl refl refl refl refl asked_once in
    exchanging (settle 2 1) (Old (id_of here 2)) read refl refl refl (settle_range 2 1 (within refl) (within refl)) refl (id_range 2 (within refl)) refl

-- a quiet step sends nothing, and its closing waits
closed_quietly : IsPlayed here 3 (step_of (Close 1 ending.Commit) true [] ∷ asked_steps)
closed_quietly = ((settle 2 1 ∷ [], SendsUpTo (settle 2 1) [] [] [] NoneYet (tt, refl)), asked_once)

to_at_end : (b : Book) → 1 ≤ b.default → Reaches site (start b) (at_end b)
to_at_end b le =
    let read = reading here true commit_line (to_granted b le) refl refl refl refl refl asked_once in
    Later _ _ read (ReadsEnd here (record { up = record { is_run = refl; is_up = refl }; before_end = refl; none_on_way = refl; played = closed_quietly }))

to_settled : (b : Book) → 1 ≤ b.default → Reaches site (at_end b) (settled_at_end b)
to_settled b le = exchanging (settle 2 1) (Settled (id_of here 2) 1) AtOnce refl refl refl (settle_range 2 1 (within refl) (within refl)) (settled_reply b le) (id_range 2 (within refl), within refl) refl

to_granted_at : (moment : ℕ) (b : Book) → IsMoment moment → 1 ≤ b.default → next_request here 3 ((asks (cleared b) here (codes "v") (codes "n") moment).runs here).past ≡ Some (second_request 2 moment) → Reaches site (cleared b) (granted_at moment b)
to_granted_at moment b is le turn =
    let first : Reaches site (cleared b) (cleared b) = AtOnce in
    let login = reading here false (login_line (codes "v") moment) first refl refl refl refl refl asked_once in
    let begin = reading here false (begin_line (codes "v") (codes "n") moment) login refl refl refl refl refl asked_once in
    let read = reading here false (recipient_line (codes "v") moment) begin refl refl refl refl refl asked_once in
    exchanging (second_request 2 moment) (granting 2) read refl refl turn (reserve_range 2 2 moment (within refl) (within refl) is) (grants 2 2 moment b le) (granting_range 2 (within refl)) refl

asked_twice : IsPlayed here 3 (step_of (Ask 1 noon (codes "u")) false (decided (second_request 1 noon) (granting 2) ∷ []) ∷ asked_steps)
asked_twice = ((Some (granting 2), (decides_it (second_request 1 noon) (granting 2) (granting_range 2 (within refl)) refl, tt, omega arith)), asked_once)

to_split : (a b : Book) → 1 ≤ b.default → Reaches site (with_ledger (unused b) (granted a)) (split a b)
to_split a b le =
    let read = reading here false (recipient_line (codes "s") noon) AtOnce refl refl refl refl refl asked_once in
    let more = exchanging (second_request 1 noon) (granting 2) read refl refl refl (reserve_range 2 1 noon (within refl) (within refl) (within refl)) (grants 2 1 noon b le) (granting_range 2 (within refl)) refl in
    let commits = reading here false commit_line more refl refl refl refl refl asked_twice in
    exchanging (settle 3 2) (TooMany (id_of here 3) 1) commits refl refl refl (settle_range 3 2 (within refl) (within refl)) (too_many a b le) (id_range 3 (within refl), within refl) refl

to_granted_there : (a b : Book) → 1 ≤ b.default → Reaches site (with_ledger (unused b) (taken a)) (granted_there a b)
to_granted_there a b le = answering (with_ledger (unused b) (taken a)) (request here) reply (taking 0 (request here) AtOnce refl request_range) refl refl (grants 1 1 noon b le) (granting_range 1 (within refl)) refl

-- ---- what has happened then

reachable : (b : Book) → IsLegalBook (unused b) → (Happened : Site → (first w : World) → Type 0) → (w : World) → Reaches site (start b) w → Happened site (start b) w → IsReachable b Happened
reachable b legal Happened w r h = record { site = site; start = start b; ledger = refl; is_start = is_start b legal; world = w; reached = r; happened = h }

lets_through : (b : Book) → IsLegalBook (unused b) → 1 ≤ b.default → IsReachable b HasLetOneThrough
lets_through b legal le = reachable b legal HasLetOneThrough (granted b) (to_granted b le) (record { transaction = mail 1; is_run = refl; is_one = refl })

answers_again : (b : Book) → IsLegalBook (unused b) → 1 ≤ b.default → IsReachable b WasAnsweredAgain
unfolding floor
answers_again b legal le = reachable b legal WasAnsweredAgain (granted b) (to_granted b le) (record {
  run = here;
  request = request here;
  reply = reply;
  fault = TimedOut;
  before = taken b;
  reached = to_taken b;
  written = ap (λ a. count_by (same_text (frame (reply_body reply))) (frame (reply_body a) ∷ [])) (grants 1 1 noon b le);
  lost = loses b;
  later = from_lost b le;
  written_again = written_twice b le;
  came = refl;
  once = refl;
})

takes_twice : (b : Book) → IsLegalBook (unused b) → 1 ≤ b.default → IsReachable b WasTakenTwice
unfolding floor
takes_twice b legal le = reachable b legal WasTakenTwice (takes (taken b)) (taking 0 (request here) (to_taken b) refl request_range)
    (record { request = request here; reply = reply; decides_it = refl; sent = refl; written = written_twice b le; once = refl })

comes_late : OneReply → (b : Book) → IsLegalBook (unused b) → 1 ≤ b.default → IsReachable b CameLate
comes_late one_reply b legal le = reachable b legal CameLate (ends (asked_there b) there late) (to_late one_reply b le) (record {
  run = there;
  other = here;
  is_run = refl;
  is_other = refl;
  differ = refl;
  asked = request here;
  reply = reply;
  decides_it = refl;
  of_other = refl;
  ended = refl;
  request = request there;
  came = refl;
})

stops : (b : Book) → IsLegalBook (unused b) → IsReachable b HasStopped
stops b legal = reachable b legal HasStopped (with_run (asked b) here (after_stop ((asked b).runs here))) (Later _ _ (to_asked b) (Stops here (record { is_run = refl; is_up = refl })))
    (record { run = here; is_run = refl; on_way = refl; is_stopped = refl })

retires_it : OneRequest → (b : Book) → IsLegalBook (unused b) → 1 ≤ b.default → IsReachable b WasRetired
unfolding floor
retires_it one_request b legal le =
    let later = to_given_up one_request b le in
    reachable b legal WasRetired (given_up b) (joined (to_granted b le) later) (record {
      transaction = mail 1;
      is_run = refl;
      before = granted b;
      reached = to_granted b le;
      held_before = ap (λ H. held H (mail 1)) (first_entry b le);
      by = retire_id;
      is_other = refl;
      later = later;
      retired = ap requests (given_up_entries b le) ∙ sym (ap (λ H. requests H ++ Retire retire_id ∷ []) (first_entry b le));
      settled = ap (λ H. settled_in H (mail 1)) (given_up_entries b le);
      closing = settle 2 1;
      id = id_of here 2;
      came = refl;
      none_waits = refl;
      is_one = refl;
    })

holds_back : (b : Book) → IsLegalBook (unused b) → 1 ≤ b.default → IsReachable b WasHeldBack
unfolding floor
holds_back b legal le = reachable b legal WasHeldBack (settled_at_end b) (joined (to_at_end b le) (to_settled b le)) (record {
  transaction = mail 1;
  is_run = refl;
  closing = settle 2 1;
  before = at_end b;
  reached = to_at_end b le;
  is_at_end = refl;
  unsent = refl;
  waits = refl;
  later = to_settled b le;
  none_waits = refl;
  settled = ap (λ H. settled_in H (mail 1)) (settled_entries b le);
  is_one = refl;
})

-- ---- a run, as its contract has it

-- the client of a new run, which holds nothing back
abbrev pub new_client : State
new_client = record { source = here; tries = 3; spans = record { pause = 0; hold = 0 }; held = []; numbers = 0; waiting = [] }

abbrev pub let_one : HeldTransaction
let_one = record { login = codes "u"; moment = noon; granted = 1 }

-- the same after it let one recipient through
abbrev pub later_client : State
later_client = record { source = here; tries = 3; spans = record { pause = 0; hold = 0 }; held = (1, let_one) ∷ []; numbers = 1; waiting = [] }

abbrev pub asking : Step
asking = step_of (Ask 1 noon (codes "u")) false (answered ∷ [])

abbrev pub ending_all : Step
ending_all = step_of Drain false []

-- what the later client has of a transaction
found_at : (txn : ℕ) → find later_client.held txn ≡ (if 1 == txn then Some let_one else None)
found_at txn = elim (either (1 == txn)) [
  | inl same ↦ subst (λ x. find later_client.held x ≡ (if 1 == x then Some let_one else None)) (number_is 1 txn same) refl
  | inr differs ↦ rw (differs, ne_eqb txn 1 (λ e. clash (1 == txn) (ap (λ x. 1 == x) e) differs)) (elim (either (nat_lt txn 1)) [ inl less ↦ rw less refl | inr more ↦ rw more refl ])
]

made : MakesAll new_client later_client (ending_all ∷ asking ∷ [])
made =
    let asks = making.asked new_client later_client 1 noon (codes "u") (answered ∷ []) (Some reply) (omega arith) refl refl refl (decides_it (request here) reply (granting_range 1 (within refl)) refl, tt, omega arith) found_at refl refl refl in
    let ends = making.drained later_client later_client [] refl refl refl refl (SendsAll [] NoneYet) in
    makes_push new_client later_client later_client (asking ∷ []) (Some ending_all) (makes_push new_client new_client later_client [] (Some asking) (makes_none new_client) asks) ends

-- ---- its lines

abbrev pub login_text : List ℕ
login_text = codes "report|0.7|1700000000.000000|smtp-in|link-auth|s|pass|u"

abbrev pub begin_text : List ℕ
begin_text = codes "report|0.7|1700000000.000000|smtp-in|tx-begin|s|m"

abbrev pub recipient_text : List ℕ
recipient_text = codes "filter|0.7|1700000000.000000|smtp-in|rcpt-to|s|t|r"

abbrev pub texts : List (List ℕ)
texts = codes "config|ready" ∷ login_text ∷ begin_text ∷ recipient_text ∷ []

is_line : (bytes : List ℕ) → list_any (λ b. b == 10) bytes ≡ false → length bytes ≤ 65536 → IsLine bytes
is_line bytes none short = record {
  one = All-from_recursion (λ b. b ≢ 10) bytes (all_of (λ b. b ≢ 10) bytes (λ b i is. clash (b == 10) (ap (λ x. x == 10) is) (none_passes (λ x. x == 10) bytes b none i)));
  short = short;
}

stamp : (names : List (List ℕ)) → AllByRecursion (λ name. name ≢ []) names → IsStamp (codes "0.7") (codes "1700000000.000000") names noon
stamp names named = record { protocol = refl; moment = refl; named = named }

reads_login : IsRead login_text (login_line (codes "s") noon)
reads_login = (codes "0.7", codes "1700000000.000000", codes "pass" ∷ codes "u" ∷ [], refl, stamp (codes "smtp-in" ∷ codes "link-auth" ∷ codes "s" ∷ []) (λ e. cc, (λ e. cc, (λ e. cc, tt))), refl)

reads_begin : IsRead begin_text (begin_line (codes "s") (codes "m") noon)
reads_begin = (codes "0.7", codes "1700000000.000000", codes "m" ∷ [], refl, stamp (codes "smtp-in" ∷ codes "tx-begin" ∷ codes "s" ∷ []) (λ e. cc, (λ e. cc, (λ e. cc, tt))), refl)

reads_recipient : IsRead recipient_text (recipient_line (codes "s") noon)
reads_recipient = (codes "0.7", codes "1700000000.000000", codes "r" ∷ [], refl, stamp (codes "smtp-in" ∷ codes "rcpt-to" ∷ codes "s" ∷ codes "t" ∷ []) (λ e. cc, (λ e. cc, (λ e. cc, (λ e. cc, tt)))), refl)

is_ready : IsReady texts (mail_lines (codes "s") (codes "m") noon)
is_ready = record {
  before = [];
  ready = codes "config|ready";
  after = login_text ∷ begin_text ∷ recipient_text ∷ [];
  whole = refl;
  early = tt;
  reads_ready = refl;
  read = (
    login_text ∷ begin_text ∷ [],
    recipient_text,
    refl,
    reads_recipient,
    (login_text ∷ [], begin_text, refl, reads_begin, ([], login_text, refl, reads_login, refl)),
  );
}

abbrev pub result : List ℕ
result = result_text (codes "s") (codes "t") Proceed

filters : Filters new_client.spans (mail_lines (codes "s") (codes "m") noon) (asking ∷ []) result nothing_held
filters =
    let first : Filters new_client.spans (login_line (codes "s") noon ∷ []) [] [] nothing_held = (None, [], [], [], nothing_held, (refl, refl, refl), (refl, refl, refl), refl, refl, refl) in
    let second : Filters new_client.spans (begin_line (codes "s") (codes "m") noon ∷ login_line (codes "s") noon ∷ []) [] [] nothing_held = (None, [], [], [], nothing_held, first, (refl, refl, refl), refl, refl, refl) in
    (Some asking, [], [], result, nothing_held, second, (Proceed, (answered ∷ [], refl, refl), refl), refl, refl, refl)

abbrev pub before_run : Outside
before_run = record { sink = Some []; told = Some []; client = new_client }

abbrev pub after_run : Outside
after_run = record { sink = Some (registration ++ result); told = Some (told_steps (ending_all ∷ asking ∷ [])); client = later_client }

ends_so : EndsWith before_run (text_of texts ++ []) after_run (record { answers = 1; left = 0 })
ends_so = record {
  lines = texts;
  after_ready = mail_lines (codes "s") (codes "m") noon;
  steps = asking ∷ [];
  results = result;
  holding = nothing_held;
  group = [];
  whole = record { whole = refl; each = (is_line (codes "config|ready") refl (omega arith), (is_line login_text refl (omega arith), (is_line begin_text refl (omega arith), (is_line recipient_text refl (omega arith), tt)))) };
  ready = is_ready;
  filters = filters;
  reasoned = reasoned new_client.spans (mail_lines (codes "s") (codes "m") noon) (asking ∷ []) result nothing_held filters;
  written = refl;
  exchanged = refl;
  made = made;
  answers = refl;
  left = λ P h. ap length h.waiting;
}

-- its frame is sent, and others take it
abbrev pub around_run : Book → World
around_run b = takes (with_sent (start b) (request_frame (request here)))

goes_around : (b : Book) → 1 ≤ b.default → GoesOnAround site here (start b) (answered ∷ []) (around_run b)
goes_around b le =
    let sent = with_sent (start b) (request_frame (request here)) in
    let taken_once : OthersGoOn site here sent (around_run b) =
    OneStep sent (around_run b) NobodyYet (Takes 0 (request_body (request here)) (request here) refl (record { bytes = refl; in_range = request_range })) refl in
    During answered [] (start b) (around_run b) (around_run b) (Before (start b) NobodyYet) taken_once
    (inr (inr (0, ap (λ a. Some (frame (reply_body a))) (grants 1 1 noon b le)))) NobodyYet

is_new : (b : Book) → IsNew site (start b) here new_client
is_new b = record { is_run = refl; run = refl; source = refl; tries = refl; stands = record { held = λ txn. refl; live = refl; numbers = refl; waiting = refl } }

-- each run is of a world
abbrev pub WholeRuns : Type 0
WholeRuns = (site : Site) (w later : World) (s : Source) (o : Outside) (bytes : List ℕ) (now : Outside) (e : RunEnd) (h : EndsWith o bytes now e) → IsNew site w s o.client
    → GoesOnAround site s w (exchanges_in (drained h.group h.steps)) later → Reaches site w (with_run later s (ran h.after_ready (drained h.group h.steps) true))

runs_to_its_end : WholeRuns → (b : Book) → IsLegalBook (unused b) → 1 ≤ b.default → IsReachable b HasRunToItsEnd
unfolding ends_so
runs_to_its_end whole b legal le =
    reachable b legal HasRunToItsEnd _
    (whole site (start b) (around_run b) here before_run (text_of texts ++ []) after_run (record { answers = 1; left = 0 }) ends_so (is_new b) (goes_around b le)) (record {
      transaction = mail 1;
      before = before_run;
      bytes = text_of texts ++ [];
      after = after_run;
      ended = record { answers = 1; left = 0 };
      ends = ends_so;
      is_new = is_new b;
      later = around_run b;
      around = goes_around b le;
      is_then = refl;
      answers = refl;
      is_one = refl;
    })

-- ---- a day is forgotten while the run goes on

-- noon's reserve goes with its day
forgets_noon : (b : Book) (D : ℕ) → nat_le D (day_of b.zone noon) ≡ false → (forgotten D (granted b)).ledger.history ≡ []
unfolding floor
forgets_noon b D before = rw before refl

is_cleared : (b : Book) (D : ℕ) → nat_le D (day_of b.zone noon) ≡ false → forgotten D (granted b) ≡ cleared b
is_cleared b D before = ap (λ H. with_ledger (record { zone = b.zone; default = b.default; history = H }) (granted b)) (forgets_noon b D before)

-- a way over a forgetting of the days before D
onward : (b : Book) (D : ℕ) (now : World) → 1 ≤ b.default → nat_le D (day_of b.zone noon) ≡ false → Reaches site (cleared b) now → Reaches site (forgotten D (granted b)) now × ReachesForgetting site (start b) D now
onward b D now le before way =
    let went : Reaches site (forgotten D (granted b)) now = subst (λ w. Reaches site w now) (sym (is_cleared b D before)) way in
    let until = with_steps site D (start b) (start b) (granted b) FromStart (to_granted b le) in
    (went, with_steps site D (start b) (forgotten D (granted b)) now (Forgets (granted b) D until (omega arith)) went)

-- at an offset noon is on an earlier day
abbrev pub Floors : Type 0
Floors = (minutes : ℤ) (moment : ℕ) → IsOffset minutes → IsMoment moment → (pos (86400 * day_of (ByOffset minutes) moment) ≤ℤ clock minutes moment) × (clock minutes moment <ℤ pos (86400 * (day_of (ByOffset minutes) moment + 1)))

noon_is_earlier : Floors → (minutes : ℤ) → IsOffset minutes → nat_le (day_of (ByOffset minutes) afterwards) (day_of (ByOffset minutes) noon) ≡ false
noon_is_earlier floors minutes offset =
    let first = (floors minutes noon offset (within refl)).0 in
    let second = (floors minutes afterwards offset (within refl)).1 in
    let less : day_of (ByOffset minutes) noon < day_of (ByOffset minutes) afterwards = omega (arith, ints, first, second) in
    grind (arith, nat_tests, less)

-- the run goes on, and a frame of the forgotten reserve comes once more
goes_on : (b : Book) → nat_le (day_of b.zone afterwards) (day_of b.zone noon) ≡ false → IsLegalBook (unused b) → 1 ≤ b.default → IsReachable b WentOnThoughForgotten
unfolding floor
goes_on b before legal le =
    let D : ℕ = day_of b.zone afterwards in
    let none = forgets_noon b D before in
    let way = onward b D (takes (granted_at afterwards b)) le before (taking 1 (request here) (to_granted_at afterwards b (within refl) le refl) refl request_range) in
    reachable b legal WentOnThoughForgotten (granted b) (to_granted b le) (record {
      earlier = mail 1;
      is_run = refl;
      held_before = ap (λ H. held H (mail 1)) (first_entry b le);
      reserve = request here;
      had = ap requests (first_entry b le);
      day = D;
      held_no_more = ap (λ H. held H (mail 1)) none;
      settled_none = ap (λ H. settled_in H (mail 1)) none;
      let_still = refl;
      now = takes (granted_at afterwards b);
      went_on = way.0;
      reached = way.1;
      transaction = mail 2;
      same_run = refl;
      asked = record { login = codes "u"; moment = afterwards; granted = 1 };
      counts = refl;
      is_one = refl;
      is_first_day = refl;
      request = second_request 2 afterwards;
      taken_again = refl;
    })

goes_on_at : Floors → (b : Book) (minutes : ℤ) → b.zone ≡ ByOffset minutes → IsLegalBook (unused b) → 1 ≤ b.default → IsReachable b WentOnThoughForgotten
goes_on_at floors b minutes is legal le =
    goes_on b (subst (λ z. nat_le (day_of z afterwards) (day_of z noon) ≡ false) (sym is) (noon_is_earlier floors minutes (subst IsZone is legal.zone))) legal le

-- a forgotten day is used once more
passes_limit : (b : Book) → IsLegalBook (unused b) → b.default ≡ 1 → IsReachable b PassedOnAForgottenDay
unfolding floor
passes_limit b legal one_only =
    let d : ℕ = day_of b.zone noon in
    let D : ℕ = d + 1 in
    let both_let : let_together (granted_at noon b) (codes "u") d (mail 1 ∷ mail 2 ∷ []) ≡ 2 = rw (number_itself d) refl in
    let limit : cap b.default (granted_at noon b).ledger.history (codes "u") d ≡ b.default = refl in
    let le : 1 ≤ b.default = omega (arith, one_only) in
    let way = onward b D (granted_at noon b) le (grind (arith, nat_tests)) (to_granted_at noon b (within refl) le refl) in
    reachable b legal PassedOnAForgottenDay (granted b) (to_granted b le) (record {
      day = D;
      over = d;
      is_earlier = omega arith;
      now = granted_at noon b;
      went_on = way.0;
      reached = way.1;
      login = codes "u";
      transactions = mail 1 ∷ mail 2 ∷ [];
      distinct = (refl, (refl, tt));
      passes = omega (arith, both_let, limit, one_only);
    })

-- ---- two servers

-- the servers at the start
abbrev pub both : Book → Book → Together
both a b = record { world = start a; standby = unused b ∷ [] }

-- the address moves to the second server, and what is reached from there on
abbrev pub moved_to : World → World → Together
moved_to before now = record { world = now; standby = before.ledger ∷ [] }

-- both ledgers are sound, have one zone, and let one recipient through at least
record AreFit (a b : Book) : Type 0 where
  pub first : IsLegalBook (unused a)
  pub second : IsLegalBook (unused b)
  pub zone : b.zone ≡ a.zone
  pub first_default : 1 ≤ a.default
  pub second_default : 1 ≤ b.default

reachable_together : (a b : Book) → AreFit a b → (Happened : Site → (first c : Together) → Type 0) (before now : World) → Reaches site (start a) before → Reaches site (with_ledger (unused b) before) now → Happened site (both a b) (moved_to before now)
    → IsReachableTogether a b Happened
reachable_together a b fit Happened before now way on h =
    let first = with_steps_together site 0 (both a b) (unused b ∷ []) (start a) before servers.FromStart way in
    let moves = servers.Moves (record { world = before; standby = unused b ∷ [] }) [] [] (unused b) first refl in
    record {
      site = site;
      start = both a b;
      ledgers = refl;
      is_start = record { first = is_start a fit.first; standby = (is_start b fit.second, tt); zones = (fit.zone, tt) };
      now = moved_to before now;
      reached = with_steps_together site 0 (both a b) (before.ledger ∷ []) (with_ledger (unused b) before) now moves on;
      happened = h;
    }

grants_by_each : (a b : Book) → AreFit a b → IsReachableTogether a b WasGrantedByEach
unfolding floor
grants_by_each a b fit =
    let first = first_entry a fit.first_default in
    let second = first_entry b fit.second_default in
    reachable_together a b fit WasGrantedByEach (taken a) (granted_there a b) (to_taken a) (to_granted_there a b fit.second_default) (record {
      transaction = mail 1;
      is_run = refl;
      reserve = request here;
      reply = reply;
      sent = refl;
      written = each_written _ _ (grants 1 1 noon b fit.second_default) (grants 1 1 noon a fit.first_default);
      decides_it = refl;
      had = (ap requests second, (ap requests first, tt));
      is_one = refl;
      hold = (ap (λ H. held H (mail 1)) second, (ap (λ H. held H (mail 1)) first, tt));
    })

reachable_split : (a b : Book) → AreFit a b → (Happened : Site → (first c : Together) → Type 0) → Happened site (both a b) (moved_to (granted a) (split a b)) → IsReachableTogether a b Happened
reachable_split a b fit Happened h = reachable_together a b fit Happened (granted a) (split a b) (to_granted a fit.first_default) (to_split a b fit.second_default) h

splits : (a b : Book) → AreFit a b → IsReachableTogether a b WasSplit
unfolding floor
splits a b fit = reachable_split a b fit WasSplit (record {
  transaction = mail 1;
  is_run = refl;
  asked = record { login = codes "u"; moment = noon; granted = 2 };
  counts = refl;
  are_two = refl;
  closing = settle 3 2;
  id = id_of here 3;
  came = refl;
  none_waits = refl;
  hold = (ap (λ H. held H (mail 1)) (split_entries a b fit.second_default), (ap (λ H. held H (mail 1)) (first_entry a fit.first_default), tt));
})

passes_each : (a b : Book) → AreFit a b → a.default ≡ 1 → b.default ≡ 1 → IsReachableTogether a b PassedEachLimit
unfolding floor
passes_each a b fit one_a one_b =
    let d : ℕ = day_of b.zone noon in
    let both_let : let_together (split a b) (codes "u") d (mail 1 ∷ []) ≡ 2 = rw (number_itself d) refl in
    let first : cap a.default (granted a).ledger.history (codes "u") d ≡ a.default = refl in
    let second : cap b.default (split a b).ledger.history (codes "u") d ≡ b.default = refl in
    reachable_split a b fit PassedEachLimit (record {
      login = codes "u";
      day = d;
      transactions = mail 1 ∷ [];
      distinct = (refl, tt);
      passes = (omega (arith, both_let, second, one_b), (omega (arith, both_let, first, one_a), tt));
    })

-- over a night: the first server grants and forgets, and the address moves
abbrev pub dawn : Book → Book → ℕ → Together
dawn a b day = record { world = with_ledger (unused b) (forgotten day (around_run a)); standby = (forgotten day (around_run a)).ledger ∷ [] }

goes_over : (a b : Book) (day : ℕ) → 1 ≤ a.default → GoesOnAmid (OthersGoOnTogether site here day) (both a b) (answered ∷ []) (dawn a b day)
goes_over a b day le =
    let asked : Together = with_world (both a b) (with_sent (start a) (request_frame (request here))) in
    let grants_it : Together = with_world (both a b) (around_run a) in
    let taken_once : OthersGoOnTogether site here day asked grants_it =
    WorldSteps asked (around_run a) StillThere (Takes 0 (request_body (request here)) (request here) refl (record { bytes = refl; in_range = request_range })) refl in
    OneMoreExchange answered [] (both a b) (dawn a b day) (dawn a b day) (OthersAlone (both a b) StillThere)
    (AddressMoves (with_world grants_it (forgotten day (around_run a))) [] [] (unused b) (LedgerForgets grants_it day taken_once (omega arith)) refl)
    (inr (inr (0, ap (λ r. Some (frame (reply_body r))) (grants 1 1 noon a le)))) StillThere

-- each run is of worlds of several servers
abbrev pub WholeRunsTogether : Type 0
WholeRunsTogether = (site : Site) (start c later : Together) (F : ℕ) (s : Source) (o : Outside) (bytes : List ℕ) (now : Outside) (e : RunEnd) (h : EndsWith o bytes now e) → ReachesTogether site start F c → IsNew site c.world s o.client
    → GoesOnAmid (OthersGoOnTogether site s F) c (exchanges_in (drained h.group h.steps)) later → ReachesTogether site start F (with_run_in later s (ran h.after_ready (drained h.group h.steps) true))

runs_over_a_night : WholeRunsTogether → (a b : Book) (day : ℕ) → IsLegalBook (unused a) → IsLegalBook (unused b) → b.zone ≡ a.zone → 1 ≤ a.default → RanOverANight a b day
unfolding ends_so floor
runs_over_a_night whole a b day first second zone le = record {
  site = site;
  start = both a b;
  at_first = refl;
  is_start = record { first = is_start a first; standby = (is_start b second, tt); zones = (zone, tt) };
  transaction = mail 1;
  before = before_run;
  bytes = text_of texts ++ [];
  after = after_run;
  ended = record { answers = 1; left = 0 };
  ends = ends_so;
  is_new = is_new a;
  later = dawn a b day;
  around = goes_over a b day le;
  granting = (around_run a).ledger;
  reserve = request here;
  had = ap requests (first_entry a le);
  at_last = refl;
  now = with_run_in (dawn a b day) here (ran ends_so.after_ready (drained ends_so.group ends_so.steps) true);
  is_then = refl;
  reached = whole site (both a b) (both a b) (dawn a b day) day here before_run (text_of texts ++ []) after_run (record { answers = 1; left = 0 }) ends_so servers.FromStart (is_new a) (goes_over a b day le);
  is_one = refl;
}

are_fit : (a b : Book) → IsLegalBook (unused a) → IsLegalBook (unused b) → b.zone ≡ a.zone → 1 ≤ a.default → 1 ≤ b.default → AreFit a b
are_fit a b first second zone first_default second_default = record { first = first; second = second; zone = zone; first_default = first_default; second_default = second_default }

pub returns : goal.returns
returns c = record {
  let_through = lets_through;
  answered_again = answers_again;
  taken_twice = takes_twice;
  late = comes_late c.one_spelling.ensures.one_reply;
  stopped = stops;
  as_a_run = runs_to_its_end c.each_run_is_of_a_world.ensures.whole;
  retired = retires_it c.one_spelling.ensures.one_request_frame;
  held_back = holds_back;
  forgotten = goes_on_at c.day_is_the_floor.ensures;
  passed = passes_limit;
  granted_by_each = λ a b first second zone le_a le_b. grants_by_each a b (are_fit a b first second zone le_a le_b);
  split = λ a b first second zone le_a le_b. splits a b (are_fit a b first second zone le_a le_b);
  passed_each = λ a b first second zone one_a one_b. passes_each a b (are_fit a b first second zone (omega (arith, one_a)) (omega (arith, one_b))) one_a one_b;
  over_a_night = runs_over_a_night c.each_run_is_of_a_world.ensures.whole_together;
}
