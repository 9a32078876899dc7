-- What is seen of a request in the log: by its words and its answer, its peer, the server's clock, the ledger's days, and what
-- was noted within the hour.
use Rattle.std.specs.Prelude.{◌≡◌, ◌≢◌, ◌⊎◌, ⊤, ℕ, ◌/◌, ◌<◌, nat_le, if◌then◌else◌, Bool, false, IsTrue, List, [], ◌∷◌, ◌++◌, length, All, Option, Some, None, is_some, IfSome, IsSome, IsNone, Result, Ok, Err}
use Rattle.std.specs.Net.Socket.{socket_ip}
use Rattle.std.specs.declared.net.SocketAddr.{SocketAddr}
use Rattle.std.specs.declared.net.ip_addr.IpAddr.{IpAddr}
use Rattle.mq_permits.specs.declared.peer.Peer.{Peer}
use Rattle.mq_request.specs.declared.message.Id.{Id}
use Rattle.mq_request.specs.declared.message.Reply.{Reply}
use Rattle.mq_request.specs.declared.message.Reply.TheVariants as reply
use Rattle.mq_request.specs.declared.message.Request.{Request}
use Rattle.mq_request.specs.declared.message.Request.TheVariants as request
use Rattle.mq_ledger.specs.declared.ledger.LedgerFault.{LedgerFault}
use Rattle.mq_ledger.specs.declared.ledger.ReportedCall.{ReportedCall}
use Rattle.mq_ledger.specs.Day.{day_of}
use Rattle.mq_ledger.specs.History.{used}
use Rattle.mq_ledger.specs.Legal.{Book}
use Rattle.mq_ledger.specs.Limits.{cap}
use Rattle.mq_watch.specs.Asked.{IsAnswered}
use Rattle.mq_watch.specs.Hours.{IsOff, IsOver, nearest_moment, seconds_at}
use Rattle.mq_watch.specs.Known.{IsKnownAt, known}
use Rattle.mq_watch.specs.Nearing.{IsLeft, IsNear, IsOpen, four_fifths}
use Rattle.mq_watch.specs.Notices.{nothing, verdict}
use Rattle.mq_watch.specs.Storms.{Asks, Counts, TellsOnce, octets_of_ip}
use Rattle.mq_watch.specs.declared.strangers.Strangers.{Strangers}
use Rattle.mq_watch.specs.declared.askers.Asker.{Asker}
use Rattle.mq_watch.specs.declared.askers.Askers.{Askers}
use Rattle.mq_watch.specs.declared.calendar.ServerTime.{ServerTime}
use Rattle.mq_watch.specs.declared.hours.NamedHosts.{NamedHosts}
use Rattle.mq_watch.specs.declared.nearing.Nearing.{Nearing}
use Rattle.mq_watch.specs.declared.nearing.Usage.{Usage}
use Rattle.mq_watch.specs.declared.notes.Notes.{Notes}
use Rattle.mq_watch.specs.declared.notice.Notice.{Notice}
use Rattle.mq_watch.specs.declared.notice.Notice.TheVariants.{Limit, Retire, Ahead, FarDay, AheadDay, OtherAddress, OldRun, Refusals, NearLimit, FailedQuestion, Forbidden}
use Rattle.mq_watch.specs.declared.notice.RequestNotices.{RequestNotices}
use Rattle.mq_watch.specs.declared.notice.OrderVerdict.{OrderVerdict}
use Rattle.mq_watch.specs.declared.notice.OrderVerdict.TheVariants.{Set}
use Rattle.mq_watch.specs.declared.refusals.Refusals.{Refusals as Refused}

-- a line of this host is told at a moment, or isn't: none named it in the hour that runs, and fewer than 1,000 hosts were
pub record Names (old : NamedHosts) (host : List ℕ) (now : ℕ) (told : Bool) (new : NamedHosts) : Type 0 where
  pub first : IsTrue told → IsOver old.since now → (new.since ≡ now) × (new.hosts.items ≡ host ∷ [])
  pub more : IsTrue told → (IsOver old.since now → ⊥) → (new.since ≡ old.since) × (new.hosts.items ≡ old.hosts.items ++ host ∷ [])
      × (length old.hosts.items < 1000) × All (λ h. h ≢ host) old.hosts.items
  pub over : told ≡ false → IsOver old.since now → (new.since ≡ now) × (new.hosts.items ≡ [])
  pub same : told ≡ false → (IsOver old.since now → ⊥) → (new.since ≡ old.since) × (new.hosts.items ≡ old.hosts.items)

-- this host reserves for this day, and today is that one
abbrev pub IsFarDay : List ℕ → ℕ → ℕ → Notice → Type 0
IsFarDay host day today (FarDay h d t) = (h.now ≡ host) × (d ≡ day) × (t ≡ today)
IsFarDay host day today _ = ⊥

-- A host reserves for a moment: that is told only where its day is far from the server's and the moment half a day or more
-- away, once an hour at most.
pub record SeesDay (day : ℕ → ℕ) (host : List ℕ) (moment now : ℕ) (old new : NamedHosts) (seen : Option Notice) : Type 0 where
  pub off : IsOff day moment (nearest_moment now) → Names old host now (is_some seen) new
  pub on : (IsOff day moment (nearest_moment now) → ⊥) → (seen ≡ None) × (new ≡ old)
  pub says : IfSome seen (IsFarDay host (day moment) (day (nearest_moment now)))

-- this other address of the host is told, where there is one
abbrev pub TellsOther : List ℕ → Option IpAddr → Option Notice → Type 0
TellsOther host None seen = seen ≡ None
TellsOther host (Some other) (Some (OtherAddress h o)) = (h.now ≡ host) × (o ≡ other)
TellsOther host (Some other) _ = ⊥

-- A host asks from an address: it is told from which other one it asked before.
pub record SeesAddress (host : List ℕ) (address : IpAddr) (now : ℕ) (old new : Askers) (seen : Option Notice) : Type 0 where
  pub other : Option IpAddr
  pub asks : (before : Option Asker) → IsKnownAt old.hosts.since old.hosts.names now host before → Asks before address other (known new.hosts.names host)
  pub others : (l : List ℕ) (before : Option Asker) → l ≢ host → IsKnownAt old.hosts.since old.hosts.names now l before → known new.hosts.names l ≡ before
  pub says : TellsOther host other seen

-- this login is refused, last for this host
abbrev pub IsRefusals : List ℕ → List ℕ → Notice → Type 0
IsRefusals login host (Refusals l h) = (l.now ≡ login) × (h.now ≡ host)
IsRefusals login host _ = ⊥

-- A login is refused: it is counted, and told at one refusal of the hour.
pub record SeesRefusals (login host : List ℕ) (now : ℕ) (old new : Refused) (seen : Option Notice) : Type 0 where
  pub counts : (before : Option ℕ) → IsKnownAt old.logins.since old.logins.names now login before → Counts before (is_some seen) (known new.logins.names login)
  pub others : (l : List ℕ) (before : Option ℕ) → l ≢ login → IsKnownAt old.logins.since old.logins.names now l before → known new.logins.names l ≡ before
  pub says : IfSome seen (IsRefusals login host)

-- this id's host asks under its run
abbrev pub IsOldRun : Id → Notice → Type 0
IsOldRun id (OldRun i) = i.now ≡ id
IsOldRun id _ = ⊥

-- a host asks under a retired run: that is told, once an hour, where the clock can be read
pub record SeesOldRun (id : Id) (now : ℕ) (old new : NamedHosts) (seen : Option Notice) : Type 0 where
  pub names : Names old id.host now (is_some seen) new
  pub says : IfSome seen (IsOldRun id)

abbrev pub SeesRun : Id → Result Reply LedgerFault → Option ℕ → NamedHosts → NamedHosts → Option Notice → Type 0
SeesRun id (Ok (reply.Old i)) (Some now) old new seen = SeesOldRun id now old new seen
SeesRun id _ _ old new seen = (seen ≡ None) × (new ≡ old)

-- a reserve is refused for its limit or for its run
abbrev pub SeesRefusal : Id → List ℕ → Result Reply LedgerFault → ℕ → Notes → Notes → Option Notice → Type 0
SeesRefusal id login (Ok (reply.Full i used cap)) now old new seen =
    SeesRefusals login id.host now old.refusals new.refusals seen × (new.retired ≡ old.retired)
SeesRefusal id login answer now old new seen =
    SeesRun id answer (Some now) old.retired new.retired seen × (new.refusals ≡ old.refusals)

-- A reserve came from a peer at a moment of the server's clock, in seconds: what is seen of who asks, and of its refusal.
pub record SeesAsker (days : ℕ → ℕ) (peer : SocketAddr) (id : Id) (moment : ℕ) (login : List ℕ) (answer : Result Reply LedgerFault)
    (now : ℕ) (old new : Notes) (seen : RequestNotices) : Type 0 where
  pub day : SeesDay days id.host moment now old.hosts new.hosts seen.day
  pub address : SeesAddress id.host (socket_ip peer) now old.askers new.askers seen.address
  pub refusal : SeesRefusal id login answer now old new seen.refusal

-- where the clock can't be read, nothing is
pub record SeesNobody (old new : Notes) (seen : RequestNotices) : Type 0 where
  pub day : seen.day ≡ None
  pub address : seen.address ≡ None
  pub refusal : seen.refusal ≡ None
  pub hosts : new.hosts ≡ old.hosts
  pub retired : new.retired ≡ old.retired
  pub askers : new.askers ≡ old.askers
  pub refusals : new.refusals ≡ old.refusals

abbrev pub SeesReserve : (ℕ → ℕ) → SocketAddr → Id → ℕ → List ℕ → Result Reply LedgerFault → Option ℕ → Notes → Notes → RequestNotices → Type 0
SeesReserve day peer id moment login answer None old new seen = SeesNobody old new seen
SeesReserve day peer id moment login answer (Some now) old new seen = SeesAsker day peer id moment login answer now old new seen

-- this login has used so much of its limit on this day
abbrev pub IsNearLimit : List ℕ → ℕ → Usage → Notice → Type 0
IsNearLimit login day usage (NearLimit l d u) = (l.now ≡ login) × (d ≡ day) × (u ≡ usage)
IsNearLimit login day usage _ = ⊥

-- A ledger said what a login has used on a day: that is told where it nears its limit and there is memory to note so.
pub record SeesUse (usage : Usage) (login : List ℕ) (day : ℕ) (old new : Nearing) (seen : Option Notice) : Type 0 where
  pub told : IsSome seen → IsNear usage.used usage.cap × (known new.logins login ≡ Some (record { day = day; near = None }))
  pub lost : IsNear usage.used usage.cap → IsNone seen → IsLeft old.logins new.logins login login
  pub far : (IsNear usage.used usage.cap → ⊥) → (seen ≡ None)
      × (IsLeft old.logins new.logins login login ⊎ (known new.logins login ≡ Some (record { day = day; near = Some (four_fifths usage.cap) })))
  pub others : (l : List ℕ) → l ≢ login → IsLeft old.logins new.logins login l
  pub says : IfSome seen (IsNearLimit login day usage)

abbrev pub SeesSaid : Result (Option Usage) LedgerFault → List ℕ → ℕ → Nearing → Nearing → Option Notice → Type 0
SeesSaid (Ok (Some usage)) login day old new seen = SeesUse usage login day old new seen
SeesSaid (Ok None) login day old new seen = (seen ≡ None) × (new ≡ old)
SeesSaid (Err fault) login day old new seen = (seen ≡ Some FailedQuestion) × (new ≡ old)

-- A login was granted so much on a day: the ledger is asked only where the login may near its limit.
pub record SeesGranted (login : List ℕ) (day used : ℕ) (asked asked' : Option (List ReportedCall)) (old new : Nearing) (seen : Option Notice) : Type 0 where
  pub closed : (IsOpen (known old.logins login) day used → ⊥) → (seen ≡ None) × (new ≡ old) × (asked' ≡ asked)
  pub open_ : IsOpen (known old.logins login) day used → (said : Result (Option Usage) LedgerFault)
      × IsAnswered login day asked asked' said × SeesSaid said login day old new seen

-- what is told of a login's use is what a history has
abbrev pub IsUseOf : Book → Notice → Type 0
IsUseOf b (NearLimit login day usage) =
    (usage.used ≡ used (day_of b.zone) b.history login.now day) × (usage.cap ≡ cap b.default b.history login.now day)
IsUseOf b _ = ⊤

-- a limit of this cap was set where the cap was another, and a question said what it is now: from which it was lowered
abbrev pub Lowers : Result (Option Usage) LedgerFault → ℕ → Option ℕ → Option Notice → Type 0
Lowers (Ok (Some usage)) was lowered question = (lowered ≡ (if nat_le was usage.cap then None else Some was)) × (question ≡ None)
Lowers (Ok None) was lowered question = (lowered ≡ Some was) × (question ≡ None)
Lowers (Err fault) was lowered question = (lowered ≡ Some was) × (question ≡ Some FailedQuestion)

abbrev pub SeesAgain : List ℕ → ℕ → Option (List ReportedCall) → Option (List ReportedCall) → ℕ → Option ℕ → Option Notice → Type 0
SeesAgain login day asked asked' was lowered question =
    (said : Result (Option Usage) LedgerFault) × IsAnswered login day asked asked' said × Lowers said was lowered question

-- A limit was set where this cap held before, if that is known: the login is forgotten, and where the cap is lower now a
-- question says whether the limit changed it.
pub record SeesSet (before : Option ℕ) (cap : ℕ) (login : List ℕ) (day : ℕ) (asked asked' : Option (List ReportedCall)) (old new : Nearing)
    (lowered : Option ℕ) (question : Option Notice) : Type 0 where
  pub gone : known new.logins login ≡ None
  pub others : (l : List ℕ) → l ≢ login → known new.logins l ≡ known old.logins l
  pub above : ((was : ℕ) → before ≡ Some was → cap < was → ⊥) → (lowered ≡ None) × (question ≡ None) × (asked' ≡ asked)
  pub below : (was : ℕ) → before ≡ Some was → cap < was → SeesAgain login day asked asked' was lowered question

-- a limit was answered so, and before it a question for the cap
abbrev pub SeesLowering : Result (Option ℕ) LedgerFault → OrderVerdict → ℕ → List ℕ → ℕ → Option (List ReportedCall) → Option (List ReportedCall)
    → Nearing → Nearing → Option ℕ → Option Notice → Type 0
SeesLowering (Err fault) v cap login day asked asked' old new lowered question =
    (lowered ≡ None) × (question ≡ Some FailedQuestion) × (new ≡ old) × (asked' ≡ asked)
SeesLowering (Ok before) Set cap login day asked asked' old new lowered question =
    SeesSet before cap login day asked asked' old new lowered question
SeesLowering (Ok before) _ cap login day asked asked' old new lowered question =
    (lowered ≡ None) × (question ≡ None) × (new ≡ old) × (asked' ≡ asked)

-- the line of a limit
abbrev pub IsLimit : List ℕ → ℕ → ℕ → Option ℕ → OrderVerdict → Option Notice → Type 0
IsLimit login day cap lowered v (Some (Limit l d c w u)) = (l.now ≡ login) × (d ≡ day) × (c ≡ cap) × (w ≡ lowered) × (u ≡ v)
IsLimit login day cap lowered v _ = ⊥

pub record SeesLimit (peer : SocketAddr) (login : List ℕ) (day cap : ℕ) (before : Result (Option ℕ) LedgerFault) (v : OrderVerdict)
    (asked asked' : Option (List ReportedCall)) (old new : Nearing) (seen : RequestNotices) : Type 0 where
  pub lowered : Option ℕ
  pub lowering : SeesLowering before v cap login day asked asked' old new lowered seen.question
  pub limit : IsLimit login day cap lowered v seen.main
  pub alone : seen ≡ record (nothing peer) { question = seen.question; main = seen.main }

-- the line of a retire
abbrev pub IsRetire : Id → OrderVerdict → Option Notice → Type 0
IsRetire id v (Some (Retire i u)) = (i.now ≡ id) × (u ≡ v)
IsRetire id v _ = ⊥

-- the line of a retire that is ahead of the server's clock, in milliseconds
abbrev pub IsAheadLine : Id → ℕ → Option Notice → Type 0
IsAheadLine id now (Some (Ahead i n)) = (i.now ≡ id) × (n ≡ now)
IsAheadLine id now _ = ⊥

-- this host reserves for this day, which is ahead of that one
abbrev pub IsAheadDay : List ℕ → ℕ → ℕ → Notice → Type 0
IsAheadDay host day today (AheadDay h d t) = (h.now ≡ host) × (d ≡ day) × (t ≡ today)
IsAheadDay host day today _ = ⊥

-- A host reserves for a day that is ahead of today: that is told once an hour at most, beside other far days.
pub record SeesAheadDay (host : List ℕ) (day : ℕ) (now : ServerTime) (old new : NamedHosts) (seen : Option Notice) : Type 0 where
  pub names : Names old host (now.millis / 1000) (is_some seen) new
  pub says : IfSome seen (IsAheadDay host day now.today)

-- what is seen of a request of this peer that isn't put to the ledger, since it is ahead of this time
abbrev pub SeesAhead : (ℕ → ℕ) → SocketAddr → Option ServerTime → Notes → Notes → RequestNotices → Request → Type 0
SeesAhead day peer (Some now) old new seen (request.Retire id) =
    IsAheadLine id now.millis seen.main × (seen ≡ record (nothing peer) { main = seen.main }) × (new ≡ old)
SeesAhead day peer (Some now) old new seen (request.Reserve id txn moment login count) =
    SeesAheadDay id.host (day moment) now old.hosts new.hosts seen.day
    × (seen ≡ record (nothing peer) { day = seen.day }) × (new ≡ record old { hosts = new.hosts })
SeesAhead day peer now old new seen _ = ⊥

-- its peer may not ask this request
abbrev pub IsForbidden : Request → Notice → Type 0
IsForbidden r (Forbidden request) = request.now ≡ r
IsForbidden r _ = ⊥

-- A request came from an address that may not ask it: that is told once an hour and address.
pub record SeesStranger (address : IpAddr) (now : ℕ) (old new : Strangers) (seen : Option Notice) (r : Request) : Type 0 where
  pub tells : (before : Option (Unit {0})) → IsKnownAt old.addresses.since old.addresses.names now (octets_of_ip address) before
      → TellsOnce before (is_some seen) (known new.addresses.names (octets_of_ip address))
  pub others : (l : List ℕ) (before : Option (Unit {0})) → l ≢ octets_of_ip address
      → IsKnownAt old.addresses.since old.addresses.names now l before → known new.addresses.names l ≡ before
  pub says : IfSome seen (IsForbidden r)

-- what is seen of a request that isn't put to the ledger, since this peer may not ask it; nothing where the clock can't be read
abbrev pub SeesForbidden : Peer → Option ℕ → Strangers → Strangers → RequestNotices → Request → Type 0
SeesForbidden peer None old new seen r = (seen ≡ nothing peer.address) × (new ≡ old)
SeesForbidden peer (Some now) old new seen r =
    SeesStranger (socket_ip peer.address) now old new seen.main r × (seen ≡ record (nothing peer.address) { main = seen.main })

-- A granted reserve may near the limit; no other reserve asks the ledger.
abbrev pub SeesGrant : Result Reply LedgerFault → List ℕ → ℕ → Option (List ReportedCall) → Option (List ReportedCall) → Nearing → Nearing → Option Notice → Type 0
SeesGrant (Ok (reply.Granted i used)) login day asked asked' old new seen = SeesGranted login day used asked asked' old new seen
SeesGrant _ login day asked asked' old new seen = (seen ≡ None) × (new ≡ old) × (asked' ≡ asked)

-- What is seen of a request of this peer, answered so, at this time of the server's clock in milliseconds; a limit came where a
-- question had said this cap before. The calls of the ledger and what was noted go from the first to the second.
abbrev pub Sees : (ℕ → ℕ) → SocketAddr → Result (Option ℕ) LedgerFault → Result Reply LedgerFault → Option ℕ
    → Option (List ReportedCall) → Option (List ReportedCall) → Notes → Notes → RequestNotices → Request → Type 0
Sees day peer before answer now asked asked' old new seen (request.Limit id from_day cap login) =
    SeesLimit peer login from_day cap before (verdict answer) asked asked' old.nearing new.nearing seen
    × (new ≡ record old { nearing = new.nearing })
Sees day peer before answer now asked asked' old new seen (request.Reserve id txn moment login count) =
    (seen.peer ≡ peer) × (seen.question ≡ None) × SeesReserve day peer id moment login answer (seconds_at now) old new seen
    × SeesGrant answer login (day moment) asked asked' old.nearing new.nearing seen.main
Sees day peer before answer now asked asked' old new seen (request.Settle id txn moment login count) =
    SeesRun id answer (seconds_at now) old.retired new.retired seen.refusal
    × (seen ≡ record (nothing peer) { refusal = seen.refusal }) × (new ≡ record old { retired = new.retired }) × (asked' ≡ asked)
Sees day peer before answer now asked asked' old new seen (request.Release id txn moment login) =
    SeesRun id answer (seconds_at now) old.retired new.retired seen.refusal
    × (seen ≡ record (nothing peer) { refusal = seen.refusal }) × (new ≡ record old { retired = new.retired }) × (asked' ≡ asked)
Sees day peer before answer now asked asked' old new seen (request.Retire id) =
    IsRetire id (verdict answer) seen.main × (seen ≡ record (nothing peer) { main = seen.main }) × (new ≡ old) × (asked' ≡ asked)
Sees day peer before answer now asked asked' old new seen _ = (seen ≡ nothing peer) × (new ≡ old) × (asked' ≡ asked)

-- the same of a request that is put to a ledger, after the question for a limit
abbrev pub SeesPut : (ℕ → ℕ) → SocketAddr → Result Reply LedgerFault → Option ℕ → Option (List ReportedCall) → Notes → Notes → RequestNotices → Request → Type 0
SeesPut day peer answer now asked' old new seen r = (before : Result (Option ℕ) LedgerFault) × (asked : Option (List ReportedCall))
    × Sees day peer before answer now asked asked' old new seen r

-- the cap from which a limit was lowered is the one that a question before it said
abbrev pub TellsBefore : Result (Option ℕ) LedgerFault → Notice → Type 0
TellsBefore before (Limit l d c lowered v) = IfSome lowered (λ was. before ≡ Ok (Some was))
TellsBefore before _ = ⊤

abbrev pub TellsFrom : Request → Result (Option ℕ) LedgerFault → Option Notice → Type 0
TellsFrom (request.Limit id from_day cap login) before main = IfSome main (TellsBefore before)
TellsFrom _ before main = ⊤

-- what a reserve's line says of its login's use is what the book has
abbrev pub TellsUse : Book → Request → Option Notice → Type 0
TellsUse b (request.Reserve id txn moment login count) main = IfSome main (IsUseOf b)
TellsUse b _ main = ⊤
