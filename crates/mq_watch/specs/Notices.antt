-- What is logged of a request: its values, their order and their levels.
use Rattle.std.specs.Prelude.{List, [], ◌∷◌, Option, None, Result, Ok, Err}
use Rattle.std.specs.Borrow.{Bor}
use Rattle.std.specs.declared.net.SocketAddr.{SocketAddr}
use Rattle.log.specs.declared.level.Level.{Level}
use Rattle.log.specs.declared.level.Level.TheVariants.{Error, Warn, Info}
use Rattle.mq_request.specs.declared.message.Reply.{Reply}
use Rattle.mq_request.specs.declared.message.Reply.TheVariants as reply
use Rattle.mq_ledger.specs.declared.ledger.LedgerFault.{LedgerFault}
use Rattle.mq_watch.specs.declared.notice.Notice.{Notice}
use Rattle.mq_watch.specs.declared.notice.Notice.TheVariants.{Limit, Retire, Ahead, FailedQuestion}
use Rattle.mq_watch.specs.declared.notice.RequestNotices.{RequestNotices}
use Rattle.mq_watch.specs.declared.notice.OrderVerdict.{OrderVerdict}
use Rattle.mq_watch.specs.declared.notice.OrderVerdict.TheVariants as verdicts

-- an answer of which the reply was lent
abbrev pub answered : Result (Bor Reply) LedgerFault → Result Reply LedgerFault
answered (Ok reply) = Ok reply.now
answered (Err fault) = Err fault

-- what an answer says of a limit or a retire
abbrev pub verdict : Result Reply LedgerFault → OrderVerdict
verdict (Ok (reply.LimitSet id)) = verdicts.Set
verdict (Ok (reply.Retired id)) = verdicts.Retired
verdict (Ok (reply.Over id day used)) = verdicts.Over day used
verdict (Ok (reply.Conflict id)) = verdicts.Conflict
verdict (Ok (reply.Old id)) = verdicts.Old
verdict (Ok _) = verdicts.Other
verdict (Err fault) = verdicts.Fault fault

-- A failed store and a retire that isn't taken are errors; a limit that lowers none and a retire are told for information;
-- all else is a warning.
abbrev pub level_of : Notice → Level
level_of (Limit login from_day cap None verdict) = Info
level_of (Retire id verdict) = Info
level_of (Ahead id now) = Error
level_of FailedQuestion = Error
level_of _ = Warn

-- nothing is to be logged
abbrev pub nothing : SocketAddr → RequestNotices
nothing peer = record { peer = peer; day = None; address = None; refusal = None; question = None; main = None }

-- the lines of a request, one after the other
abbrev pub in_order : RequestNotices → List (Option Notice)
in_order seen = seen.day ∷ seen.address ∷ seen.refusal ∷ seen.question ∷ seen.main ∷ []
