-- Limits that each server gets by its own default: its share of a number, or the default itself.
use Rattle.std.specs.Prelude.{◌≡◌, ◌⊎◌, ◌<◌, ◌+◌, ◌==◌, ℕ, List, [], ◌∷◌, Bool, true, false, Option, None, Some, Result, Ok, Err, length, max, ⊤}
use Rattle.std.specs.Io.KnownBytes.{Keeps}
use Rattle.std.specs.Net.Grammar.{IsSocketText}
use Rattle.std.specs.declared.net.SocketAddr.{SocketAddr}
use Rattle.mq_request.specs.Range.{IsAmount}
use Rattle.mq_request.specs.declared.message.Request.{Request}
use Rattle.mq_link.specs.declared.link.ReportedExchange.{ReportedExchange}
use Rattle.mq_command.specs.Allowing.{limit_of}
use Rattle.mq_command.specs.Lower.{FoundLower}
use Rattle.mq_command.specs.Orders.{Orders, OrdersFresh, Prints, PrintsLine}
use Rattle.mq_command.specs.Printed.{heading_line}
use Rattle.mq_command.specs.Resuming.{RunsResume}
use Rattle.mq_command.specs.Shares.{AsksDefault, cap_of, printed_end, set_end, set_line, share_of, sum_line}
use Rattle.mq_command.specs.declared.allow.Setter.{Setter}
use Rattle.mq_command.specs.declared.ask.NoAnswer.{NoAnswer}
use Rattle.mq_command.specs.declared.order.OrderFault.{OrderFault}
use Rattle.mq_command.specs.declared.outcome.SetEnd.{SetEnd}
use Rattle.mq_command.specs.declared.outcome.SetEnd.TheVariants.{Set, Refused, Unknown}
use Rattle.mq_process.specs.Links.{AsksOver}
use Rattle.mq_process.specs.declared.asking.TheConstants.{TIMEOUT}
use Rattle.mq_remote.specs.declared.subcommands.shares.ShareEnd.{ShareEnd}
use Rattle.mq_remote.specs.declared.subcommands.shares.ShareEnd.TheVariants as came
use Rattle.mq_remote.specs.declared.subcommands.shares.ShareEnd.TheVariants.{Given, Missing}
use Rattle.mq_remote.specs.declared.subcommands.shares.ShareOrder.{ShareOrder}
use Rattle.mq_remote.specs.declared.subcommands.shares.ShareOrder.TheVariants.{Numbered, Fresh, More}
use Rattle.mq_remote.specs.declared.subcommands.shares.ShareRule.{ShareRule}
use Rattle.mq_remote.specs.declared.subcommands.shares.ShareRule.TheVariants.{Part, Default}

-- the words name no server, and there are several
abbrev pub AreSeveral : List (List ℕ) → List (List ℕ) → Type 0
AreSeveral words servers = (words ≡ []) × (1 < length servers)

-- the numbers of a rule are 0 to 1,000,000
abbrev pub IsRule : ShareRule → Type 0
IsRule (Part number first) = IsAmount number × IsAmount first
IsRule Default = ⊤

-- a server's share by its default: as large a part of the number as that is of the first server's default, or the default itself
abbrev pub share_by : ShareRule → ℕ → ℕ
share_by (Part number first) default = share_of number default first
share_by Default default = default

-- a limit was sent to the server of this name, under its number alone or under the first one that isn't used, and printed with it,
-- which ended so
abbrev pub SetsShare : Bool → Request → List ℕ → SetEnd → Option (List ReportedExchange) → Option (List ReportedExchange) → Option (List ℕ) → Option (List ℕ) → Type 0
SetsShare true request server end old new output output' =
    (sent : Result (Unit {0}) OrderFault) × (status : ℕ) × (end ≡ set_end sent status) × Orders request old new sent
    × Prints (λ _. set_line (cap_of request) server) output output' sent status
SetsShare false request server end old new output output' =
    (sent : Result (Unit {0}) OrderFault) × (status : ℕ) × (end ≡ set_end sent status) × OrdersFresh request old new sent
    × Prints (λ _. set_line (cap_of request) server) output output' sent status

-- the login was to have so many more from this day on, and that was printed below a line that names the server
abbrev pub GivesMoreAt : Setter → ℕ → List ℕ → ℕ → ℕ → Option (List ReportedExchange) → Option (List ReportedExchange) → Option (List ℕ) → Option (List ℕ) → Type 0
GivesMoreAt setter day server more status old new output output' =
    (headed : Option (List ℕ)) × (told said : ℕ) × (found : FoundLower) × PrintsLine (heading_line server) output headed told
    × RunsResume setter day more found said old new headed output' × (status ≡ max told said)

-- the server of this name was asked for a share of a login's, which ended so; whether it refuses that it may have more isn't told apart
abbrev pub GivesShare : ShareOrder → Setter → ℕ → List ℕ → ℕ → SetEnd → Option (List ReportedExchange) → Option (List ReportedExchange) → Option (List ℕ) → Option (List ℕ) → Type 0
GivesShare Numbered setter day server share end old new output output' = SetsShare true (limit_of setter 1 day share) server end old new output output'
GivesShare Fresh setter day server share end old new output output' = SetsShare false (limit_of setter 1 day share) server end old new output output'
GivesShare More setter day server share end old new output output' =
    (status : ℕ) × (end ≡ printed_end status) × GivesMoreAt setter day server share status old new output output'

-- what asking for a share came to, by how that ended
abbrev pub share_end : SetEnd → ℕ → ShareEnd
share_end Set share = Given share
share_end Refused share = came.Refused
share_end Unknown share = Missing

-- a share that was given is 0 to 1,000,000
abbrev pub IsGiven : ShareEnd → Type 0
IsGiven (Given share) = IsAmount share
IsGiven end = ⊤

-- The server was asked for its default, and then for the share by it, which ended so; or it gave no answer to the first.
abbrev pub SharesThere : ShareOrder → Setter → ℕ → ShareRule → List ℕ → ShareEnd → Option (List ReportedExchange) → Option (List ReportedExchange) → Option (List ℕ) → Option (List ℕ) → Type 0
SharesThere order setter day rule server end old new output output' =
    ((fault : NoAnswer) × AsksDefault day old new (Err fault) × Keeps output output' × (end ≡ Missing))
    ⊎ ((default : ℕ) × (set : SetEnd) × (asked : Option (List ReportedExchange)) × AsksDefault day old asked (Ok default)
    × (end ≡ share_end set (share_by rule default)) × GivesShare order setter day server (share_by rule default) set asked new output output')

-- the server at an address was asked so
abbrev pub SharesAt : {L : Type 0} → (L → SocketAddr → ℕ → Type 0) → (L → Option (List ReportedExchange)) → ShareOrder → Setter → ℕ → ShareRule
    → List ℕ → SocketAddr → ShareEnd → Type 0
SharesAt leads told order setter day rule server address end =
    AsksOver leads told address TIMEOUT (SharesThere order setter day rule server end)

-- 1 where a server gave no share, and else as before
abbrev pub status_with : ShareEnd → ℕ → ℕ
status_with (Given share) status = status
status_with end status = 1

-- with the share of a server that gave it
abbrev pub sum_with : ShareEnd → ℕ → ℕ
sum_with (Given share) sum = sum + share
sum_with end sum = sum

-- The servers at these addresses were asked so in turn, each once, in this order, whatever the ones before said, which led to this
-- status and to this sum of what they gave.
pub data SharesEach (At : List ℕ → SocketAddr → ShareEnd → Type 0) (status sum : ℕ) : List (List ℕ) → ℕ → ℕ → Type 0 where
  all_shared : SharesEach At status sum [] status sum
  one_shared : (text : List ℕ) (texts : List (List ℕ)) (address : SocketAddr) (end : ShareEnd) (so_far so_much : ℕ)
      → IsSocketText text address → At text address end → SharesEach At status sum texts (status_with end so_far) (sum_with end so_much)
      → SharesEach At status sum (text ∷ texts) so_far so_much

-- after which day the sum holds: on the day of a `resume` a login has what it used besides
abbrev pub after_of : ShareOrder → ℕ → Option ℕ
after_of More day = Some day
after_of order day = None

-- the sum is printed where several servers gave their shares
abbrev pub EndsShares : Bool → Option ℕ → ℕ → ℕ → ℕ → Type 0
EndsShares is_alone after so_far sum status =
    ((is_alone ≡ true) × (status ≡ so_far))
    ⊎ (((0 < so_far) × (status ≡ so_far))
    ⊎ ((so_far ≡ 0) × (output output' : Option (List ℕ)) × PrintsLine (sum_line sum after) output output' status))

-- What asking servers for their shares leads to.
abbrev pub SharesAmong : {L : Type 0} → (L → SocketAddr → ℕ → Type 0) → (L → Option (List ReportedExchange)) → ShareOrder → Setter → ℕ → ShareRule
    → List (List ℕ) → ℕ → Type 0
SharesAmong leads told order setter day rule servers status =
    (so_far sum : ℕ) × SharesEach (SharesAt leads told order setter day rule) so_far sum servers 0 0
    × EndsShares (length servers == 1) (after_of order day) so_far sum status

-- a server's default, or none where it gave no answer
abbrev pub DefaultAt : ℕ → Option ℕ → Option (List ReportedExchange) → Option (List ReportedExchange) → Option (List ℕ) → Option (List ℕ) → Type 0
DefaultAt day (Some default) old new output output' = AsksDefault day old new (Ok default)
DefaultAt day None old new output output' = (fault : NoAnswer) × AsksDefault day old new (Err fault)

-- What asking the others for their shares leads to, after the first.
abbrev pub SharesOthers : {L : Type 0} → (L → SocketAddr → ℕ → Type 0) → (L → Option (List ReportedExchange)) → ShareOrder → Setter → ℕ → ShareRule
    → List (List ℕ) → ShareEnd → ℕ → Type 0
SharesOthers leads told order setter day rule others first status =
    (so_far sum : ℕ) × SharesEach (SharesAt leads told order setter day rule) so_far sum others (status_with first 0) (sum_with first 0)
    × EndsShares (length others == 0) (after_of order day) so_far sum status

-- What follows what came of asking the first server for its share: where it refuses that, no other is asked.
abbrev pub SharesAfterFirst : {L : Type 0} → (L → SocketAddr → ℕ → Type 0) → (L → Option (List ReportedExchange)) → ShareOrder → Setter → ℕ → ShareRule
    → List (List ℕ) → ShareEnd → ℕ → Type 0
SharesAfterFirst leads told order setter day rule others came.Refused status = status ≡ 1
SharesAfterFirst leads told order setter day rule others first status = SharesOthers leads told order setter day rule others first status

-- What asking the first server, at this address, for its share leads to, and then the others.
abbrev pub SharesFrom : {L : Type 0} → (L → SocketAddr → ℕ → Type 0) → (L → Option (List ReportedExchange)) → ShareOrder → Setter → ℕ → ShareRule
    → List ℕ → SocketAddr → List (List ℕ) → ℕ → Type 0
SharesFrom leads told order setter day rule server address others status =
    (end : ShareEnd) × SharesAt leads told order setter day rule server address end × SharesAfterFirst leads told order setter day rule others end status

-- what follows, by the default of the first server
abbrev pub SharesBy : {L : Type 0} → (L → SocketAddr → ℕ → Type 0) → (L → Option (List ReportedExchange)) → ShareOrder → Setter → ℕ → ℕ
    → List ℕ → SocketAddr → List (List ℕ) → Option ℕ → ℕ → Type 0
SharesBy leads told order setter day number server address others (Some first) status =
    SharesFrom leads told order setter day (Part number first) server address others status
SharesBy leads told order setter day number server address others None status = status ≡ 1

-- What asking servers for their shares of a number leads to: the first is asked for its default, and then for its share. Where it
-- gives no default or refuses the number, no other is asked.
abbrev pub SharesNumber : {L : Type 0} → (L → SocketAddr → ℕ → Type 0) → (L → Option (List ReportedExchange)) → ShareOrder → Setter → ℕ → ℕ
    → List (List ℕ) → ℕ → Type 0
SharesNumber leads told order setter day number [] status = status ≡ 1
SharesNumber leads told order setter day number (server ∷ others) status =
    (address : SocketAddr) × (first : Option ℕ) × IsSocketText server address × AsksOver leads told address TIMEOUT (DefaultAt day first)
    × SharesBy leads told order setter day number server address others first status
