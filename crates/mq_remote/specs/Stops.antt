-- How a login is stopped at several servers, of which some may give no answer.
use Rattle.std.specs.Prelude.{◌≡◌, ◌⊎◌, ◌++◌, ◌∷◌, ◌==◌, [], ℕ, List, Bool, true, false, Option, length}
use Rattle.std.specs.Net.Grammar.{IsSocketText}
use Rattle.std.specs.declared.net.SocketAddr.{SocketAddr}
use Rattle.mq_link.specs.declared.link.ReportedExchange.{ReportedExchange}
use Rattle.mq_command.specs.Stopping.{HasSent, RunsStop}
use Rattle.mq_command.specs.declared.allow.Setter.{Setter}
use Rattle.mq_command.specs.declared.stop.SentLately.{SentLately}
use Rattle.mq_command.specs.declared.stop.SentLately.TheVariants as sent
use Rattle.mq_command.specs.declared.stop.StopOrder.{StopOrder}
use Rattle.mq_command.specs.declared.stop_end.StopEnd.{StopEnd}
use Rattle.mq_command.specs.declared.stop_end.StopEnd.TheVariants.{Stopped, Failed, Unanswered}
use Rattle.mq_process.specs.Links.{AsksOver}
use Rattle.mq_process.specs.declared.asking.TheConstants.{TIMEOUT}

-- the server at an address was asked within this time whether this login used something on this day or one of the two before
abbrev pub UseAt : {L : Type 0} → (L → SocketAddr → ℕ → Type 0) → (L → Option (List ReportedExchange)) → List ℕ → ℕ → ℕ → SocketAddr → SentLately → Type 0
UseAt leads told login day timeout address said =
    AsksOver leads told address timeout (λ old new output output'. HasSent login day old new said)

-- The servers at these addresses were asked so in turn, each once, in this order, up to the first that said the login used something:
-- then it is meant. Where none says so it is where one gave no answer, or didn't take the question, which may know more.
pub data AsksUse (Asks : SocketAddr → SentLately → Type 0) : List (List ℕ) → Bool → Bool → Type 0 where
  all_asked : (is_silent : Bool) → AsksUse Asks [] is_silent is_silent
  says_yes : (text : List ℕ) (texts : List (List ℕ)) (address : SocketAddr) (is_silent : Bool)
      → IsSocketText text address → Asks address sent.Yes → AsksUse Asks (text ∷ texts) is_silent true
  says_no : (text : List ℕ) (texts : List (List ℕ)) (address : SocketAddr) (is_silent meant : Bool)
      → IsSocketText text address → Asks address sent.No → AsksUse Asks texts is_silent meant
      → AsksUse Asks (text ∷ texts) is_silent meant
  takes_none : (text : List ℕ) (texts : List (List ℕ)) (address : SocketAddr) (is_silent meant : Bool)
      → IsSocketText text address → Asks address sent.NotTaken → AsksUse Asks texts true meant
      → AsksUse Asks (text ∷ texts) is_silent meant
  says_nothing : (text : List ℕ) (texts : List (List ℕ)) (address : SocketAddr) (is_silent meant : Bool)
      → IsSocketText text address → Asks address sent.Unanswered → AsksUse Asks texts true meant
      → AsksUse Asks (text ∷ texts) is_silent meant

-- what came of asking a server is how that ended; but where the line above it couldn't be printed, which says which server it
-- is, a login that is stopped counts as one that isn't
abbrev pub EndsAs : Bool → StopEnd → StopEnd → Type 0
EndsAs is_alone said end = (end ≡ said) ⊎ ((is_alone ≡ false) × (said ≡ Stopped) × (end ≡ Failed))

-- the server at an address was asked to stop the login, and what came of it was printed
abbrev pub StopsAt : {L : Type 0} → (L → SocketAddr → ℕ → Type 0) → (L → Option (List ReportedExchange)) → Setter → StopOrder → Bool → SocketAddr → StopEnd → Type 0
StopsAt leads told setter order is_alone address end =
    (said : StopEnd) × AsksOver leads told address TIMEOUT (RunsStop setter order said) × EndsAs is_alone said end

-- it gave no answer whether this login used something, or didn't take the question
abbrev pub GetsNoAnswer : {L : Type 0} → (L → SocketAddr → ℕ → Type 0) → (L → Option (List ReportedExchange)) → List ℕ → ℕ → SocketAddr → Type 0
GetsNoAnswer leads told login day address =
    UseAt leads told login day TIMEOUT address sent.NotTaken ⊎ UseAt leads told login day TIMEOUT address sent.Unanswered

-- the same in a later round, of a server that gave no answer before: where it gives none to a question either, that is all
abbrev pub StopsIn : {L : Type 0} → (L → SocketAddr → ℕ → Type 0) → (L → Option (List ReportedExchange)) → Setter → StopOrder → Bool → Bool → SocketAddr → StopEnd → Type 0
StopsIn leads told setter order is_alone false address end = StopsAt leads told setter order is_alone address end
StopsIn leads told setter order is_alone true address end =
    StopsAt leads told setter order is_alone address end
    ⊎ ((end ≡ Unanswered) × GetsNoAnswer leads told setter.login order.day address)

-- What a server adds to the status and to those that gave no answer: nothing where the login is stopped, a status of 1 where it
-- isn't, and where it gave no answer its place among those, or a status of 1 if there is no memory for that.
abbrev pub Adds : List ℕ → StopEnd → ℕ → List (List ℕ) → ℕ → List (List ℕ) → Type 0
Adds text Stopped status left status' left' = (status' ≡ status) × (left' ≡ left)
Adds text Failed status left status' left' = (status' ≡ 1) × (left' ≡ left)
Adds text Unanswered status left status' left' =
    ((status' ≡ status) × (left' ≡ left ++ text ∷ [])) ⊎ ((status' ≡ 1) × (left' ≡ left))

-- A round: the servers at these addresses were asked so in turn, each once, in this order, whatever the ones before said, which
-- led to this status and to these that gave no answer.
pub data StopsEach (At : SocketAddr → StopEnd → Type 0) (status : ℕ) (left : List (List ℕ)) : List (List ℕ) → ℕ → List (List ℕ) → Type 0 where
  no_server : StopsEach At status left [] status left
  one_server : (text : List ℕ) (texts : List (List ℕ)) (address : SocketAddr) (end : StopEnd) (so_far next : ℕ) (before after : List (List ℕ))
      → IsSocketText text address → At address end → Adds text end so_far before next after
      → StopsEach At status left texts next after
      → StopsEach At status left (text ∷ texts) so_far before

-- the exit status: the one so far where no server is left that gave no answer, and else 1
abbrev pub EndsWith : ℕ → List (List ℕ) → ℕ → Type 0
EndsWith so_far [] status = status ≡ so_far
EndsWith so_far (text ∷ texts) status = status ≡ 1

-- further rounds of those that are left, until none is or it ends all the same
pub data StopsRest (At : SocketAddr → StopEnd → Type 0) (status : ℕ) : List (List ℕ) → ℕ → Type 0 where
  ended : (left : List (List ℕ)) (so_far : ℕ) → EndsWith so_far left status → StopsRest At status left so_far
  round : (left after : List (List ℕ)) (so_far next : ℕ) → StopsEach At next after left so_far []
      → StopsRest At status after next → StopsRest At status left so_far

-- there are further rounds only where that is waited for
abbrev pub StopsOn : Bool → (SocketAddr → StopEnd → Type 0) → ℕ → List (List ℕ) → ℕ → Type 0
StopsOn false At status left so_far = EndsWith so_far left status
StopsOn true At status left so_far = StopsRest At status left so_far

-- What stopping a login at these servers leads to: a round of all of them, and further ones of those that give no answer.
pub record StopsAll {L : Type 0} (leads : L → SocketAddr → ℕ → Type 0) (told : L → Option (List ReportedExchange))
    (setter : Setter) (order : StopOrder) (is_waiting : Bool) (servers : List (List ℕ)) (status : ℕ) : Type 0 where
  pub first : ℕ
  pub left : List (List ℕ)
  pub each : StopsEach (StopsIn leads told setter order (length servers == 1) false) first left servers 0 []
  pub rest : StopsOn is_waiting (StopsIn leads told setter order (length servers == 1) true) status left first
