-- Over which link a server is asked.
use Rattle.std.specs.Prelude.{◌≡◌, ◌*◌, ℕ, List, Option}
use Rattle.std.specs.Duration.{as_nanos}
use Rattle.std.specs.declared.net.SocketAddr.{SocketAddr}
use Rattle.mq_link.specs.declared.link.ReportedExchange.{ReportedExchange}
use Rattle.mq_link.specs.Exchange.{Route, LinkState}

-- a link over TCP leads to this address, and a connection may take so many milliseconds to be made
pub record LeadsTo {S : Type 0} (link : LinkState Route S) (address : SocketAddr) (timeout : ℕ) : Type 0 where
  pub there : link.connector.address ≡ address
  pub in_time : as_nanos link.connector.timeout ≡ timeout * 1000000

-- Over a link of this kind that leads to the address it was asked so: by the exchanges that the link tells before and after,
-- and what an output held before and after.
pub record AsksOver {L : Type 0} (leads : L → SocketAddr → ℕ → Type 0) (told : L → Option (List ReportedExchange))
    (address : SocketAddr) (timeout : ℕ)
    (Asks : Option (List ReportedExchange) → Option (List ReportedExchange) → Option (List ℕ) → Option (List ℕ) → Type 0) : Type 0 where
  pub link : L
  pub after : L
  pub output : Option (List ℕ)
  pub output' : Option (List ℕ)
  pub is_led : leads link address timeout
  pub asked : Asks (told link) (told after) output output'
