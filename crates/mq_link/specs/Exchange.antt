-- What one exchange with the quota server writes and reads over its connection, and why it fails.
use Rattle.std.specs.Prelude.{ℕ, Bool, true, false, List, Option}
use Rattle.std.specs.Io.KnownBytes.{Appends}
use Rattle.std.specs.IoError.{error_kind}
use Rattle.std.specs.declared.io.ErrorKind.{ErrorKind}
use Rattle.std.specs.declared.io.ErrorKind.TheVariants as kind
use Rattle.std.specs.declared.net.SocketAddr.{SocketAddr}
use Rattle.std.specs.declared.time.Duration.{Duration}
use Rattle.mq_link.specs.Body.{IsReceived}
use Rattle.mq_link.specs.declared.body.BodyFault.{BodyFault}
use Rattle.mq_link.specs.declared.body.BodyFault.TheVariants as body
use Rattle.mq_link.specs.declared.link.LinkFault.{LinkFault}
use Rattle.mq_link.specs.declared.link.LinkFault.TheVariants.{Down, TimedOut, Memory}
use Rattle.mq_link.specs.declared.kept.KeptStream.{KeptStream}
use Rattle.mq_link.specs.declared.trouble.Trouble.{Trouble}
use Rattle.mq_link.specs.declared.trouble.Trouble.TheVariants.{System, Empty, Memory as OutOfMemory}

-- a call that took too long timed out; whatever else went wrong, the server can't be reached
abbrev pub fault_of : ErrorKind → LinkFault
fault_of kind.TimedOut = TimedOut
fault_of kind.WouldBlock = TimedOut
fault_of _ = Down

-- why no body was read, as a link keeps it
abbrev pub body_trouble : BodyFault → Trouble
body_trouble (body.Read error) = System error
body_trouble body.Empty = Empty
body_trouble body.Memory = OutOfMemory

-- the same, of whatever kept a reply away
abbrev pub trouble_fault : Trouble → LinkFault
trouble_fault (System error) = fault_of (error_kind error)
trouble_fault Empty = Down
trouble_fault OutOfMemory = Memory

-- whether a fault may come of a connection that was closed
abbrev pub is_down : LinkFault → Bool
is_down Down = true
is_down _ = false

-- whether a connection that was kept is gone: a call over it failed, and not for want of time
abbrev pub is_gone : Trouble → Bool
is_gone (System error) = is_down (fault_of (error_kind error))
is_gone _ = false

-- where connections over TCP lead, and how long each may take to be made
pub record Route : Type 0 where
  pub address : SocketAddr
  pub timeout : Duration

-- what makes the connections of a link, whether it keeps them, and the connection that it kept
pub record LinkState (C S : Type 0) : Type 0 where
  pub connector : C
  pub keeps : Bool
  pub kept : Option (KeptStream S)

-- Of the streams of a kind, some are new, and each reports the bytes that were written to it.

-- the frame was written, whole and alone, over a connection that was new, and left it so
pub record IsSent {S : Type 0} (is_new : S → Type 0) (contents : S → Option (List ℕ)) (frame : List ℕ) (sent : S)
    : Type 0 where
  pub opened : S
  pub begun : is_new opened
  pub written : Appends (contents opened) (contents sent) frame

-- the frame was sent over a new connection, and then the frame of the body was read from it
pub record IsExchange {S : Type 0} (is_new : S → Type 0) (contents remaining : S → Option (List ℕ))
    (frame body : List ℕ) : Type 0 where
  pub sent : S
  pub is_sent : IsSent is_new contents frame sent
  pub left : Option (List ℕ)
  pub received : IsReceived (remaining sent) left body
