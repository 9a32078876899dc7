-- Worlds whose servers go by a table of who may ask what: anyone else may send anything, from anywhere.
use Rattle.std.specs.Prelude.{◌≡◌, ◌≤◌, ℕ, List, ◌∷◌, ◌++◌, false, ◌||◌, IsTrue, ⊤, Some}
use Rattle.mq_request.specs.declared.message.Id.{Id}
use Rattle.mq_request.specs.declared.message.Request.{Request}
use Rattle.mq_frame.specs.Spelling.{SpellsRequest, frame}
use Rattle.mq_ledger.specs.Legal.{Book}
use Rattle.mq_permits.specs.Permits.{allows, are_from, is_of_host}
use Rattle.mq_permits.specs.declared.peer.Peer.{Peer}
use Rattle.mq_permits.specs.declared.permits.Permits.{Permits}
use Rattle.mq_client.specs.Numbers.{id_in}
use Rattle.mq_world.specs.World.{Site, World, Next, Reads, ReadsEnd, Sends, Ends, Takes, OthersSend, Stops, source_of, with_sent}
use Rattle.mq_world.specs.Forgetting.{forgotten}
use Rattle.mq_world.specs.Together.{Together, with_ledger}

-- the table allows the peer each request that these bytes spell
abbrev pub AreAllowed : Permits → Peer → List ℕ → Type 0
AreAllowed permits peer bytes = (body : List ℕ) (q : Request) → bytes ≡ frame body → SpellsRequest body q → IsTrue (allows permits peer q)

-- Where the peer asks from an address of a host, or from an administrator's, these bytes spell no request of a filter run
-- of that host: no two that share host and run ask from there.
abbrev pub IsApart : Site → Permits → Peer → List ℕ → Type 0
IsApart site permits peer bytes = (body : List ℕ) (q : Request) (id : Id) → bytes ≡ frame body → SpellsRequest body q → id_in q ≡ Some id
    → IsTrue (is_of_host permits peer id.host || are_from peer permits.admin.items) → site.is_run (source_of id) ≡ false

-- a step of filter runs or of the ledger
abbrev pub IsOwn : {site : Site} {w later : World} → Next site w later → Type 0
IsOwn (Reads s line quiet is none) = ⊤
IsOwn (ReadsEnd s is) = ⊤
IsOwn (Sends s q is none next) = ⊤
IsOwn (Ends s x is on_way came decided) = ⊤
IsOwn (Takes which body q at spells) = ⊤
IsOwn (OthersSend bytes is) = ⊥
IsOwn (Stops s is) = ⊤

-- What may happen. What others send and the table doesn't allow is never taken: a loss.
pub data NextPermitted (site : Site) (permits : Permits) (w : World) : World → Type 0 where
  -- filter runs and the ledger go on
  GoOn : (later : World) (step : Next site w later) → IsOwn step → NextPermitted site permits w later
  -- anyone else sends, from some address, what the table allows there
  OthersAsk : (peer : Peer) (bytes : List ℕ) → AreAllowed permits peer bytes → IsApart site permits peer bytes
      → NextPermitted site permits w (with_sent w bytes)

-- the same with several servers, which have one table
pub data ReachesPermitted (site : Site) (permits : Permits) (start : Together) (F : ℕ) : Together → Type 0 where
  AtStart : ReachesPermitted site permits start F start
  -- the ledger at the address takes what comes and is allowed
  StepsPermitted : (c : Together) (later : World) → ReachesPermitted site permits start F c → NextPermitted site permits c.world later
      → ReachesPermitted site permits start F (record { world = later; standby = c.standby })
  -- the address moves to another server
  MovesOver : (c : Together) (before after : List Book) (b : Book) → ReachesPermitted site permits start F c
      → c.standby ≡ before ++ b ∷ after
      → ReachesPermitted site permits start F (record { world = with_ledger b c.world; standby = before ++ c.world.ledger ∷ after })
  -- the ledger at the address forgets days before F
  ForgetsDays : (c : Together) (D : ℕ) → ReachesPermitted site permits start F c → D ≤ F
      → ReachesPermitted site permits start F (record { world = forgotten D c.world; standby = c.standby })
