-- A filter run on its way through worlds with several servers, between which the address moves, and which forget days.
-- Of exchanges the newest comes first.
use Rattle.std.specs.Prelude.{◌≡◌, ◌≤◌, ℕ, List, [], ◌∷◌, ◌++◌}
use Rattle.mq_ledger.specs.Legal.{Book}
use Rattle.mq_client.specs.Exchanges.{Exchange}
use Rattle.mq_client.specs.Past.{Source}
use Rattle.mq_frame.specs.Spelling.{request_frame}
use Rattle.mq_world.specs.World.{Site, Run, World, with_run, with_sent, MayCome, Next}
use Rattle.mq_world.specs.Forgetting.{forgotten}
use Rattle.mq_world.specs.Together.{Together, with_ledger}

-- with this world, and the ledgers that stand by as they are
abbrev pub with_world : Together → World → Together
with_world c w = record { world = w; standby = c.standby }

-- with one run as it is now
abbrev pub with_run_in : Together → Source → Run → Together
with_run_in c s r = with_world c (with_run c.world s r)

-- others go on: steps of the world that leave the run s as it is, moves of the address, and forgettings of days before F
pub data OthersGoOnTogether (site : Site) (s : Source) (F : ℕ) (c : Together) : Together → Type 0 where
  StillThere : OthersGoOnTogether site s F c c
  WorldSteps : (mid : Together) (later : World) → OthersGoOnTogether site s F c mid → Next site mid.world later
      → later.runs s ≡ mid.world.runs s → OthersGoOnTogether site s F c (with_world mid later)
  AddressMoves : (mid : Together) (before after : List Book) (b : Book) → OthersGoOnTogether site s F c mid
      → mid.standby ≡ before ++ b ∷ after
      → OthersGoOnTogether site s F c (record { world = with_ledger b mid.world; standby = before ++ mid.world.ledger ∷ after })
  LedgerForgets : (mid : Together) (D : ℕ) → OthersGoOnTogether site s F c mid → D ≤ F
      → OthersGoOnTogether site s F c (with_world mid (forgotten D mid.world))

-- What goes on around a run while it makes these exchanges, its own lines and steps left out: the frame of each is sent,
-- others go on, what it brings may come by then, and others go on.
pub data GoesOnAmid (others : Together → Together → Type 0) (c : Together) : List Exchange → Together → Type 0 where
  OthersAlone : (later : Together) → others c later → GoesOnAmid others c [] later
  OneMoreExchange : (x : Exchange) (group : List Exchange) (before ended later : Together) → GoesOnAmid others c group before
      → others (with_world before (with_sent before.world (request_frame x.request))) ended
      → MayCome ended.world.written x.outcome → others ended later → GoesOnAmid others c (x ∷ group) later
