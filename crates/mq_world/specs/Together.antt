-- Worlds with several servers. One has the address that filters ask, and each has a ledger of its own.
use Rattle.std.specs.Prelude.{◌≡◌, ◌≤◌, ◌+◌, ℕ, List, ◌∷◌, ◌++◌}
use Rattle.std.specs.List.{AllByRecursion}
use Rattle.mq_ledger.specs.Day.{day_of}
use Rattle.mq_ledger.specs.History.{Transaction, held, settled_in, reserved, settled}
use Rattle.mq_ledger.specs.Legal.{Book}
use Rattle.mq_ledger.specs.Limits.{cap}
use Rattle.mq_world.specs.World.{Site, World, IsStart, Next}
use Rattle.mq_world.specs.Forgetting.{forgotten}

-- a world with the ledger of the server that has the address, and the ledgers of the others
pub record Together : Type 0 where
  pub world : World
  pub standby : List Book

-- all ledgers
abbrev pub ledgers : Together → List Book
ledgers c = c.world.ledger ∷ c.standby

-- the world with that ledger at the address: runs and frames are as they were
abbrev pub with_ledger : Book → World → World
with_ledger b w = record { runs = w.runs; ledger = b; sent = w.sent; written = w.written }

-- it is a start with whichever ledger, and all have one zone
pub record IsStartTogether (site : Site) (c : Together) : Type 0 where
  pub first : IsStart site c.world
  pub standby : AllByRecursion (λ b. IsStart site (with_ledger b c.world)) c.standby
  pub zones : AllByRecursion (λ b. b.zone ≡ c.world.ledger.zone) c.standby

-- What may happen. For a frame that comes late to a server without the address, the address moves there and back.
pub data ReachesTogether (site : Site) (start : Together) (F : ℕ) : Together → Type 0 where
  FromStart : ReachesTogether site start F start
  -- a step of the world: the ledger at the address takes what comes
  Steps : (c : Together) (later : World) → ReachesTogether site start F c → Next site c.world later
      → ReachesTogether site start F (record { world = later; standby = c.standby })
  -- the address moves to another server
  Moves : (c : Together) (before after : List Book) (b : Book) → ReachesTogether site start F c
      → c.standby ≡ before ++ b ∷ after
      → ReachesTogether site start F (record { world = with_ledger b c.world; standby = before ++ c.world.ledger ∷ after })
  -- the ledger at the address forgets days before F
  Forgets : (c : Together) (D : ℕ) → ReachesTogether site start F c → D ≤ F
      → ReachesTogether site start F (record { world = forgotten D c.world; standby = c.standby })

-- what a ledger holds or has settled of a transaction
abbrev pub kept_of : Transaction → Book → ℕ
kept_of t b = held b.history t + settled_in b.history t

-- what a ledger has settled and reserved of a login and day
abbrev pub used_of : List ℕ → ℕ → Book → ℕ
used_of l d b = settled (day_of b.zone) b.history l d + reserved (day_of b.zone) b.history l d

-- the limit of a login and day in a ledger
abbrev pub cap_of : List ℕ → ℕ → Book → ℕ
cap_of l d b = cap b.default b.history l d
