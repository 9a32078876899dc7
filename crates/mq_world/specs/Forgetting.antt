-- Worlds whose ledger forgets days that are over, while runs go on.
use Rattle.std.specs.Prelude.{ℕ, ◌≤◌}
use Rattle.mq_forget.specs.Remembered.{remembered_book}
use Rattle.mq_world.specs.World.{Site, World, Next}

-- the world once its ledger has forgotten the days before D: runs and frames are as they were
abbrev pub forgotten : ℕ → World → World
forgotten D w = record {
  runs = w.runs;
  ledger = remembered_book D w.ledger;
  sent = w.sent;
  written = w.written;
}

-- the second world follows from the first by some steps, between which the ledger may forget days before F
pub data ReachesForgetting (site : Site) (start : World) (F : ℕ) : World → Type 0 where
  FromStart : ReachesForgetting site start F start
  Steps : (w later : World) → ReachesForgetting site start F w → Next site w later
      → ReachesForgetting site start F later
  Forgets : (w : World) (D : ℕ) → ReachesForgetting site start F w → D ≤ F
      → ReachesForgetting site start F (forgotten D w)
