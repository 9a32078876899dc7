-- What is printed of a ledger that was made of what an old one remembers.
use Rattle.std.specs.Prelude.{◌≡◌, ℕ, List, [], ◌∷◌, ◌++◌, codes, length, Option}
use Rattle.std.specs.Fmt.{decimal}
use Rattle.std.specs.Io.KnownBytes.{Appends}
use Rattle.sqlite.specs.Effect.{Database}
use Rattle.sqlite.specs.Recovery.{Image}
use Rattle.mq_ledger.specs.Legal.{Book}
use Rattle.mq_rows.specs.Audit.{Figures}
use Rattle.mq_tables.specs.Figures.{HasFigures}
use Rattle.mq_program.specs.Opened.{KeepsBook}
use Rattle.mq_program.specs.declared.forgetting.KeptCounts.{KeptCounts}

-- how many answers are kept of how many, and how many limits
abbrev pub kept_line : ℕ → ℕ → ℕ → List ℕ
kept_line answers all limits =
    codes "kept answers=" ++ decimal answers ++ codes " of " ++ decimal all ++ codes ", limits=" ++ decimal limits
    ++ 10 ∷ []

-- some such line was printed
abbrev pub PrintsKept : Option (List ℕ) → Option (List ℕ) → Type 0
PrintsKept old new = (answers all limits : ℕ) × Appends old new (kept_line answers all limits)

-- a line with so many answers of the old ledger was printed
abbrev pub PrintsKeptOf : ℕ → Option (List ℕ) → Option (List ℕ) → Type 0
PrintsKeptOf all old new = (answers limits : ℕ) × Appends old new (kept_line answers all limits)

-- where the files hold the rows of a legal history, a line with as many answers was printed
abbrev pub PrintsKeptOfFile : Image → Option (List ℕ) → Option (List ℕ) → Type 0
PrintsKeptOfFile image old new = (b : Book) → KeepsBook image b → PrintsKeptOf (length b.history) old new

-- where the rows of the tables that an audit reads have figures, it is how many rows the table of limits has
abbrev pub CountsLimits : Database → ℕ → Type 0
CountsLimits db count = (f : Figures) → HasFigures db f → count ≡ length f.limits

-- they are the answers of the new book and of the old one, and the limits of the new tables
pub record Counts (old new : Book) (db : Database) (kept : KeptCounts) : Type 0 where
  pub answers : kept.answers ≡ length new.history
  pub all : kept.all ≡ length old.history
  pub limits : CountsLimits db kept.limits
