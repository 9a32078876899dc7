-- What `status` prints of a ledger that no server has open.
use Rattle.std.specs.Prelude.{◌≡◌, ℕ, ℤ, ◌+◌, ◌/◌, List, [], ◌∷◌, ◌++◌, codes, length, Option, IsSomeAnd}
use Rattle.std.specs.Fmt.{decimal, signed_decimal}
use Rattle.std.specs.Io.KnownBytes.{Appends}
use Rattle.sqlite.specs.Effect.{Database}
use Rattle.sqlite.specs.Recovery.{Image}
use Rattle.mq_request.specs.Escaped.{escaped}
use Rattle.mq_ledger.specs.declared.zone.Zone.{Zone}
use Rattle.mq_ledger.specs.Day.{ByOffset, ByRule}
use Rattle.mq_ledger.specs.Legal.{Book}
use Rattle.mq_rows.specs.declared.setting.TheConstants.{VERSION}
use Rattle.mq_stream.specs.Flow.{AppendsFront}
use Rattle.mq_store.specs.declared.auditing.RowCounts.{RowCounts}
use Rattle.mq_store.specs.Soundness.{book_in}
use Rattle.mq_program.specs.declared.describing.LedgerCounts.{LedgerCounts}
use Rattle.mq_program.specs.Forgetting.{CountsLimits}
use Rattle.mq_program.specs.Memory.{megabytes_over}
use Rattle.mq_program.specs.Opened.{AreCountsIn, KeepsBook}

-- They are how many answers the ledger has, the days and transactions that were found as it was opened, and its limits.
pub record AreCounts (zone : Zone) (default : ℕ) (db : Database) (found : RowCounts) (counts : LedgerCounts) : Type 0 where
  pub answers : counts.answers ≡ length (book_in zone default db).history
  pub days : counts.days ≡ found.days
  pub transactions : counts.transactions ≡ found.transactions
  pub limits : CountsLimits db counts.limits

-- the seconds that a start takes at most over so many answers, by what was measured
abbrev pub start_seconds : ℕ → ℕ
start_seconds answers = answers / 27000 + 1

-- the path of the file, the version of its tables, and its bytes
abbrev pub file_line : List ℕ → ℕ → List ℕ
file_line path bytes =
    codes "ledger " ++ path ++ codes ": version " ++ decimal VERSION ++ codes ", " ++ decimal bytes ++ codes " bytes\n"

-- a default limit and an offset
abbrev pub offset_line : ℕ → ℤ → List ℕ
offset_line default minutes =
    codes "default " ++ decimal default ++ codes ", offset " ++ signed_decimal minutes ++ 10 ∷ []

-- the default limit, and the offset or the rule of the days
abbrev pub terms_line : Zone → ℕ → List ℕ
terms_line (ByOffset minutes) default = offset_line default minutes
terms_line (ByRule text) default = codes "default " ++ decimal default ++ codes ", rule " ++ escaped text ++ 10 ∷ []

-- the ledger's answers, its days of a login, its transactions and its limits
abbrev pub counts_line : ℕ → ℕ → ℕ → ℕ → List ℕ
counts_line answers days transactions limits =
    codes "answers=" ++ decimal answers ++ codes " days=" ++ decimal days ++ codes " transactions="
    ++ decimal transactions ++ codes " limits=" ++ decimal limits ++ 10 ∷ []

-- how long a start may take, and how much memory
abbrev pub start_line : ℕ → ℕ → List ℕ
start_line seconds megabytes =
    codes "a start takes up to about " ++ decimal seconds ++ codes " s and " ++ decimal megabytes ++ codes " MB\n"

-- all four lines
abbrev pub ledger_text : List ℕ → ℕ → Zone → ℕ → LedgerCounts → List ℕ
ledger_text path bytes zone default counts =
    file_line path bytes ++ terms_line zone default
    ++ counts_line counts.answers counts.days counts.transactions counts.limits ++ start_line (start_seconds counts.answers) (megabytes_over bytes)

-- the lines of the ledger with these rows were printed, with its counts
abbrev pub Describes : List ℕ → ℕ → Zone → ℕ → Database → RowCounts → Option (List ℕ) → Option (List ℕ) → Type 0
Describes path bytes zone default db found old new =
    (counts : LedgerCounts) × AreCounts zone default db found counts
    × Appends old new (ledger_text path bytes zone default counts)

-- a prefix of them was printed
abbrev pub DescribesFront : List ℕ → ℕ → Zone → ℕ → Database → RowCounts → Option (List ℕ) → Option (List ℕ) → Type 0
DescribesFront path bytes zone default db found old new =
    (counts : LedgerCounts) × AreCounts zone default db found counts
    × AppendsFront old new (ledger_text path bytes zone default counts)

-- Where the files hold the rows of a legal history, the lines of its ledger were printed, with the path of this file, some
-- count of its bytes, and what an audit of these rows finds.
abbrev pub DescribesFile : Zone → ℕ → Image → Option (List ℕ) → Database → Option (List ℕ) → Option (List ℕ) → Type 0
DescribesFile zone default image path db old new =
    (b : Book) → KeepsBook image b
    → IsSomeAnd path (λ p. (bytes : ℕ) × (found : RowCounts) × AreCountsIn zone default image found.days found.transactions
    × Describes p bytes zone default db found old new)
