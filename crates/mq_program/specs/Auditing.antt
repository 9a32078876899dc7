-- What `audit` prints, and how it ends.
use Rattle.std.specs.Prelude.{◌≡◌, ◌⊎◌, ℕ, ℤ, List, [], ◌∷◌, ◌++◌, codes, Option, Some, None}
use Rattle.std.specs.Fmt.{decimal}
use Rattle.std.specs.Io.KnownBytes.{Appends, Keeps}
use Rattle.sqlite.specs.Recovery.{Image}
use Rattle.mq_ledger.specs.declared.zone.Zone.{Zone}
use Rattle.mq_stream.specs.Flow.{AppendsFront}
use Rattle.mq_command.specs.Listed.{IsWrongObject, json_sound}
use Rattle.mq_process.specs.declared.arguments.OutputArgument.{OutputArgument}
use Rattle.mq_process.specs.declared.arguments.OutputArgument.TheVariants.{Text, Json}
use Rattle.mq_store.specs.declared.fault.OpenFault.TheVariants.{Damaged}
use Rattle.mq_program.specs.Opened.{AreCountsIn}
use Rattle.mq_program.specs.declared.fault.ProgramFault.{ProgramFault}
use Rattle.mq_program.specs.declared.fault.ProgramFault.TheVariants.{Memory, Open, Write}

-- the line of books that are right: the days of logins and the transactions that they have
abbrev pub sound_line : ℕ → ℕ → List ℕ
sound_line days transactions =
    codes "sound days=" ++ decimal days ++ codes " transactions=" ++ decimal transactions ++ 10 ∷ []

-- the same in this form
abbrev pub sound_text : OutputArgument → ℕ → ℕ → List ℕ
sound_text Text days transactions = sound_line days transactions
sound_text Json days transactions = json_sound days transactions

-- some text of books that are right was printed
abbrev pub PrintsSound : OutputArgument → Option (List ℕ) → Option (List ℕ) → Type 0
PrintsSound form old new = (days transactions : ℕ) × Appends old new (sound_text form days transactions)

-- the text of right books was printed that an audit of what the files hold finds, with its counts
abbrev pub PrintsAudit : OutputArgument → Zone → ℕ → Image → Option (List ℕ) → Option (List ℕ) → Type 0
PrintsAudit form zone default image old new =
    (days transactions : ℕ) × AreCountsIn zone default image days transactions
    × Appends old new (sound_text form days transactions)

-- Where the output fails, a prefix of these bytes was printed, and nothing where memory runs out.
abbrev pub FailsAfter : List ℕ → Option (List ℕ) → Option (List ℕ) → ProgramFault → Type 0
FailsAfter bytes old new fault = ((fault ≡ Write) × AppendsFront old new bytes) ⊎ ((fault ≡ Memory) × Keeps old new)

-- the login and the day at which books are wrong, where JSON is to tell this fault
abbrev pub wrong_at : OutputArgument → ProgramFault → Option (List ℕ × ℤ)
wrong_at Json (Open (Damaged login day)) = Some (login, day)
wrong_at _ _ = None

-- the object of books that are wrong there was printed, or nothing
abbrev pub SaysWrong : Option (List ℕ × ℤ) → Option (List ℕ) → Option (List ℕ) → Type 0
SaysWrong (Some (login, day)) old new = (text : List ℕ) × IsWrongObject login day text × Appends old new text
SaysWrong None old new = Keeps old new

-- Where it isn't done, nothing was printed; but as JSON the object of books that are wrong, with the least login and day that
-- are.
abbrev pub SaysFault : OutputArgument → ProgramFault → Option (List ℕ) → Option (List ℕ) → Type 0
SaysFault form fault old new = SaysWrong (wrong_at form fault) old new
