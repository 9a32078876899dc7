-- What making a ledger prints.
use Rattle.std.specs.Prelude.{◌≡◌, ◌⊎◌, ℕ, List, [], ◌∷◌, ◌++◌, Option, None, Some, codes}
use Rattle.std.specs.Io.KnownBytes.{Appends, Keeps}
use Rattle.mq_stream.specs.Flow.{AppendsFront}
use Rattle.mq_program.specs.declared.fault.ProgramFault.{ProgramFault}
use Rattle.mq_program.specs.declared.fault.ProgramFault.TheVariants.{Write}

-- the line of a ledger that was made in the file at this path
abbrev pub made_line : List ℕ → List ℕ
made_line path = codes "made " ++ path ++ 10 ∷ []

-- the line of some path was printed
abbrev pub PrintsMade : Option (List ℕ) → Option (List ℕ) → Type 0
PrintsMade old new = (path : List ℕ) × Appends old new (made_line path)

-- the line of this path was printed
abbrev pub PrintsMadeIn : Option (List ℕ) → Option (List ℕ) → Option (List ℕ) → Type 0
PrintsMadeIn None old new = ⊥
PrintsMadeIn (Some path) old new = Appends old new (made_line path)

-- a prefix of the line of this path was printed
abbrev pub PrintsFrontOfMade : Option (List ℕ) → Option (List ℕ) → Option (List ℕ) → Type 0
PrintsFrontOfMade None old new = ⊥
PrintsFrontOfMade (Some path) old new = AppendsFront old new (made_line path)

-- Where the output fails, a prefix of the line was printed; before any other fault nothing was.
abbrev pub MadeFails : Option (List ℕ) → Option (List ℕ) → Option (List ℕ) → ProgramFault → Type 0
MadeFails path old new fault = ((fault ≡ Write) × PrintsFrontOfMade path old new) ⊎ Keeps old new
