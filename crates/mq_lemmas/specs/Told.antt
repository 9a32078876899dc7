-- What a ledger, a link or a source reports of its calls.
use Rattle.std.specs.Prelude.{◌≡◌, List, ◌++◌, ⊤, Option, None, Some}

-- what is reported has grown by these, where it is still reported afterwards
abbrev pub Tells : {X : Type 0} → Option (List X) → Option (List X) → List X → Type 0
Tells (Some before) (Some after) more = after ≡ before ++ more
Tells None (Some after) more = ⊥
Tells before None more = ⊤
