-- Of which causes a log has that recipients of a session are refused: the latest warnings.
use Rattle.std.specs.Prelude.{◌≡◌, List, [], ◌∷◌, ◌++◌, length, drop, ◌==◌, if◌then◌else◌, ◌⊎◌}
use Rattle.mq_client.specs.declared.refusal.GivenWarning.{GivenWarning}

-- where 64 are remembered the oldest is forgotten before the next one
abbrev pub with_place : List GivenWarning → List GivenWarning
with_place given = if length given == 64 then drop 1 given else given

-- a warning was given, and is remembered if memory was left for it
abbrev pub Remembers : List GivenWarning → List GivenWarning → GivenWarning → Type 0
Remembers old new warning = (new ≡ with_place old ++ warning ∷ []) ⊎ (new ≡ with_place old)
