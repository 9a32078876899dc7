-- The logins of which a log has that their limit of a day is reached.
use Rattle.std.specs.Prelude.{◌≡◌, ℕ, List, [], ◌∷◌, ◌++◌, length, Bool, ◌==◌, ◌&&◌, if◌then◌else◌, ◌⊎◌}
use Rattle.std.specs.List.{list_any}
use Rattle.mq_request.specs.Same.{same_text}
use Rattle.mq_client.specs.declared.logged_limits.LoggedLimit.{LoggedLimit}

-- whether a login is noted for a day
abbrev pub is_noted : ℕ → List ℕ → List LoggedLimit → Bool
is_noted day login noted = list_any (λ n. (n.day == day) && same_text n.login login) noted

-- where 2,000 are noted they are forgotten before the next one
abbrev pub with_room : List LoggedLimit → List LoggedLimit
with_room noted = if length noted == 2000 then [] else noted

-- a login was noted for a day, if memory was left for it
abbrev pub Notes : List LoggedLimit → List LoggedLimit → ℕ → List ℕ → Type 0
Notes old new day login = (new ≡ with_room old ++ record { day = day; login = login } ∷ []) ⊎ (new ≡ with_room old)
