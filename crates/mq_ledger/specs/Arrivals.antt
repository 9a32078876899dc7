-- Numbered requests, the floors of hosts, and the first arrival of each number that isn't below them.
use Rattle.std.specs.Prelude.{◌≡◌, ◌⊎◌, ℕ, ◌≤◌, List, [], ◌∷◌, ◌++◌, fold, Contains, Bool, false, not, ◌||◌, nat_lt}
use Rattle.std.specs.Prelude.{if◌then◌else◌, Option, Some, None}
use Rattle.std.specs.List.{list_any}
use Rattle.mq_request.specs.declared.message.Id.{Id}
use Rattle.mq_request.specs.declared.message.Request.{Request}
use Rattle.mq_request.specs.declared.message.Request.TheVariants.{Reserve, Settle, Release, Limit, Usage}
use Rattle.mq_request.specs.declared.message.Request.TheVariants.{List as ListRequest, Retire}
use Rattle.mq_request.specs.Same.{same_text, same_id}

-- the number of a request: usage and list have none
abbrev pub id_of : Request → Option Id
id_of (Reserve id txn moment login count) = Some id
id_of (Settle id txn moment login count) = Some id
id_of (Release id txn moment login) = Some id
id_of (Limit id from_day cap login) = Some id
id_of (Usage login day) = None
id_of (ListRequest day after) = None
id_of (Retire id) = Some id

-- the number is there and is that one
abbrev pub is_id : Id → Option Id → Bool
is_id id None = false
is_id id (Some other) = same_id id other

-- the request has that number
abbrev pub has_id : Id → Request → Bool
has_id id r = is_id id (id_of r)

-- the run to which a request raises the floor of a host: a retire of that host its own run
abbrev pub raised : List ℕ → Request → ℕ
raised h (Retire id) = if same_text h id.host then id.run else 0
raised h _ = 0

-- the greater of two numbers
abbrev pub greater : ℕ → ℕ → ℕ
greater a b = if nat_lt a b then b else a

-- the floor of a host: the greatest run of its retires, 0 where there is none
unfoldable pub floor : List Request → List ℕ → ℕ
floor rs h = fold (λ n r. greater n (raised h r)) 0 rs

-- no retire of that host has a greater run, and one has that run; or it is 0, where there is none
pub record IsFloor (rs : List Request) (h : List ℕ) (n : ℕ) : Type 0 where
  pub most : (id : Id) → Contains rs (Retire id) → id.host ≡ h → id.run ≤ n
  pub reached : (n ≡ 0) ⊎ ((id : Id) × Contains rs (Retire id) × (id.host ≡ h) × (id.run ≡ n))

-- the run of the number is below the floor of its host: it is retired
abbrev pub is_below : List Request → Id → Bool
is_below rs id = nat_lt id.run (floor rs id.host)

-- those kept, with the request after them where it is numbered, its run isn't below the floor that they give its
-- host, and none of them has its number
abbrev pub kept_with : List Request → Request → Option Id → List Request
kept_with kept r None = kept
kept_with kept r (Some id) = if is_below kept id || list_any (has_id id) kept then kept else kept ++ r ∷ []

-- the numbered requests, without each whose run is below the floor by those kept before it, or whose number one of
-- them has
abbrev pub first : List Request → List Request
first arrivals = fold (λ kept r. kept_with kept r (id_of r)) [] arrivals

-- by the number of an arrival: it is there, its run isn't below the floor, and no earlier arrival has it
abbrev pub is_first_by : List Request → Option Id → Bool
is_first_by earlier None = false
is_first_by earlier (Some id) = not (is_below (first earlier) id || list_any (has_id id) earlier)

-- an arrival is numbered, its run isn't retired, and no earlier one has its number
abbrev pub is_first : List Request → Request → Bool
is_first earlier r = is_first_by earlier (id_of r)
