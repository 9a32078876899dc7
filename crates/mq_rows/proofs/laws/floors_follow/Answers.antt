use Rattle.std.proofs.Common.{ℕ, List, refl}
use Rattle.mq_rows.proofs.Words.{AreRetired, Entry, FoundRows, IsFound, IsRequest, IsUnretired, Leads, Request, Retire, Tables, answer, appended, entry, retired_write, same_host, set_run}
use Rattle.mq_rows.proofs.Clearing.{Floors, floor_leads, floors_stay}
use Rattle.mq_rows.proofs.laws.floors_follow.Goals as goal

follow : (F : Floors) (day : ℕ → ℕ) (default : ℕ) (H : List Entry) (t : Tables) (r : Request) (f : FoundRows) → IsRequest r → IsUnretired H r → AreRetired H t.retired → IsFound day t r f
    → Leads same_host set_run (retired_write r f.floor) t.retired (AreRetired (appended day default H r))
follow F day default H t (Retire id) f in_range above are found = floor_leads F H id (above id refl) in_range.run.from t.retired f.floor are found
follow F day default H t r f in_range above are found = floors_stay F H (entry r (answer day default H r)) t.retired (λ h. refl) are

pub returns : goal.returns
returns c = follow (record { more = c.one_more_floor.ensures.floor; below = c.one_more_floor.ensures.below })
