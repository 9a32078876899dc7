-- Which histories are legal, and what a ledger means.
use Rattle.std.specs.Prelude.{◌≡◌, ℕ, List, All}
use Rattle.mq_request.specs.Range.{IsRequest, IsAmount}
use Rattle.mq_ledger.specs.declared.entry.Entry.{Entry}
use Rattle.mq_ledger.specs.declared.zone.Zone.{Zone}
use Rattle.mq_ledger.specs.Answer.{build}
use Rattle.mq_ledger.specs.Arrivals.{first}
use Rattle.mq_ledger.specs.Day.{IsZone, day_of}
use Rattle.mq_ledger.specs.History.{requests}

-- the requests are in range, each is numbered, no number comes twice and none is below the floor by those before it,
-- and each has its answer
pub record IsLegal (day : ℕ → ℕ) (default : ℕ) (H : List Entry) : Type 0 where
  pub range : All (λ e. IsRequest e.request) H
  pub distinct : first (requests H) ≡ requests H
  pub built : H ≡ build day default (requests H)

-- what a ledger means: its zone, its default limit and its history, oldest entry first
pub record Book : Type 0 where
  pub zone : Zone
  pub default : ℕ
  pub history : List Entry

-- the history is legal with that zone and that default, which are in range
pub record IsLegalBook (b : Book) : Type 0 where
  pub zone : IsZone b.zone
  pub default : IsAmount b.default
  pub legal : IsLegal (day_of b.zone) b.default b.history
