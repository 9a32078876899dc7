-- What a chore between the requests to a ledger has done, and what came to the ledger since.
use Rattle.std.specs.Prelude.{◌≡◌, List, ◌++◌}
use Rattle.mq_request.specs.declared.message.Request.{Request}
use Rattle.mq_ledger.specs.Answer.{history_of}
use Rattle.mq_ledger.specs.Day.{day_of}
use Rattle.mq_ledger.specs.History.{requests}
use Rattle.mq_ledger.specs.Legal.{Book, IsLegalBook}

-- some requests came to a ledger that meant the one book, which then means the other, and nothing else
pub record HasCome (b later : Book) : Type 0 where
  pub came : List Request
  pub zone : later.zone ≡ b.zone
  pub default : later.default ≡ b.default
  pub history : later.history ≡ history_of (day_of b.zone) b.default (requests b.history ++ came)

-- what was done fitted a ledger of some legal book, to which requests came since
pub record Fitted (fits : Book → Type 0) (now : Book) : Type 0 where
  pub since : Book
  pub legal : IsLegalBook since
  pub fitted : fits since
  pub come : HasCome since now
