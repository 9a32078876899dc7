-- What tables mean as a ledger: a function of the tables alone.
use Rattle.std.specs.Prelude.{ℕ, List}
use Rattle.std.specs.List.{filter_map}
use Rattle.mq_frame.specs.Reading.{request_at}
use Rattle.mq_request.specs.declared.message.Request.{Request}
use Rattle.mq_ledger.specs.declared.entry.Entry.{Entry}
use Rattle.mq_ledger.specs.declared.zone.Zone.{Zone}
use Rattle.mq_ledger.specs.Answer.{build}
use Rattle.mq_ledger.specs.Day.{day_of}
use Rattle.mq_ledger.specs.Legal.{Book, IsLegalBook}
use Rattle.mq_rows.specs.declared.record.AnswerRecord.{AnswerRecord}
use Rattle.mq_rows.specs.Tables.{Tables, AreRows}

-- the requests that the rows of answers spell, in the order of n
abbrev pub requests_in : List AnswerRecord → List Request
requests_in answers = filter_map (λ a. request_at a.request) answers

-- the history that these requests make: each with its answer over the history before it
abbrev pub history_in : (ℕ → ℕ) → ℕ → List AnswerRecord → List Entry
history_in day default answers = build day default (requests_in answers)

-- the zone, the default limit and that history
abbrev pub meaning : Zone → ℕ → List AnswerRecord → Book
meaning zone default answers =
    record { zone = zone; default = default; history = history_in (day_of zone) default answers }

-- the tables mean a legal history, and they are its rows
pub record AreSound (zone : Zone) (default : ℕ) (t : Tables) : Type 0 where
  pub legal : IsLegalBook (meaning zone default t.answers)
  pub rows : AreRows (meaning zone default t.answers) t
