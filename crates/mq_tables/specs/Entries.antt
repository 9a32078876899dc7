-- What is read of an answer by its place.
use Rattle.std.specs.Prelude.{◌≡◌, ℕ, ◌==◌, false, List, Option, Some, None}
use Rattle.std.specs.List.{AllByRecursion}
use Rattle.sqlite.specs.Order.{Row, column}
use Rattle.sqlite.specs.declared.types.Value.TheVariants.{Blob}
use Rattle.sqlite_rules.specs.Lists.{Has}
use Rattle.mq_rows.specs.declared.record.AnswerRecord.{AnswerRecord}
use Rattle.mq_tables.specs.declared.entry.Bodies.{Bodies}
use Rattle.mq_tables.specs.Records.{IsFirstBy}

-- no row, or the bodies that the first shows
abbrev pub IsFirstBodies : List Row → Option Bodies → Type 0
IsFirstBodies = IsFirstBy (λ row (b : Bodies). (column row 1 ≡ Blob b.request) × (column row 2 ≡ Blob b.reply))

-- these are the bodies of an answer at that place
pub record AreBodiesAt (n : ℕ) (answers : List AnswerRecord) (b : Bodies) : Type 0 where
  pub answer : AnswerRecord
  pub among : Has answers answer
  pub place : answer.n ≡ n
  pub request : answer.request ≡ b.request
  pub reply : answer.reply ≡ b.reply

-- no answer is at that place, or these are the bodies of one
abbrev pub IsAnswerAt : ℕ → List AnswerRecord → Option Bodies → Type 0
IsAnswerAt n answers None = AllByRecursion (λ a. (n == a.n) ≡ false) answers
IsAnswerAt n answers (Some b) = AreBodiesAt n answers b
