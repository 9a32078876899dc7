-- What a new store takes over from an old one.
use Rattle.std.specs.Prelude.{◌≡◌, ◌+◌, ◌<◌, ℕ, List, [], take, length, Bool, Option, Some, None}
use Rattle.sqlite.specs.Effect.{Database}
use Rattle.mq_request.specs.declared.message.Request.{Request}
use Rattle.mq_request.specs.declared.message.Reply.{Reply}
use Rattle.mq_frame.specs.Spelling.{SpellsReply}
use Rattle.mq_ledger.specs.declared.entry.Entry.{Entry}
use Rattle.mq_ledger.specs.declared.zone.Zone.{Zone}
use Rattle.mq_ledger.specs.Day.{day_of}
use Rattle.mq_ledger.specs.History.{Transaction, named}
use Rattle.mq_ledger.specs.Legal.{IsLegalBook}
use Rattle.mq_rows.specs.declared.record.TransactionRecord.{TransactionRecord}
use Rattle.mq_forget.specs.Remembered.{day_named, is_set, stays, remembered}
use Rattle.mq_forget.specs.Carried.{IsAt}
use Rattle.mq_store.specs.declared.recall.RecalledAnswer.{RecalledAnswer}
use Rattle.mq_store.specs.declared.carry.JudgedAnswer.{JudgedAnswer}
use Rattle.mq_store.specs.Taking.{HasBook, book_of}

-- What is read of the old store, whatever the history is of which its tables are the rows.

-- the day of a transaction by its row, or of the moment where it has none
abbrev pub day_by : (ℕ → ℕ) → ℕ → Option TransactionRecord → ℕ
day_by day moment None = day moment
day_by day moment (Some row) = row.day

-- this is the day of the transaction, or of the moment where no entry names it
abbrev pub Names : Zone → Transaction → ℕ → Database → ℕ → Type 0
Names zone t moment db d =
    (default : ℕ) (H : List Entry) → HasBook (book_of zone default H) db → d ≡ day_named (day_of zone) moment (named H t)

-- a body that isn't empty spells the reply, where there is one
abbrev pub SpellsWhereKnown : List ℕ → Option Reply → Type 0
SpellsWhereKnown body None = Unit {0}
SpellsWhereKnown body (Some a) = (0 < length body) × SpellsReply body a

-- it is that reply, where there is one
abbrev pub IsWhereKnown : Option Reply → Reply → Type 0
IsWhereKnown None reply = Unit {0}
IsWhereKnown (Some a) reply = reply ≡ a

-- the entry at that place has the request, and the reply where there is one
pub record IsAnswered (H : List Entry) (place : ℕ) (a : RecalledAnswer) : Type 0 where
  pub reply : Reply
  pub at : IsAt H place (record { request = a.request; reply = reply })
  pub is : IsWhereKnown a.reply reply

-- so it is of each history of which the tables are the rows
abbrev pub IsAnsweredAt : ℕ → Database → RecalledAnswer → Type 0
IsAnsweredAt place db a =
    (zone : Zone) (default : ℕ) (H : List Entry) → HasBook (book_of zone default H) db → IsAnswered H place a

-- whether the entry stays; with nothing told, it stays where it is a limit that was set
abbrev pub IsTold : (ℕ → ℕ) → ℕ → List Entry → Entry → Option Bool → Type 0
IsTold day D H e None = stays day D H e ≡ is_set e.request e.reply
IsTold day D H e (Some b) = stays day D H e ≡ b

-- so it is of an entry with that request, and with that reply where there is one
abbrev pub TellsStaying : Zone → ℕ → RecalledAnswer → Database → Option Bool → Type 0
TellsStaying zone D a db told =
    (default : ℕ) (H : List Entry) → HasBook (book_of zone default H) db
    → (reply : Reply) → IsWhereKnown a.reply reply
    → IsTold (day_of zone) D H (record { request = a.request; reply = reply }) told

-- the entry at that place has the request, and it is told whether it stays
pub record IsJudged (day : ℕ → ℕ) (D : ℕ) (H : List Entry) (place : ℕ) (judged : JudgedAnswer) : Type 0 where
  pub reply : Reply
  pub at : IsAt H place (record { request = judged.request; reply = reply })
  pub told : IsTold day D H (record { request = judged.request; reply = reply }) judged.is_staying

-- so it is of each history of which the tables are the rows
abbrev pub IsJudgedAt : Zone → ℕ → ℕ → Database → JudgedAnswer → Type 0
IsJudgedAt zone D place db judged =
    (default : ℕ) (H : List Entry) → HasBook (book_of zone default H) db → IsJudged (day_of zone) D H place judged

-- What is applied again. A scratch store has the rows of a prefix of the old history.

-- with the entry at that place, the scratch store has the rows of the front that ends with it
abbrev pub Follows : Zone → ℕ → ℕ → Database → Database → Database → Type 0
Follows zone default place from old new =
    (H : List Entry) → HasBook (book_of zone default H) from → HasBook (book_of zone default (take place H)) old
    → HasBook (book_of zone default (take (place + 1) H)) new

-- so it does with the entry of that request, and tells whether this is a limit that was set
abbrev pub SetsAgain : Zone → ℕ → Request → Database → Database → Bool → Type 0
SetsAgain zone default r old new set =
    (H : List Entry) (place : ℕ) (reply : Reply) → IsLegalBook (book_of zone default H)
    → IsAt H place (record { request = r; reply = reply }) → HasBook (book_of zone default (take place H)) old
    → (is_set r reply ≡ set) × HasBook (book_of zone default (take (place + 1) H)) new

-- What is carried over.

-- where the new tables are the rows of what is remembered of a front, they are those of one with the entry of that request
-- more, which stays or goes
abbrev pub CarriesOne : Zone → ℕ → ℕ → Request → Bool → Database → Database → Type 0
CarriesOne zone default D r staying old new =
    (H : List Entry) (place : ℕ) (reply : Reply) → IsLegalBook (book_of zone default H)
    → IsAt H place (record { request = r; reply = reply })
    → stays (day_of zone) D H (record { request = r; reply = reply }) ≡ staying
    → HasBook (book_of zone default (remembered (day_of zone) D (take place H))) old
    → HasBook (book_of zone default (remembered (day_of zone) D (take (place + 1) H))) new

-- where the new tables are a new ledger's, they are the rows of what is remembered of the old history
abbrev pub Carries : Zone → ℕ → ℕ → Database → Database → Database → Type 0
Carries zone default D from old new =
    (H : List Entry) → HasBook (book_of zone default H) from → HasBook (book_of zone default []) old
    → HasBook (book_of zone default (remembered (day_of zone) D H)) new
