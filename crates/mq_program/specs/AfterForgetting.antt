-- What a server answers whose ledger has forgotten days.
use Rattle.std.specs.Prelude.{◌≡◌, ℕ, true, List, All, ◌∷◌, ◌++◌, Result}
use Rattle.sqlite.specs.Recovery.{Image}
use Rattle.sqlite.specs.State.{State}
use Rattle.mq_request.specs.Range.{IsRequest}
use Rattle.mq_request.specs.declared.message.Request.{Request}
use Rattle.mq_ledger.specs.declared.entry.Entry.{Entry}
use Rattle.mq_ledger.specs.declared.zone.Zone.{Zone}
use Rattle.mq_ledger.specs.Answer.{history_of}
use Rattle.mq_ledger.specs.Arrivals.{id_of}
use Rattle.mq_ledger.specs.Day.{day_of}
use Rattle.mq_ledger.specs.History.{requests}
use Rattle.mq_ledger.specs.Legal.{Book, IsLegal}
use Rattle.mq_forget.specs.Remembered.{AreLaterOrLate, is_about, is_of_no_forgotten, remembered}
use Rattle.mq_server.specs.Delivery.{answer_to, arrivals, history_after}
use Rattle.mq_server.specs.Life.{Exchange, deliveries}
use Rattle.mq_connections.specs.Asking.{out}
use Rattle.mq_connections.specs.Gained.{Callers}
use Rattle.mq_connections.specs.Sessions.{all_of}
use Rattle.mq_connections.specs.Wires.{Wire}
use Rattle.mq_store.specs.Taking.{book_of}
use Rattle.mq_program.specs.declared.fault.ProgramFault.{ProgramFault}
use Rattle.mq_program.specs.Opened.{KeepsBook}
use Rattle.mq_program.specs.Serving.{HasServed}

-- the book of a history after these arrivals
abbrev pub grown : Zone → ℕ → List Entry → List Request → Book
grown zone default H came = book_of zone default (history_of (day_of zone) default (requests H ++ came))

-- Of these exchanges each about D or a later day, under no number that is forgotten of H, has the answer that a ledger would
-- have given it that forgot nothing of H, where what came before it is later or late: `came`, and the arrivals since.
abbrev pub AnswersAsWhole : Zone → ℕ → ℕ → List Entry → List Request → List Exchange → Type 0
AnswersAsWhole zone default D H came xs =
    (before after : List Exchange) (x : Exchange) → xs ≡ before ++ x ∷ after
    → AreLaterOrLate (day_of zone) default D H (came ++ arrivals (deliveries before))
    → is_about (day_of zone) D (history_after (grown zone default H came) (deliveries before)) x.delivery.request ≡ true
    → is_of_no_forgotten (day_of zone) D H (id_of x.delivery.request) ≡ true
    → x.answer ≡ answer_to (grown zone default H came) (deliveries before) x.delivery

-- where the files hold the rows of what is remembered of a legal history, and of what came since, what was served is so
-- answered
abbrev pub ServesRemembered : {A : Type 0} → Callers → Zone → ℕ → Image → (before : ℕ → Wire) → State → (after : ℕ → Wire) → Result A ProgramFault → Type 0
ServesRemembered who zone default image before new after outcome =
    (D : ℕ) (H : List Entry) (came : List Request) → IsLegal (day_of zone) default H → All IsRequest came
    → KeepsBook image (grown zone default (remembered (day_of zone) D H) came)
    → (served : HasServed who zone default (out (grown zone default (remembered (day_of zone) D H) came) before) new after outcome)
    × AnswersAsWhole zone default D H came (all_of served.1.served.placed)
