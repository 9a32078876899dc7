-- What a ledger means after one call after another.
use Rattle.std.proofs.Common.{◌≡◌, ℕ, Result, Ok, Err, None, sym, subst, subst₂}
use Rattle.sqlite.specs.Effect.{Database}
use Rattle.sqlite.specs.State.{State}
use Rattle.mq_ledger.specs.declared.zone.Zone.{Zone}
use Rattle.mq_ledger.specs.declared.ledger.LedgerFault.{LedgerFault}
use Rattle.mq_ledger.specs.Legal.{IsLegalBook}
use Rattle.mq_connections.specs.declared.fault.RoomFault.TheVariants.{Store}
use Rattle.mq_connections.specs.Asking.{out}
use Rattle.mq_connections.specs.Gained.{Callers}
use Rattle.mq_connections.specs.Sessions.{EndsServing, Outside}
use Rattle.mq_connections.specs.Wires.{Wire}
use Rattle.mq_store.specs.Soundness.{book_in, IsSound}
use Rattle.mq_program.specs.declared.fault.ProgramFault.{ProgramFault}
use Rattle.mq_program.specs.declared.fault.ProgramFault.TheVariants.{Audit}
use Rattle.mq_program.specs.Serving.{Serves}
use Rattle.mq_program.proofs.ServingEnds.{ends_unread}

-- the zones and defaults of a ledger stay
module _ (zone z1 z2 : Zone) (default d1 d2 : ℕ) (zone_is : z1 ≡ zone) (default_is : d1 ≡ default) (zone_stays : z2 ≡ z1) (default_stays : d2 ≡ d1) where
  pub sound_on : (s : State) → IsSound z2 d2 s → IsSound zone default s
  sound_on s is = subst₂ (λ k n. IsSound k n s) zone_is default_is (subst₂ (λ k n. IsSound k n s) zone_stays default_stays is)

  pub served_on : {who : Callers} (outcome : Result ℕ ProgramFault) (before after : ℕ → Wire) (db now later : Database) → now ≡ db → Serves who (out (book_in z1 d1 now) before) (out (book_in z2 d2 later) after) outcome
      → Serves who (out (book_in zone default db) before) (out (book_in zone default later) after) outcome
  served_on {who} outcome before after db now later same serves =
      subst₂ (λ k n. Serves who (out (book_in k n db) before) (out (book_in k n later) after) outcome) zone_is default_is
      (subst₂ (λ k n. Serves who (out (book_in z1 d1 db) before) (out (book_in k n later) after) outcome) zone_stays default_stays
      (subst (λ x. Serves who (out (book_in z1 d1 x) before) (out (book_in z2 d2 later) after) outcome) same serves))

-- nothing was served to a ledger that is as it was
pub still_served : {who : Callers} (zone : Zone) (default : ℕ) (wires : ℕ → Wire) (db now : Database) (q : Result ℕ ProgramFault) (cause : LedgerFault) → q ≡ Err (Audit cause) → ((o : Outside) → IsLegalBook o.book → EndsServing {A = Unit {0}} who o o Store (Ok tt)) → IsLegalBook (book_in zone default db) → now ≡ db
    → Serves who (out (book_in zone default db) wires) (out (book_in zone default now) wires) q
still_served {who} zone default wires db now q cause is none legal same =
    let o : Outside = out (book_in zone default db) wires in
    subst (λ x. Serves who o (out (book_in zone default x) wires) q) (sym same) (ends_unread o q cause is (none o legal))
