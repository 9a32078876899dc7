-- The end of a serving, as the program reports it.
use Rattle.mq_nights.proofs.Ends.{ends_as}
use Rattle.std.proofs.Common.{◌≡◌, ◌≢◌, ◌∙◌, ℕ, Option, Some, None, true, Result, Ok, Err, refl, sym}
use Rattle.std.specs.Prelude.{is_ok, IsSome}
use Rattle.mq_lemmas.proofs.Options.{ok_not}
use Rattle.mq_connections.specs.declared.fault.RoomFault.{RoomFault}
use Rattle.mq_connections.specs.declared.fault.RoomFault.TheVariants.{Store}
use Rattle.mq_request.specs.declared.message.Request.{Request}
use Rattle.mq_connections.specs.Gained.{Callers}
use Rattle.mq_connections.specs.Sessions.{EndsServing, HaveServed, Outside}
use Rattle.mq_program.specs.declared.fault.ProgramFault.{ProgramFault}
use Rattle.mq_ledger.specs.declared.ledger.LedgerFault.{LedgerFault}
use Rattle.mq_program.specs.declared.fault.ProgramFault.TheVariants.{Audit, Listen, Serve, Store as unopened}
use Rattle.mq_program.specs.Nights.{AreServed}
use Rattle.mq_program.specs.Serving.{Serves}

listen_not : {A : Type 0} (q : Result A ProgramFault) → q ≡ Err Listen → q ≡ Err (Serve Store) → ⊥
listen_not q listen is = cc

served_to : {A B : Type 0} (r : Result A RoomFault) (q : Result B ProgramFault) (cause : RoomFault) (fault : ProgramFault) → r ≡ Err cause → q ≡ Err fault → fault ≡ Serve cause → r ≡ Err Store → q ≡ Err (Serve Store)
served_to r q cause fault is so gives store = cc

served_back : {A B : Type 0} (r : Result A RoomFault) (q : Result B ProgramFault) (cause : RoomFault) (fault : ProgramFault) → r ≡ Err cause → q ≡ Err fault → fault ≡ Serve cause → q ≡ Err (Serve Store) → r ≡ Err Store
served_back r q cause fault is so gives store = cc

-- the port can't be had
pub ends_unheard : {who : Callers} (o : Outside) (q : Result ℕ ProgramFault) → q ≡ Err Listen → EndsServing who o o Store (Ok (tt {0})) → EndsServing who o o (Serve Store) q
ends_unheard o q is e = ends_as o o Store (Ok (tt {0})) (Serve Store) q e (λ so. absurd (ok_not (tt {0}) Store so)) (λ so. absurd (listen_not q is so))

audit_not : {A : Type 0} (q : Result A ProgramFault) (cause : LedgerFault) → q ≡ Err (Audit cause) → q ≡ Err (Serve Store) → ⊥
audit_not q cause listed is = cc

-- the ledger's rows can't be read
pub ends_unread : {who : Callers} (o : Outside) (q : Result ℕ ProgramFault) (cause : LedgerFault) → q ≡ Err (Audit cause) → EndsServing who o o Store (Ok (tt {0})) → EndsServing who o o (Serve Store) q
ends_unread o q cause is e = ends_as o o Store (Ok (tt {0})) (Serve Store) q e (λ so. absurd (ok_not (tt {0}) Store so)) (λ so. absurd (audit_not q cause is so))

-- the serving ended by a fault
pub ends_faulty : {A B : Type 0} {who : Callers} (old new : Outside) (r : Result A RoomFault) (q : Result B ProgramFault) (cause : RoomFault) (fault : ProgramFault) → r ≡ Err cause → q ≡ Err fault → fault ≡ Serve cause → EndsServing who old new Store r → EndsServing who old new (Serve Store) q
ends_faulty old new r q cause fault is so gives e = ends_as old new Store r (Serve Store) q e (served_to r q cause fault is so gives) (served_back r q cause fault is so gives)

-- or well
pub ends_well : {A B E : Type 0} {who : Callers} {store : E} (old new : Outside) (r : Result A E) (x : A) (n : B) → r ≡ Ok x → EndsServing who old new store r → EndsServing who old new (Serve Store) (Ok n)
ends_well {store} old new r x n is e = ends_as old new store r (Serve Store) (Ok n) e (λ so. absurd (ok_not x store (sym is ∙ so))) (λ so. absurd (ok_not n (Serve Store) so))

not_err : {A E : Type 0} (q : Result A E) (e : E) → is_ok q ≡ true → q ≡ Err e → ⊥
not_err (Ok x) e good is = ok_not x e is
not_err (Err f) e good is = absurd (cc good)

-- or well, whatever is made of it
pub ends_good : {A B E : Type 0} {who : Callers} {store : E} (old new : Outside) (r : Result A E) (x : A) (q : Result B ProgramFault) → r ≡ Ok x → is_ok q ≡ true → EndsServing who old new store r → EndsServing who old new (Serve Store) q
ends_good {store} old new r x q is good e = ends_as old new store r (Serve Store) q e (λ so. absurd (ok_not x store (sym is ∙ so))) (λ so. absurd (not_err q (Serve Store) good so))

fault_to : {A B : Type 0} (r : Result A ProgramFault) (q : Result B ProgramFault) (fault store : ProgramFault) → r ≡ Err fault → q ≡ Err fault → r ≡ Err store → q ≡ Err store
fault_to r q fault store is so gives = cc

-- or by the fault that is handed on
pub ends_so : {A B : Type 0} {who : Callers} (old new : Outside) (r : Result A ProgramFault) (q : Result B ProgramFault) (fault : ProgramFault) → r ≡ Err fault → q ≡ Err fault → Serves who old new r → Serves who old new q
ends_so old new r q fault is so e = ends_as old new (Serve Store) r (Serve Store) q e (fault_to r q fault (Serve Store) is so) (fault_to q r fault (Serve Store) so is)

-- nothing was served, and it ended by no fault of the store
pub ends_still : {A : Type 0} {who : Callers} (o : Outside) (q : Result A ProgramFault) → (q ≡ Err (Serve Store) → ⊥) → EndsServing {A = Unit {0}} who o o Store (Ok tt) → Serves who o o q
ends_still o q differs e = ends_as o o Store (Ok (tt {0})) (Serve Store) q e (λ so. absurd (ok_not (tt {0}) Store so)) (λ so. absurd (differs so))

pub other_fault : {A : Type 0} (fault : ProgramFault) → fault ≢ Serve Store → (let q : Result A ProgramFault = Err fault in q ≡ Err (Serve Store)) → ⊥
other_fault fault other is = other cc

pub no_store : {A : Type 0} (fault : ProgramFault) → fault ≡ unopened → (let q : Result A ProgramFault = Err fault in q ≡ Err (Serve Store)) → ⊥
no_store fault unopened_is is = cc

pub no_fault : {A : Type 0} (x : A) → Ok x ≡ Err (Serve Store) → ⊥
no_fault x is = ok_not x (Serve Store) is

none_failed : {who : Callers} (old new : Outside) (failed : Option Request) → HaveServed who old new failed → (IsSome failed → ⊥) → AreServed who old new
none_failed old new None served none = served
none_failed old new (Some request) served none = absurd (none refl)

-- where it ended well, the store never failed
pub served_well : {A : Type 0} {who : Callers} (old new : Outside) (q : Result A ProgramFault) (x : A) → q ≡ Ok x → Serves who old new q → AreServed who old new
served_well old new q x is e = none_failed old new e.failed e.served (λ some. ok_not x (Serve Store) (sym is ∙ e.stops some))
